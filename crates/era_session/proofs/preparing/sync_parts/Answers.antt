use Rattle.std.proofs.Common.{◌≡◌, ◌<◌, length, refl, subst, arith}
use Rattle.std.proofs.lemmas.Option.{slice_get_read}
use Rattle.era_session.specs.Openings.{AreSyncedBelow}
use Rattle.era_session.proofs.SyncedParts.{failed-at, synced-next, synced-none}
use Rattle.era_session.proofs.preparing.sync_parts.Goals as goal

pub loop-index-init : goal.loop-index-init
loop-index-init g c = record { synced = synced-none g.D.Disk c.args.parts.now.items }

pub loop-index-preserved : goal.loop-index-preserved
loop-index-preserved g c =
    let now = c.loop-index.parts in
    let low : c.loop-index.index < length now.items = omega (arith, c.loop-index.invariant.synced.count) in
    let found = slice_get_read now.items _ c.loop-index.index c.index_mut.result.now refl low c.index_mut.ensures.value in
    record { synced = synced-next g.D.Disk c.loop-index.index c.args.parts.now.items now.items c.index_mut.result.now c.sync_part.new.part c.loop-index.invariant.synced found c.in_default.ensures }

pub returns-in-Err : goal.returns-in-Err
returns-in-Err g c =
    let now = c.loop-index.parts in
    let low : c.loop-index.index < length now.items = omega (arith, c.loop-index.invariant.synced.count) in
    let found = slice_get_read now.items _ c.loop-index.index c.index_mut.result.now refl low c.index_mut.ensures.value in
    record { did = failed-at g.D.Disk c.loop-index.index c.in-Err.count c.args.parts.now.items now.items c.index_mut.result.now c.sync_part.new.part c.loop-index.invariant.synced found c.in-Err.ensures }

pub returns : goal.returns
returns g c =
    let end : c.loop-index.index ≡ length c.args.parts.now.items = omega arith in
    record { did = subst (λ n. AreSyncedBelow g.D.Disk n c.args.parts.now.items c.loop-index.parts.items) end c.loop-index.invariant.synced }
