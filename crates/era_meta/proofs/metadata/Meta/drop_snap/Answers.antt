use Rattle.std.proofs.Common.{false, refl, sym, subst, arith}
use Rattle.std.proofs.lemmas.Bool.{false≢true}
use Rattle.era_layout.specs.declared.root.Root.{Root}
use Rattle.era_meta.specs.Held.{snapshot_root}
use Rattle.era_meta.specs.MetaCalls.{IsStanding}
use Rattle.era_meta.specs.SnapshotCalls.{CommitsSnapshot, FailsToCommitSnapshot}
use Rattle.era_meta.proofs.Ends.{on_err}
use Rattle.era_meta.proofs.MetaHeld.{dropped-fit, held-stands, same-fit, still-holds}
use Rattle.era_meta.proofs.metadata.Meta.drop_snap.Goals as goal

pub store_held-requires : goal.store_held-requires
store_held-requires g c = record {
  stands = (λ told. (c.requires.ready.standing.stands told).keeps.stands, c.requires.ready.below);
  room = let room = c.requires.ready.standing.fit.room in omega arith;
  valid = c.requires.ready.standing.fit.valid;
}

-- the root wasn't committed
pub returns-in_err-store_held-clause-moments : goal.returns-in_err-store_held-clause-moments
returns-in_err-store_held-clause-moments g c = λ told.
    c.store_held.ensures.moments told (snapshot_root c.args.self.now.snapshot)
    (record { keeps = (c.requires.ready.standing.stands told).keeps; none = λ is. absurd (false≢true is) })

pub returns-in_err-store_held-clause-standing : goal.returns-in_err-store_held-clause-standing
returns-in_err-store_held-clause-standing g c =
    let old = c.args.self.now in let slots = c.store_held.new.slots in
    subst (λ (root : Root). IsStanding g.D.Disk (record old { slots = slots; root = root })) (sym c.in_err-store_held.ensures.err.2)
    (record {
      fit = same-fit g.D.Disk old slots c.store_held.ensures.keeps.device.size c.requires.ready.standing.fit;
      stands = λ told.
          let stands = c.requires.ready.standing.stands told in
          let still = c.in_err-store_held.ensures.err.0 told (snapshot_root old.snapshot) (record { keeps = stands.keeps; none = λ is. absurd (false≢true is) }) in
          still-holds old (record old { slots = slots }) false (g.D.Disk.history old.slots.disk).now (g.D.Disk.history slots.disk).now
          (record { keeps = still.keeps; says = still.says; left = still.left }) refl refl refl stands;
    })

pub returns-in_err-store_held-clause-err : goal.returns-in_err-store_held-clause-err
returns-in_err-store_held-clause-err g c = on_err c.from_residual.result (
    let old = c.args.self.now in let slots = c.store_held.new.slots in
    subst (λ (root : Root). FailsToCommitSnapshot g.D.Disk old false (record old { slots = slots; root = root })) (sym c.in_err-store_held.ensures.err.2)
    (record {
      still = λ told.
          let still = c.in_err-store_held.ensures.err.0 told (snapshot_root old.snapshot)
          (record { keeps = (c.requires.ready.standing.stands told).keeps; none = λ is. absurd (false≢true is) }) in
          record { keeps = still.keeps; says = still.says; left = still.left };
      snapshot = refl;
      number = c.in_err-store_held.ensures.err.1.number;
    }))

-- no snapshot is held
pub returns-clause-moments : goal.returns-clause-moments
returns-clause-moments g c = λ told.
    c.store_held.ensures.moments told (snapshot_root c.args.self.now.snapshot)
    (record { keeps = (c.requires.ready.standing.stands told).keeps; none = λ is. absurd (false≢true is) })

pub returns-clause-standing : goal.returns-clause-standing
returns-clause-standing g c =
    let old = c.args.self.now in let slots = c.store_held.new.slots in
    subst (λ (root : Root). IsStanding g.D.Disk (record old { slots = slots; root = root; snapshot = record old.snapshot { is_held = false } }))
    (sym c.in_ok-store_held.ensures.ok.3)
    (record {
      fit = dropped-fit g.D.Disk old slots c.store_held.ensures.keeps.device.size c.requires.ready.standing.fit;
      stands = λ told.
          let stands = c.requires.ready.standing.stands told in
          held-stands old (record old { slots = slots; root = record old.root { held = false }; snapshot = record old.snapshot { is_held = false } }) false
          (g.D.Disk.history old.slots.disk).now (g.D.Disk.history slots.disk).now
          (c.in_ok-store_held.ensures.ok.0 told (snapshot_root old.snapshot) (record { keeps = stands.keeps; none = λ is. absurd (false≢true is) }))
          refl refl stands.says refl;
    })

pub returns-clause-ok : goal.returns-clause-ok
returns-clause-ok g c =
    let old = c.args.self.now in let slots = c.store_held.new.slots in
    subst (λ (root : Root). CommitsSnapshot g.D.Disk old false (record old { slots = slots; root = root; snapshot = record old.snapshot { is_held = false } }))
    (sym c.in_ok-store_held.ensures.ok.3)
    (record {
      stored = λ told.
          c.in_ok-store_held.ensures.ok.0 told (snapshot_root old.snapshot)
          (record { keeps = (c.requires.ready.standing.stands told).keeps; none = λ is. absurd (false≢true is) });
      snapshot = refl;
      root = refl;
      shared = refl;
      number = c.in_ok-store_held.ensures.ok.1.number;
      calls = λ told. c.in_ok-store_held.ensures.ok.2 told;
    })
