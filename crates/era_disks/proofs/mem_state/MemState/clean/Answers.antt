use Rattle.std.proofs.Common.{◌≡◌, ◌*◌, false, length, replicate, arith, refl, sym, ◌∙◌, ap, subst}
use Rattle.std.proofs.lemmas.List.{with_items_is, length-replicate}
use Rattle.era_base.specs.CrashModel.{IsClean}
use Rattle.era_disks.specs.Rows.{bytes_of, length-bytes_of}
use Rattle.era_disks.specs.Tears.{synced_rows}
use Rattle.era_disks.proofs.States.{cleaned}
use Rattle.era_disks.proofs.TornRows.{synced-clean}
use Rattle.era_disks.proofs.mem_state.MemState.clean.Goals as goal

pub returns-clause-synced : goal.returns-clause-synced
returns-clause-synced c =
    let old = c.args.self.now in
    let size : length c.fill.new.self ≡ length old.pending.items = omega (arith, c.fill.ensures.len, c.as_mut_slice.ensures.len, ap length c.as_mut_slice.ensures.value) in
    let is : (Rattle.std.specs.Vec.with_items c.args.self.now.pending c.fill.new.self).items ≡ replicate (length old.pending.items) false =
    with_items_is old.pending c.fill.new.self (omega (arith, size, c.as_mut_slice.ensures.len, c.fill.ensures.len))
    ∙ c.fill.ensures.after (λ y same. same) ∙ ap (λ k. replicate k false) (ap length c.as_mut_slice.ensures.value) in
    record {
      seen = refl;
      flags = ap length is ∙ length-replicate (length old.pending.items) false;
      clean = subst (λ ys. IsClean (record { seen = bytes_of old.rows.items; pending = ys })) (sym is)
          (cleaned (bytes_of old.rows.items) (length old.pending.items) (length-bytes_of old.rows.items ∙ ap (λ k. k * 512) (sym old.same)));
    }

pub returns-clause-kept : goal.returns-clause-kept
returns-clause-kept c =
    let old = c.args.self.now in
    let size : length c.fill.new.self ≡ length old.pending.items = omega (arith, c.fill.ensures.len, c.as_mut_slice.ensures.len, ap length c.as_mut_slice.ensures.value) in
    let is : (Rattle.std.specs.Vec.with_items c.args.self.now.pending c.fill.new.self).items ≡ replicate (length old.rows.items) false =
    with_items_is old.pending c.fill.new.self (omega (arith, size, c.as_mut_slice.ensures.len, c.fill.ensures.len))
    ∙ c.fill.ensures.after (λ y same. same) ∙ ap (λ k. replicate k false) (ap length c.as_mut_slice.ensures.value ∙ old.same) in
    ap bytes_of (ap (λ flags. synced_rows flags old.kept.items old.rows.items) is ∙ synced-clean old.kept.items old.rows.items old.each)
