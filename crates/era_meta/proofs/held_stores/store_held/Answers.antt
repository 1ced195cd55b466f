use Rattle.std.proofs.Common.{ℕ, ◌+◌, nat_lt, refl, ap, ◌∙◌, subst, inl, inr, arith}
use Rattle.era_base.proofs.Moments.{went-join, went-wider}
use Rattle.era_layout.specs.Root.{fields_of}
use Rattle.era_slots.specs.Slot.{other}
use Rattle.era_meta.specs.HeldCalls.{held_by_taking, with_flag, with_snapshot}
use Rattle.era_meta.specs.Meaning.{Meaning, IsImageOf}
use Rattle.era_meta.specs.Keeping.{stored_in, MayLeave, LeavesEither}
use Rattle.era_meta.proofs.Ends.{on_err}
use Rattle.era_meta.proofs.HeldPut.{flag-valid}
use Rattle.era_meta.proofs.MarksPut.{Prepares}
use Rattle.era_meta.proofs.held_stores.store_held.Goals as goal

-- the held root wasn't put
pub returns-in_err-prepare_held-clause-moments : goal.returns-in_err-prepare_held-clause-moments
returns-in_err-prepare_held-clause-moments g c = λ told held may.
    let target = c.args.slots.now.target in
    let number = c.args.slots.now.number in
    let flag = c.args.slots.now.may_be_open in
    let root = fields_of c.args.root.now in
    went-wider (Prepares target number flag root held)
    (λ before now. MayLeave target number flag (stored_in before root held) (with_snapshot c.args.taken (stored_in before root held)) before now)
    (g.D.Disk.history c.args.slots.now.disk) (g.D.Disk.history c.prepare_held.new.slots.disk)
    (λ state prepares image is. elim (prepares image is) [ inl old ↦ inl (inl old) | inr was ↦ inr was ])
    (c.prepare_held.ensures.moments told held may)

pub returns-in_err-prepare_held-clause-err : goal.returns-in_err-prepare_held-clause-err
returns-in_err-prepare_held-clause-err g c = on_err c.from_residual.result (
  (λ told held may.
      c.in_err-prepare_held.ensures.err told held may
      (with_snapshot c.args.taken (stored_in (g.D.Disk.history c.args.slots.now.disk).now (fields_of c.args.root.now) held))),
  c.prepare_held.ensures.keeps.1,
  refl,
)

pub commit_root-requires-clause-valid : goal.commit_root-requires-clause-valid
commit_root-requires-clause-valid g c = flag-valid (fields_of c.args.root.now) c.args.taken c.requires.valid

-- the root is committed, or not
pub returns-in-Ok-clause-moments : goal.returns-in-Ok-clause-moments
returns-in-Ok-clause-moments g c = λ told held may.
    let target = c.args.slots.now.target in
    let number = c.args.slots.now.number in
    let flag = c.args.slots.now.may_be_open in
    let root = fields_of c.args.root.now in let taken = c.args.taken in
    let prepared = c.in_ok-prepare_held.ensures.ok.0 told held may in
    went-join (Prepares target number flag root held)
    (λ before now. LeavesEither (stored_in before root held) (stored_in before (with_flag root taken) (held_by_taking taken root)) now)
    (λ before now. MayLeave target number flag (stored_in before root held) (with_snapshot taken (stored_in before root held)) before now)
    (g.D.Disk.history c.args.slots.now.disk) (g.D.Disk.history c.prepare_held.new.slots.disk) (g.D.Disk.history c.commit_root.new.slots.disk)
    (c.prepare_held.ensures.moments told held may) (c.commit_root.ensures.moments told root held (held_by_taking taken root) prepared.may)
    (λ state prepares image is. elim (prepares image is) [ inl old ↦ inl (inl old) | inr was ↦ inr was ])
    (λ state prepares either image is. elim (either image is) [
      | inl old ↦ inl (inl (subst (λ (meaning : Meaning). IsImageOf meaning image) prepared.says old))
      | inr new ↦ inl (inr (subst (λ (meaning : Meaning). IsImageOf meaning image) prepared.next_says new))
    ])

pub returns-in-Ok-clause-ok : goal.returns-in-Ok-clause-ok
returns-in-Ok-clause-ok g c =
    let root = fields_of c.args.root.now in let taken = c.args.taken in
    let committed = c.in-Ok.ensures.ok in (
      (λ told held may.
          let prepared = c.in_ok-prepare_held.ensures.ok.0 told held may in
          let stored = committed.0 told root held (held_by_taking taken root) prepared.may in
          record {
            keeps = stored.keeps;
            says = stored.says ∙ prepared.next_says;
            images = λ image is. subst (λ (meaning : Meaning). IsImageOf meaning image) prepared.next_says (stored.images image is);
            alone = stored.alone;
          }),
      record {
        target = committed.1.target ∙ ap other c.prepare_held.ensures.keeps.1.target;
        number = committed.1.number ∙ ap (λ (n : ℕ). n + 1) c.prepare_held.ensures.keeps.1.number;
        may_be_open = committed.1.may_be_open ∙ ap (λ (n : ℕ). nat_lt 0 n) c.prepare_held.ensures.keeps.1.number;
      },
      (λ told. let one = c.in_ok-prepare_held.ensures.ok.2 told in let two = committed.2 told in omega arith),
      refl,
    )

pub returns-in-Err-clause-moments : goal.returns-in-Err-clause-moments
returns-in-Err-clause-moments g c = λ told held may.
    let target = c.args.slots.now.target in
    let number = c.args.slots.now.number in
    let flag = c.args.slots.now.may_be_open in
    let root = fields_of c.args.root.now in let taken = c.args.taken in
    let prepared = c.in_ok-prepare_held.ensures.ok.0 told held may in
    went-join (Prepares target number flag root held)
    (λ before now. LeavesEither (stored_in before root held) (stored_in before (with_flag root taken) (held_by_taking taken root)) now)
    (λ before now. MayLeave target number flag (stored_in before root held) (with_snapshot taken (stored_in before root held)) before now)
    (g.D.Disk.history c.args.slots.now.disk) (g.D.Disk.history c.prepare_held.new.slots.disk) (g.D.Disk.history c.commit_root.new.slots.disk)
    (c.prepare_held.ensures.moments told held may) (c.commit_root.ensures.moments told root held (held_by_taking taken root) prepared.may)
    (λ state prepares image is. elim (prepares image is) [ inl old ↦ inl (inl old) | inr was ↦ inr was ])
    (λ state prepares either image is. elim (either image is) [
      | inl old ↦ inl (inl (subst (λ (meaning : Meaning). IsImageOf meaning image) prepared.says old))
      | inr new ↦ inl (inr (subst (λ (meaning : Meaning). IsImageOf meaning image) prepared.next_says new))
    ])

pub returns-in-Err-clause-err : goal.returns-in-Err-clause-err
returns-in-Err-clause-err g c =
    let root = fields_of c.args.root.now in let taken = c.args.taken in
    let failed = c.in-Err.ensures.err in (
      (λ told held may.
          let prepared = c.in_ok-prepare_held.ensures.ok.0 told held may in
          let still = failed.0 told root held (held_by_taking taken root) prepared.may in
          record {
            keeps = still.keeps;
            says = still.says ∙ prepared.says;
            left = λ opened left is. inl (still.left opened left is ∙ prepared.next_says);
          }),
      record {
        target = failed.1.target ∙ c.prepare_held.ensures.keeps.1.target;
        number = failed.1.number ∙ c.prepare_held.ensures.keeps.1.number;
      },
      refl,
    )
