use Rattle.std.proofs.Common.{ℕ, ◌+◌, nat_lt, ap, ◌∙◌, subst, inl, inr, arith}
use Rattle.era_base.proofs.Moments.{went-join, went-wider}
use Rattle.era_layout.specs.Root.{fields_of}
use Rattle.era_slots.specs.Slot.{other}
use Rattle.era_meta.specs.Meaning.{Meaning, IsImageOf}
use Rattle.era_meta.specs.Keeping.{stored_in, MayLeave, LeavesEither}
use Rattle.era_meta.specs.StoredMarks.{with_marks}
use Rattle.era_meta.proofs.Ends.{ok_map, err_map, on_err}
use Rattle.era_meta.proofs.MarksPut.{Prepares}
use Rattle.era_meta.proofs.stores.store_marks.Goals as goal

-- the pages weren't put
pub returns-in_err-put_marks-clause-moments : goal.returns-in_err-put_marks-clause-moments
returns-in_err-put_marks-clause-moments g c = λ told root held may.
    let target = c.args.slots.now.target in
    let number = c.args.slots.now.number in
    let flag = c.args.slots.now.may_be_open in
    went-wider (Prepares target number flag root held)
    (λ before now. MayLeave target number flag (stored_in before root held) (with_marks (stored_in before root held) c.args.marks.now) before now)
    (g.D.Disk.history c.args.slots.now.disk) (g.D.Disk.history c.put_marks.new.slots.disk)
    (λ state prepares image is. elim (prepares image is) [ inl old ↦ inl (inl old) | inr was ↦ inr was ])
    (c.put_marks.ensures.moments told root held may)

pub returns-in_err-put_marks-clause-err : goal.returns-in_err-put_marks-clause-err
returns-in_err-put_marks-clause-err g c = on_err c.from_residual.result (
  (λ told root held may.
      c.in_err-put_marks.ensures.err told root held may
      (with_marks (stored_in (g.D.Disk.history c.args.slots.now.disk).now root held) c.args.marks.now)),
  c.put_marks.ensures.keeps.1,
)

-- the root is committed, or not
pub returns-clause-moments : goal.returns-clause-moments
returns-clause-moments g c = λ told root held may.
    let target = c.args.slots.now.target in
    let number = c.args.slots.now.number in
    let flag = c.args.slots.now.may_be_open in
    let next = fields_of c.args.next.now in
    let prepared = c.in_ok-put_marks.ensures.ok.0 told root held may in
    went-join (Prepares target number flag root held)
    (λ before now. LeavesEither (stored_in before root held) (stored_in before next held) now)
    (λ before now. MayLeave target number flag (stored_in before root held) (with_marks (stored_in before root held) c.args.marks.now) before now)
    (g.D.Disk.history c.args.slots.now.disk) (g.D.Disk.history c.put_marks.new.slots.disk) (g.D.Disk.history c.commit_root.new.slots.disk)
    (c.put_marks.ensures.moments told root held may) (c.commit_root.ensures.moments told root held held prepared.may)
    (λ state prepares image is. elim (prepares image is) [ inl old ↦ inl (inl old) | inr was ↦ inr was ])
    (λ state prepares either image is. elim (either image is) [
      | inl old ↦ inl (inl (subst (λ (meaning : Meaning). IsImageOf meaning image) prepared.says old))
      | inr new ↦ inl (inr (subst (λ (meaning : Meaning). IsImageOf meaning image) prepared.next_says new))
    ])

pub returns-clause-ok : goal.returns-clause-ok
returns-clause-ok g c = ok_map c.commit_root.result (λ committed. (
  (λ told root held may.
      let prepared = c.in_ok-put_marks.ensures.ok.0 told root held may in
      let stored = committed.0 told root held held prepared.may in
      record {
        keeps = stored.keeps;
        says = stored.says ∙ prepared.next_says;
        images = λ image is. subst (λ (meaning : Meaning). IsImageOf meaning image) prepared.next_says (stored.images image is);
        alone = stored.alone;
      }),
  record {
    target = committed.1.target ∙ ap other c.put_marks.ensures.keeps.1.target;
    number = committed.1.number ∙ ap (λ (n : ℕ). n + 1) c.put_marks.ensures.keeps.1.number;
    may_be_open = committed.1.may_be_open ∙ ap (λ (n : ℕ). nat_lt 0 n) c.put_marks.ensures.keeps.1.number;
  },
  λ told. let one = c.in_ok-put_marks.ensures.ok.2 told in let two = committed.2 told in omega arith,
)) c.commit_root.ensures.ok

pub returns-clause-err : goal.returns-clause-err
returns-clause-err g c = err_map c.commit_root.result (λ failed. (
  (λ told root held may.
      let prepared = c.in_ok-put_marks.ensures.ok.0 told root held may in
      let still = failed.0 told root held held prepared.may in
      record {
        keeps = still.keeps;
        says = still.says ∙ prepared.says;
        left = λ opened left is. inl (still.left opened left is ∙ prepared.next_says);
      }),
  record {
    target = failed.1.target ∙ c.put_marks.ensures.keeps.1.target;
    number = failed.1.number ∙ c.put_marks.ensures.keeps.1.number;
  },
)) c.commit_root.ensures.err
