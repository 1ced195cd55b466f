use Rattle.std.proofs.Common.{◌≡◌, ℕ, ◌*◌, false, None, length, refl, ap, sym, ◌∙◌, subst, inl, inr, arith}
use Rattle.era_base.proofs.Moments.{went-join}
use Rattle.era_layout.specs.Root.{fields_of, pages_of}
use Rattle.era_model.specs.Marks.{BlockMarks}
use Rattle.era_slots.specs.Standing.{Stands}
use Rattle.era_meta.specs.Formatting.{marks_alone, LeavesBlankOr}
use Rattle.era_meta.specs.Keeping.{stored_in}
use Rattle.era_meta.specs.Meaning.{Meaning, pages_in, IsImageOf}
use Rattle.era_meta.specs.Putting.{PutsAmong}
use Rattle.era_meta.specs.Stored.{IsStoredRoot}
use Rattle.era_meta.proofs.Ends.{ok_map, at-fields}
use Rattle.era_meta.proofs.FirstKept.{blank-leave}
use Rattle.era_meta.proofs.MarksPut.{room-in}
use Rattle.era_meta.proofs.first_commit.store_first.Goals as goal

pub commit_first-requires-clause-may : goal.commit_first-requires-clause-may
commit_first-requires-clause-may g c = λ told.
    let next = fields_of c.args.next.now in
    let slots = c.put_root.new.slots in
    let blank = c.requires.blank.0 in
    let same = c.put_root.ensures.keeps.same in
    let mid = (g.D.Disk.history slots.disk).now in
    let size : length mid.seen ≡ g.D.Disk.sectors c.args.slots.now.disk * 512
    = (g.met.D.Disk.whole slots.disk told).bytes ∙ ap (λ (n : ℕ). n * 512) c.put_root.ensures.keeps.device.size in
    record {
      stands = at-fields (λ t n f. Stands t n f mid) slots.target 0 slots.number 0 slots.may_be_open false
          (sym (same.target ∙ blank.target)) (sym (same.number ∙ blank.number)) (sym (same.may_be_open ∙ blank.closed)) (c.put_root.ensures.keeps.stands told);
      whole = record {
        valid = c.requires.root.0;
        whole = c.pages_say_marks.ensures.whole (pages_in mid.seen) next c.args.marks.now c.requires.root.0 c.are_valid.ensures c.requires.root.1
            (c.in_ok-put_root.ensures.put told);
        snapshot = c.requires.root.2;
      };
      room = room-in next (g.D.Disk.sectors c.args.slots.now.disk) mid c.requires.room size;
    }

pub returns-clause-moments : goal.returns-clause-moments
returns-clause-moments g c = λ told.
    let next = fields_of c.args.next.now in
    let blank = c.requires.blank.0 in
    let mid = g.D.Disk.history c.put_root.new.slots.disk in
    let said : stored_in mid.now next None ≡ marks_alone c.args.marks.now
    = ap (λ (m : BlockMarks). marks_alone m) (c.pages_say_marks.ensures.marks (pages_in mid.now.seen) next c.args.marks.now c.requires.root.0
    c.are_valid.ensures c.requires.root.1 (c.in_ok-put_root.ensures.put told)) in
    went-join (PutsAmong (pages_of next) c.args.slots.now.target c.args.slots.now.number)
    (λ before now. LeavesBlankOr (stored_in before next None) now) (λ before. LeavesBlankOr (marks_alone c.args.marks.now))
    (g.D.Disk.history c.args.slots.now.disk) mid (g.D.Disk.history c.commit_first.new.slots.disk)
    (c.put_root.ensures.moments told) (c.commit_first.ensures.moments told)
    (λ state puts image is. inl (blank-leave c.standing_slots_leave_one_of_two_bodies.ensures state
    (at-fields (λ t n f. Stands t n f state) c.args.slots.now.target 0 c.args.slots.now.number 0 false false (sym blank.target) (sym blank.number) refl puts.stands)
    image is))
    (λ state puts leaves image is. elim (leaves image is) [
      | inl none ↦ inl none
      | inr new ↦ inr (subst (λ (meaning : Meaning). IsImageOf meaning image) said new)
    ])

pub returns-clause-ok : goal.returns-clause-ok
returns-clause-ok g c = ok_map c.commit_first.result (λ committed. (
  committed.0,
  λ told. let puts = c.in_ok-put_root.ensures.calls told in let more = committed.1 told in omega arith,
  λ told.
      let next = fields_of c.args.next.now in
      let mid = (g.D.Disk.history c.put_root.new.slots.disk).now in
      let said : stored_in mid next None ≡ marks_alone c.args.marks.now
      = ap (λ (m : BlockMarks). marks_alone m) (c.pages_say_marks.ensures.marks (pages_in mid.seen) next c.args.marks.now c.requires.root.0
      c.are_valid.ensures c.requires.root.1 (c.in_ok-put_root.ensures.put told)) in
      subst (λ (meaning : Meaning). IsStoredRoot c.commit_first.new.slots next None meaning (g.D.Disk.history c.commit_first.new.slots.disk).now) said
      (committed.2 told),
)) c.commit_first.ensures.ok
