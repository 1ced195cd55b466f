use Rattle.std.proofs.Common.{◌≡◌, true, false, length, refl, sym, ap, ◌∙◌, inr}
use Rattle.std.proofs.lemmas.Bool.{false≢true}
use Rattle.era_base.specs.CrashModel.{clock}
use Rattle.era_base.proofs.Moments.{went-now}
use Rattle.era_layout.specs.Root.{fields_of}
use Rattle.era_slots.specs.declared.slots.Slots.{Slots}
use Rattle.era_slots.specs.Standing.{Stands}
use Rattle.era_slots.specs.Promise.{Begins}
use Rattle.era_meta.specs.HeldCalls.{blocks_put, held_by_taking, with_flag}
use Rattle.era_meta.specs.Keeping.{stored_in, Keeps, IsLeft}
use Rattle.era_meta.specs.Putting.{PutsAmong, MayCommit}
use Rattle.era_meta.proofs.Begun.{begins-keeps, begins-says, left-before}
use Rattle.era_meta.proofs.Ends.{count-calls, ok_map2, on_err, at-fields}
use Rattle.era_meta.proofs.HeldPut.{apart-put, held-may, held-says}
use Rattle.era_meta.proofs.MarksPut.{true-unless, went-begun, put-keeps, put-says, went-prepared}
use Rattle.era_meta.proofs.held_stores.prepare_held.Goals as goal

-- the gate wasn't closed
pub returns-in_err-begin-clause-moments : goal.returns-in_err-begin-clause-moments
returns-in_err-begin-clause-moments g c = λ told held may.
    went-begun c.page_on_the_disk_is_left.ensures c.standing_slots_leave_one_of_two_bodies.ensures c.open_slot_is_left_as_it_reads.ensures
    c.args.slots.now.target c.args.slots.now.number c.args.slots.now.may_be_open (fields_of c.args.root.now) held
    (g.D.Disk.history c.args.slots.now.disk) (g.D.Disk.history c.begin.new.self.disk) may.keeps (c.begin.ensures.moments told)

pub returns-in_err-begin-clause-err : goal.returns-in_err-begin-clause-err
returns-in_err-begin-clause-err g c = on_err c.from_residual.result (λ told held may other.
    let target = c.args.slots.now.target in
    let number = c.args.slots.now.number in
    let flag = c.args.slots.now.may_be_open in
    let root = fields_of c.args.root.now in
    let old = g.D.Disk.history c.args.slots.now.disk in
    let new = g.D.Disk.history c.begin.new.self.disk in
    let same = c.begin.ensures.same.0 in
    let begins = went-now (Begins target number flag) old new (c.begin.ensures.moments told) in
    let opened : flag ≡ true = true-unless flag (λ is. false≢true (c.in_err-begin.ensures.begun.quiet is).0) in
    record {
      keeps = at-fields (λ t n f. Keeps t n f root held new.now) target c.begin.new.self.target number c.begin.new.self.number flag c.begin.new.self.may_be_open
          same.target same.number (c.in_err-begin.ensures.begun.failed ∙ sym opened)
          (begins-keeps target number flag root held old.now new.now may.keeps begins);
      says = begins-says target number flag root held old.now new.now may.keeps begins;
      left = λ now_open left is. inr (
        opened,
        left-before target number left old.now new.now may.keeps.stands.slot begins.same.bytes begins.failed begins.pages
            (at-fields (λ t n f. IsLeft t n left new.now) c.begin.new.self.target target c.begin.new.self.number number flag flag (sym same.target) (sym same.number) refl is),
      );
    })

-- the held root is put, if there is one
pub returns-clause-moments : goal.returns-clause-moments
returns-clause-moments g c = λ told held may.
    let target = c.args.slots.now.target in
    let number = c.args.slots.now.number in
    let root = fields_of c.args.root.now in
    let mid = g.D.Disk.history c.begin.new.self.disk in
    let same = c.begin.ensures.same.0 in
    let stands : Stands target number false mid.now
    = at-fields (λ t n f. Stands t n f mid.now) c.begin.new.self.target target c.begin.new.self.number number c.begin.new.self.may_be_open false
    (sym same.target) (sym same.number) (sym c.in_ok-begin.ensures.begun.begun) (c.begin.ensures.stands told) in
    went-prepared c.page_on_the_disk_is_left.ensures c.standing_slots_leave_one_of_two_bodies.ensures c.open_slot_is_left_as_it_reads.ensures
    (blocks_put c.args.taken) target number c.args.slots.now.may_be_open root held
    (g.D.Disk.history c.args.slots.now.disk) mid (g.D.Disk.history c.put_held.new.slots.disk) may.keeps
    (apart-put c.args.taken root held c.requires.valid may.none) stands (c.begin.ensures.moments told)
    (rw (same.target, same.number) at (c.put_held.ensures.moments told))

pub returns-clause-ok : goal.returns-clause-ok
returns-clause-ok g c = ok_map2 c.put_held.result (λ put calls. (
  (λ told held may.
      let target = c.args.slots.now.target in
      let number = c.args.slots.now.number in
      let flag = c.args.slots.now.may_be_open in
      let root = fields_of c.args.root.now in
      let taken = c.args.taken in
      let old = g.D.Disk.history c.args.slots.now.disk in
      let mid = g.D.Disk.history c.begin.new.self.disk in
      let new = g.D.Disk.history c.put_held.new.slots.disk in
      let same = c.begin.ensures.same.0 in
      let stands : Stands target number false mid.now
      = at-fields (λ t n f. Stands t n f mid.now) c.begin.new.self.target target c.begin.new.self.number number c.begin.new.self.may_be_open false
      (sym same.target) (sym same.number) (sym c.in_ok-begin.ensures.begun.begun) (c.begin.ensures.stands told) in
      let begins = went-now (Begins target number flag) old mid (c.begin.ensures.moments told) in
      let among = went-now (PutsAmong (blocks_put taken) target number) mid new (rw (same.target, same.number) at (c.put_held.ensures.moments told)) in
      let apart = apart-put taken root held c.requires.valid may.none in
      let keeps = put-keeps (blocks_put taken) target number flag root held old.now mid.now new.now may.keeps apart begins stands among in
      let says = put-says (blocks_put taken) target number flag root held old.now mid.now new.now may.keeps apart begins among in
      record {
        may = at-fields (λ t n f. MayCommit t n root (with_flag root taken) held (held_by_taking taken root) new.now) target c.put_held.new.slots.target
            number c.put_held.new.slots.number flag flag (c.put_held.ensures.keeps.same.target ∙ same.target)
            (c.put_held.ensures.keeps.same.number ∙ same.number) refl
            (held-may target number taken root held new.now keeps may.none (λ is. put is told));
        says = says;
        next_says = held-says taken root held new.now (stored_in old.now root held) says;
      }),
  c.put_held.ensures.keeps.same.may_be_open ∙ c.in_ok-begin.ensures.begun.begun,
  λ told. count-calls c.args.slots.now.may_be_open (clock (g.D.Disk.history c.args.slots.now.disk)) (clock (g.D.Disk.history c.begin.new.self.disk))
      (clock (g.D.Disk.history c.put_held.new.slots.disk)) (length (blocks_put c.args.taken))
      (λ opened. (c.in_ok-begin.ensures.closed opened).calls told)
      (λ closed. ap (λ (slots : Slots g.row.D.Denot). clock (g.D.Disk.history slots.disk)) (c.in_ok-begin.ensures.begun.quiet closed).1) (calls told),
)) c.put_held.ensures.put c.put_held.ensures.calls

pub returns-clause-err : goal.returns-clause-err
returns-clause-err g c = on_err c.put_held.result (λ told held may other.
    let target = c.args.slots.now.target in
    let number = c.args.slots.now.number in
    let flag = c.args.slots.now.may_be_open in
    let root = fields_of c.args.root.now in
    let taken = c.args.taken in
    let old = g.D.Disk.history c.args.slots.now.disk in
    let mid = g.D.Disk.history c.begin.new.self.disk in
    let new = g.D.Disk.history c.put_held.new.slots.disk in
    let same = c.begin.ensures.same.0 in
    let stands : Stands target number false mid.now
    = at-fields (λ t n f. Stands t n f mid.now) c.begin.new.self.target target c.begin.new.self.number number c.begin.new.self.may_be_open false
    (sym same.target) (sym same.number) (sym c.in_ok-begin.ensures.begun.begun) (c.begin.ensures.stands told) in
    let begins = went-now (Begins target number flag) old mid (c.begin.ensures.moments told) in
    let among = went-now (PutsAmong (blocks_put taken) target number) mid new (rw (same.target, same.number) at (c.put_held.ensures.moments told)) in
    let closed : c.put_held.new.slots.may_be_open ≡ false = c.put_held.ensures.keeps.same.may_be_open ∙ c.in_ok-begin.ensures.begun.begun in
    let apart = apart-put taken root held c.requires.valid may.none in
    record {
      keeps = at-fields (λ t n f. Keeps t n f root held new.now) target c.put_held.new.slots.target number c.put_held.new.slots.number false
          c.put_held.new.slots.may_be_open (c.put_held.ensures.keeps.same.target ∙ same.target) (c.put_held.ensures.keeps.same.number ∙ same.number) closed
          (put-keeps (blocks_put taken) target number flag root held old.now mid.now new.now may.keeps apart begins stands among);
      says = put-says (blocks_put taken) target number flag root held old.now mid.now new.now may.keeps apart begins among;
      left = λ opened. absurd (false≢true (sym closed ∙ opened));
    })
