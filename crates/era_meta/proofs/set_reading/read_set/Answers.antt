use Rattle.std.proofs.Common.{◌≡◌, ℕ, ◌-◌, ◌*◌, ◌+◌, ◌≤◌, min, [], ◌∷◌, length, get_or, drop, Ok, Err, refl, sym, ◌∙◌, subst, arith, below_more}
use Rattle.era_base.specs.CrashModel.{State}
use Rattle.era_base.proofs.Moments.{went-now}
use Rattle.era_slots.specs.Slot.{page_of}
use Rattle.era_meta.specs.Damage.{BitsPage, set_tests}
use Rattle.era_meta.specs.PageParts.{IsBitsPageOf}
use Rattle.era_meta.specs.Stored.{CanHold}
use Rattle.era_meta.specs.Walks.{Walked}
use Rattle.era_meta.proofs.Loops.{leads-on, leads-out, leads-end, set-more, set-past}
use Rattle.era_meta.proofs.Puts.{all-at}
use Rattle.era_meta.proofs.PutSets.{flags-put}
use Rattle.era_meta.proofs.set_reading.read_set.Goals as goal

pub loop-index-init : goal.loop-index-init
loop-index-init g c = record {
  goes = λ new result walked. walked;
  size = refl;
  disk = record { place = refl; size = refl };
  state = λ told. refl;
  clear = λ block le. c.requires.clear block;
  says = λ told page lt. absurd (omega arith);
}

pub read_bits_page-requires-clause-block : goal.read_bits_page-requires-clause-block
read_bits_page-requires-clause-block g c =
    let can = all-at (CanHold (g.D.Disk.sectors c.args.slots.now.disk)) c.args.numbers.now c.loop-index.index c.loop-index-test.true c.requires.blocks in
    subst (λ (sectors : ℕ). get_or c.args.numbers.now c.loop-index.index 0 * 8 + 8 ≤ sectors) (sym c.loop-index.invariant.disk.size) can.within

pub returns-in-Err-clause-walked : goal.returns-in-Err-clause-walked
returns-in-Err-clause-walked g c =
    leads-out g.D.Disk (set_tests (length c.args.into.now) c.loop-index.index (drop c.loop-index.index c.args.numbers.now))
    (BitsPage (get_or c.args.numbers.now c.loop-index.index 0) (min 32768 (length c.args.into.now - 32768 * c.loop-index.index)) ∷ [])
    (set_tests (length c.args.into.now) (c.loop-index.index + 1) (drop (c.loop-index.index + 1) c.args.numbers.now))
    (set_tests (length c.args.into.now) 0 c.args.numbers.now) c.args.slots.now c.loop-index.slots c.read_bits_page.new.slots c.in-Err.finding
    (set-more (length c.args.into.now) c.args.numbers.now c.loop-index.index c.loop-index-test.true)
    c.loop-index.invariant.goes
    (subst (λ (n : ℕ). Walked {T = Unit {0}} g.D.Disk (BitsPage (get_or c.args.numbers.now c.loop-index.index 0) (min 32768 (n - 32768 * c.loop-index.index)) ∷ []) c.loop-index.slots c.read_bits_page.new.slots (Err c.in-Err.finding))
    c.loop-index.invariant.size c.in-Err.ensures.walked)

pub loop-index-preserved : goal.loop-index-preserved
loop-index-preserved g c = record {
  goes =
      leads-on g.D.Disk (set_tests (length c.args.into.now) c.loop-index.index (drop c.loop-index.index c.args.numbers.now))
      (BitsPage (get_or c.args.numbers.now c.loop-index.index 0) (min 32768 (length c.args.into.now - 32768 * c.loop-index.index)) ∷ [])
      (set_tests (length c.args.into.now) (c.loop-index.index + 1) (drop (c.loop-index.index + 1) c.args.numbers.now))
      (set_tests (length c.args.into.now) 0 c.args.numbers.now) c.args.slots.now c.loop-index.slots c.read_bits_page.new.slots tt
      (set-more (length c.args.into.now) c.args.numbers.now c.loop-index.index c.loop-index-test.true)
      c.loop-index.invariant.goes
      (subst (λ (n : ℕ). Walked g.D.Disk (BitsPage (get_or c.args.numbers.now c.loop-index.index 0) (min 32768 (n - 32768 * c.loop-index.index)) ∷ []) c.loop-index.slots c.read_bits_page.new.slots (Ok tt))
      c.loop-index.invariant.size c.in-Ok.ensures.walked);
  size = c.read_bits_page.ensures.size ∙ c.loop-index.invariant.size;
  disk = record {
    place = c.in-Ok.ensures.walked.same.place ∙ c.loop-index.invariant.disk.place;
    size = c.in-Ok.ensures.walked.same.size ∙ c.loop-index.invariant.disk.size;
  };
  state = λ told.
      went-now (λ before now. now ≡ before) (g.D.Disk.history c.loop-index.slots.disk) (g.D.Disk.history c.read_bits_page.new.slots.disk)
      (c.in-Ok.ensures.walked.told told).went ∙ c.loop-index.invariant.state told;
  clear = λ block le. c.in-Ok.ensures.behind block (omega arith);
  says = λ told. below_more _ _
      (λ page lt bit within. c.loop-index.invariant.says told page lt bit within
      ∙ sym (c.in-Ok.ensures.before (32768 * page + bit) (omega arith)))
      (subst (λ (state : State). IsBitsPageOf c.read_bits_page.new.into c.loop-index.index (page_of (get_or c.args.numbers.now c.loop-index.index 0) state.seen))
      (c.loop-index.invariant.state told) (c.in-Ok.ensures.says told));
}

pub returns-clause-walked : goal.returns-clause-walked
returns-clause-walked g c =
    leads-end g.D.Disk (set_tests (length c.args.into.now) c.loop-index.index (drop c.loop-index.index c.args.numbers.now))
    (set_tests (length c.args.into.now) 0 c.args.numbers.now) c.args.slots.now c.loop-index.slots tt
    (set-past (length c.args.into.now) c.args.numbers.now c.loop-index.index c.loop-index-test.false) c.loop-index.invariant.goes

pub returns-clause-says : goal.returns-clause-says
returns-clause-says g c = λ told.
    flags-put c.loop-index.into c.args.numbers.now (g.D.Disk.history c.args.slots.now.disk).now
    (λ page lt. c.loop-index.invariant.says told page (omega (arith, c.loop-index-test.false)))
