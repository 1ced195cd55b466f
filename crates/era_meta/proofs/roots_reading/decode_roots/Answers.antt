use Rattle.std.proofs.Common.{◌≡◌, ℕ, ap, ◌∙◌, subst, arith}
use Rattle.era_slots.specs.Opening.{IsOther}
use Rattle.era_slots.specs.Slot.{other, SlotIsOpen, body_of}
use Rattle.era_meta.proofs.roots_reading.decode_roots.Goals as goal

pub returns-then-active-eq0-clause-found : goal.returns-then-active-eq0-clause-found
returns-then-active-eq0-clause-found c = λ seen opened is beside.
    let zero : c.args.active ≡ 0 = omega arith in
    c.decode_first.ensures.found seen (subst (λ (slot : ℕ). SlotIsOpen slot seen) zero opened) (is ∙ ap (λ (slot : ℕ). body_of slot seen) zero)
    (subst (λ (slot : ℕ). IsOther (other slot) seen c.args.beside.now) zero beside)

pub returns-else-active-eq0-clause-found : goal.returns-else-active-eq0-clause-found
returns-else-active-eq0-clause-found c = λ seen opened is beside.
    let one : c.args.active ≡ 1 = omega (arith, c.requires.active, c.if-active-eq0.false) in
    c.decode_second.ensures.found seen (subst (λ (slot : ℕ). SlotIsOpen slot seen) one opened) (is ∙ ap (λ (slot : ℕ). body_of slot seen) one)
    (subst (λ (slot : ℕ). IsOther (other slot) seen c.args.beside.now) one beside)
