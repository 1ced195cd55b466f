use Rattle.std.proofs.Common.{refl, sym, ◌∙◌}
use Rattle.era_slots.specs.Slot.{page_of}
use Rattle.era_slots.proofs.Reading.{page-first, page-number, page-body}
use Rattle.era_slots.proofs.laws.slot_is_read_from_its_block.Goals as goal

pub returns-clause-gate : goal.returns-clause-gate
returns-clause-gate c = λ slot seen.
    let first = page-first slot seen (page_of slot seen) refl in
    (λ opened. sym first ∙ opened, λ opened. first ∙ opened)

pub returns-clause-number : goal.returns-clause-number
returns-clause-number c = λ slot seen. page-number slot seen (page_of slot seen) refl

pub returns-clause-body : goal.returns-clause-body
returns-clause-body c = page-body
