use Rattle.std.proofs.Common.{arith, refl, []}
use Rattle.era_model.specs.declared.event.Event.TheVariants.{Tried}
use Rattle.era_gate.specs.Acts.{entry}
use Rattle.era_gate.specs.RowsOfActs.{command}
use Rattle.era_gate.specs.RowsOfViews.{forgetful_view}
use Rattle.era_gate.proofs.state_laws.other_views_break_the_invariant.Goals as goal

pub returns-clause-mark : goal.returns-clause-mark
returns-clause-mark c broken =
    let marked = broken.issued 2 (command 0) 0 1 0 [] (0, omega arith, refl) in
    let low = marked.2.1.1 in
    absurd (omega arith)

pub returns-clause-receipt : goal.returns-clause-receipt
returns-clause-receipt c broken =
    let has = broken.receipts.0 0 (entry 0 (Tried (command 0) 0 1)) (forgetful_view, refl, (1, omega arith, refl)) refl in
    let low = has.1 in
    absurd (omega arith)
