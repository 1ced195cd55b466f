-- What a crash leaves of a stripe that stands.
use Rattle.std.proofs.Common.{◌≡◌, Bool, true}
use Rattle.era_base.specs.CrashModel.{clock}
use Rattle.era_model.specs.declared.opening.Opening.{Opening}
use Rattle.era_notes.specs.Notes.{own_history}
use Rattle.era_notes.specs.Parts.{HoldsContent, LeavesContent}
use Rattle.era_notes.proofs.Held.{holds-leaves}
use Rattle.era_notes.proofs.Windows.{through-wider}
use Rattle.era_stripe.specs.Stripes.{StripeView, ViewStands, LeavesItsContent}
use Rattle.era_stripe.proofs.Issued.{holds-now}

pub leaves-through : (tells : Bool) (opening : Opening) (view : StripeView) → ViewStands tells opening view → tells ≡ true → LeavesItsContent opening view
leaves-through tells opening view stands told =
    through-wider (λ notes. HoldsContent view.part (own_history opening notes)) (λ notes. LeavesContent view.part (own_history opening notes)) view.history view.begun (clock view.history) view.notes
    (λ notes state holds. holds-leaves view.part (own_history opening notes) state holds) (stands.through told)

pub leaves-now : (tells : Bool) (opening : Opening) (view : StripeView) → ViewStands tells opening view → tells ≡ true → LeavesContent view.part (own_history opening view.notes) view.history.now
leaves-now tells opening view stands told = holds-leaves view.part (own_history opening view.notes) view.history.now (holds-now tells opening view stands told)
