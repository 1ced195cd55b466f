-- A stripe stands as it begins.
use Rattle.std.proofs.Common.{◌≡◌, Bool, true, [], ◌∷◌, None, refl, sym, arith, ap, ◌∙◌, subst}
use Rattle.era_base.specs.Calls.{Now}
use Rattle.era_base.specs.CrashModel.{clock, state_at}
use Rattle.era_base.specs.declared.disk.Disk.{Ghosts}
use Rattle.era_base.proofs.CrashImages.{state-now}
use Rattle.era_model.specs.declared.history.Happening.TheVariants.{Opened}
use Rattle.era_model.specs.declared.opening.Opening.{Opening}
use Rattle.era_notes.specs.Notes.{notes_of, first_device}
use Rattle.era_notes.specs.Parts.{HoldsContent}
use Rattle.era_notes.specs.Rooms.{entries_in}
use Rattle.era_stripe.specs.declared.stripe.Stripe.{Stripe}
use Rattle.era_stripe.specs.Stripes.{StripeView, ViewStands, StripeStands, IsPartOf, part_of}

-- no entry was drawn, and the present state has the content of the opening
new-stands : (tells : Bool) (opening : Opening) (view : StripeView) → IsPartOf opening view.geometry view.part → view.notes ≡ [] → view.begun ≡ clock view.history → view.least ≡ view.faults
    → view.state.flight ≡ None → view.state.entries ≡ [] → view.entries ≡ [] → (tells ≡ true → HoldsContent view.part (Opened opening ∷ []) view.history.now) → ViewStands tells opening view
new-stands tells opening view part none begun least idle undrawn empty holds = record {
  part = part;
  through = rw (none, begun) (λ told. (
    omega arith,
    λ moment begins ends.
        let present : clock view.history ≡ moment = omega (arith, begins, ends) in
        subst (λ m. HoldsContent view.part (Opened opening ∷ []) (state_at view.history m)) present
        (subst (HoldsContent view.part (Opened opening ∷ [])) (sym (state-now view.history)) (holds told)),
  ));
  flights = rw (none, idle) refl;
  legal = rw none tt;
  counts = rw (none, least) (omega arith);
  entries = rw (none, undrawn) refl;
  kept = empty ∙ sym undrawn;
  places = rw undrawn tt;
}

pub stands-start : {D : Type 0} (disk : Ghosts D) (opening : Opening) (stripe : Stripe D) (first : D) → IsPartOf opening stripe.geometry (part_of stripe) → notes_of disk stripe.notes ≡ []
    → first_device stripe.notes ≡ first → stripe.disk ≡ first → entries_in stripe.entries ≡ [] → stripe.seat.part.state.flight ≡ None → stripe.seat.part.state.entries ≡ []
    → Now disk (HoldsContent (part_of stripe) (Opened opening ∷ [])) first → StripeStands disk opening stripe
stands-start disk opening stripe first part none began is empty idle undrawn holds =
    let here : first_device stripe.notes ≡ stripe.disk = began ∙ sym is in
    new-stands disk.tells opening _ part none (ap (λ d. clock (disk.history d)) here) (ap disk.faults here) idle undrawn empty
    (λ told. subst (λ d. HoldsContent (part_of stripe) (Opened opening ∷ []) (disk.history d).now) (sym is) (holds told))
