-- A stripe stands after a write that was acknowledged, or cut.
use Rattle.std.proofs.Common.{◌≡◌, ℕ, ◌+◌, ◌*◌, ◌≤◌, List, [], ◌∷◌, ◌++◌, length, None, refl, sym, ap, ◌∙◌, subst}
use Rattle.era_base.specs.Calls.{EachMoment, Now, IsOnDisk}
use Rattle.era_base.specs.CrashModel.{SameBut, Went}
use Rattle.era_base.specs.Faults.{Rose}
use Rattle.era_base.specs.declared.disk.Disk.{Ghosts}
use Rattle.era_base.specs.declared.ids.CmdId.{CmdId}
use Rattle.era_gate.specs.Places.{AscendFrom}
use Rattle.era_gate.specs.StateAfter.{entry}
use Rattle.era_model.specs.declared.event.Event.{Event}
use Rattle.era_model.specs.declared.event.Event.TheVariants.{Go, Done, Cut}
use Rattle.era_model.specs.declared.opening.Opening.{Opening}
use Rattle.era_model.proofs.CommandReplies.{same_id-refl}
use Rattle.era_notes.specs.Parts.{IsIn, IsPlace, sector_in}
use Rattle.era_stripe.specs.declared.stripe.Stripe.{Stripe}
use Rattle.era_stripe.specs.Stripes.{StripeView, ViewStands, StripeStands, view_of, part_of, noted, left, called}
use Rattle.era_stripe.proofs.Issued.{issued, owes-go, owes-done, owes-cut, place-fits, stands-written, is-over}
use Rattle.era_stripe.proofs.Views.{stands-noted, stands-left}

-- what a write is of
pub record IsWrite {D : Type 0} (stripe : Stripe D) (block first : ℕ) (bytes : List ℕ) (sector : ℕ) : Type 0 where
  pub idle : stripe.seat.part.state.flight ≡ None
  pub of_part : IsIn (part_of stripe) block
  pub place : IsPlace stripe.geometry block first (length bytes)
  pub at : sector ≡ sector_in (part_of stripe) block first

-- what the device calls of it did
pub record WentWrite {D : Type 0} (disk : Ghosts D) (bytes : List ℕ) (sector : ℕ) (before after : D) : Type 0 where
  pub moments : EachMoment disk (SameBut (sector * 512) (sector * 512 + length bytes)) before after
  pub later : disk.faults before ≤ disk.faults after

-- the second of two draws, of what contracts see after the first
next-noted : (view : StripeView) (first second : Event) (p q : ℕ) (one : StripeView) → one ≡ noted view first p → AscendFrom 0 (one.state.entries ++ entry q second ∷ [])
    → AscendFrom 0 ((noted view first p).state.entries ++ entry q second ∷ [])
next-noted view first second p q one is next = subst (λ (v : StripeView). AscendFrom 0 (v.state.entries ++ entry q second ∷ [])) is next

-- the stripe stands while the write is in flight
pub stands-flying : {D : Type 0} (disk : Ghosts D) (opening : Opening) (old : Stripe D) (written : D) (id : CmdId) (block era first : ℕ) (bytes : List ℕ) (sector p : ℕ) → IsWrite old block first bytes sector
    → WentWrite disk bytes sector old.disk written → AscendFrom 0 (old.seat.part.state.entries ++ entry p (Go id block era first bytes) ∷ []) → StripeStands disk opening old
    → ViewStands disk.tells opening (called (noted (view_of disk old) (Go id block era first bytes) p) (disk.history written) (disk.faults written))
stands-flying disk opening old written id block era first bytes sector p write went next stands =
    let view : StripeView = view_of disk old in
    let one = stands-noted disk.tells opening view (Go id block era first bytes) p next (owes-go disk.tells opening view id block era first bytes write.idle write.of_part write.place stands) stands in
    stands-written disk.tells opening (noted view (Go id block era first bytes) p) (disk.history written) (disk.faults written) (issued id block first bytes) refl
    (place-fits opening view block first (length bytes) stands.part write.of_part write.place) went.later
    (λ told. subst (λ s. Went (SameBut (s * 512) (s * 512 + length bytes)) (disk.history old.disk) (disk.history written)) write.at (went.moments told))
    one

pub write-stands-done : {D : Type 0} (disk : Ghosts D) (opening : Opening) (old one new : Stripe D) (written : D) (id : CmdId) (block era first : ℕ) (bytes : List ℕ) (sector p q : ℕ)
    → IsWrite old block first bytes sector → WentWrite disk bytes sector old.disk written → Now disk (IsOnDisk (sector * 512) bytes) written
    → AscendFrom 0 (old.seat.part.state.entries ++ entry p (Go id block era first bytes) ∷ []) → AscendFrom 0 (one.seat.part.state.entries ++ entry q (Done id) ∷ [])
    → view_of disk one ≡ noted (view_of disk old) (Go id block era first bytes) p
    → view_of disk new ≡ left (noted (view_of disk (record one { disk = written })) (Done id) q)
    → StripeStands disk opening old → StripeStands disk opening new
write-stands-done disk opening old one new written id block era first bytes sector p q write went on next last first_is second_is stands =
    let view : StripeView = called (noted (view_of disk old) (Go id block era first bytes) p) (disk.history written) (disk.faults written) in
    let two = stands-flying disk opening old written id block era first bytes sector p write went next stands in
    let fits = place-fits opening (view_of disk old) block first (length bytes) stands.part write.of_part write.place in
    let owes = owes-done disk.tells opening view id (issued id block first bytes) refl (same_id-refl id) refl
    (λ told. is-over (part_of old) (issued id block first bytes) bytes (disk.history written).now fits refl write.place.some
    (subst (λ s. IsOnDisk (s * 512) bytes (disk.history written).now) write.at (on told))) two in
    let three = stands-left disk.tells opening (noted view (Done id) q) (stands-noted disk.tells opening view (Done id) q (next-noted (view_of disk old) (Go id block era first bytes) (Done id) p q (view_of disk one) first_is last) owes two) in
    subst (ViewStands disk.tells opening)
    (sym (second_is ∙ ap (λ (v : StripeView). left (noted (called v (disk.history written) (disk.faults written)) (Done id) q)) first_is)) three

pub write-stands-cut : {D : Type 0} (disk : Ghosts D) (opening : Opening) (old one new : Stripe D) (written : D) (id : CmdId) (block era first : ℕ) (bytes : List ℕ) (sector p q count : ℕ)
    → IsWrite old block first bytes sector → WentWrite disk bytes sector old.disk written → count ≡ disk.faults written → Rose (disk.faults old.disk) count
    → AscendFrom 0 (old.seat.part.state.entries ++ entry p (Go id block era first bytes) ∷ []) → AscendFrom 0 (one.seat.part.state.entries ++ entry q (Cut id count) ∷ [])
    → view_of disk one ≡ noted (view_of disk old) (Go id block era first bytes) p
    → view_of disk new ≡ noted (view_of disk (record one { disk = written })) (Cut id count) q
    → StripeStands disk opening old → StripeStands disk opening new
write-stands-cut disk opening old one new written id block era first bytes sector p q count write went present rose next last first_is second_is stands =
    let view : StripeView = called (noted (view_of disk old) (Go id block era first bytes) p) (disk.history written) (disk.faults written) in
    let two = stands-flying disk opening old written id block era first bytes sector p write went next stands in
    let owes = owes-cut disk.tells opening view id count (issued id block first bytes) refl (same_id-refl id) refl present rose two in
    let three = stands-noted disk.tells opening view (Cut id count) q (next-noted (view_of disk old) (Go id block era first bytes) (Cut id count) p q (view_of disk one) first_is last) owes two in
    subst (ViewStands disk.tells opening)
    (sym (second_is ∙ ap (λ (v : StripeView). noted (called v (disk.history written) (disk.faults written)) (Cut id count) q) first_is)) three
