-- A stripe stands after its cut write was resolved.
use Rattle.std.proofs.Common.{◌≡◌, ℕ, ◌*◌, ◌<◌, ◌≤◌, List, [], ◌∷◌, ◌++◌, length, vec_len, refl, sym, ◌∙◌, subst}
use Rattle.era_base.specs.Calls.{EachMoment, IsOnDisk, Now}
use Rattle.era_base.specs.CrashModel.{SameBut}
use Rattle.era_base.specs.declared.disk.Disk.{Ghosts}
use Rattle.era_base.specs.declared.ids.CmdId.{CmdId}
use Rattle.era_gate.specs.Places.{AscendFrom}
use Rattle.era_gate.specs.StateAfter.{entry}
use Rattle.era_model.specs.declared.event.Event.TheVariants.{Settle}
use Rattle.era_model.specs.declared.flight.FlightWrite.{FlightWrite}
use Rattle.era_model.specs.declared.opening.Opening.{Opening}
use Rattle.era_model.proofs.CommandReplies.{same_id-refl}
use Rattle.era_notes.specs.Parts.{sector_in}
use Rattle.era_notes.proofs.Offsets.{FitsIn}
use Rattle.era_stripe.specs.declared.cut_write.CutWrite.{CutWrite}
use Rattle.era_stripe.specs.declared.stripe.Stripe.{Stripe}
use Rattle.era_stripe.specs.Stripes.{IsCutWrite, StripeView, ViewStands, StripeStands, view_of, part_of, cut_flight_of, noted, left, called}
use Rattle.era_stripe.proofs.Issued.{owes-settle, place-fits, stands-quiet, is-over}
use Rattle.era_stripe.proofs.Views.{stands-noted, stands-left}

-- what was read back of a cut write
pub record SettledRead {D : Type 0} (disk : Ghosts D) (cut : CutWrite) (bytes : List ℕ) (sector : ℕ) (old : Stripe D) (later : D) : Type 0 where
  pub moments : EachMoment disk (SameBut 0 0) old.disk later
  pub rises : disk.faults old.disk ≤ disk.faults later
  pub on_disk : Now disk (IsOnDisk (sector * 512) bytes) later
  pub size : length bytes ≡ vec_len cut.buffer
  pub at : sector ≡ sector_in (part_of old) cut.block cut.first

pub settle-stands : {D : Type 0} (disk : Ghosts D) (opening : Opening) (old new : Stripe D) (later : D) (cut : CutWrite) (by : CmdId) (bytes : List ℕ) (sector q : ℕ)
    → IsCutWrite old.geometry (part_of old) cut old.seat.part → SettledRead disk cut bytes sector old later
    → AscendFrom 0 (old.seat.part.state.entries ++ entry q (Settle by cut.id bytes) ∷ [])
    → view_of disk new ≡ left (noted (called (view_of disk old) (disk.history later) (disk.faults later)) (Settle by cut.id bytes) q)
    → StripeStands disk opening old → StripeStands disk opening new
settle-stands disk opening old new later cut by bytes sector q there read next new_is stands =
    let before : StripeView = view_of disk old in
    let view : StripeView = called before (disk.history later) (disk.faults later) in
    let write : FlightWrite = cut_flight_of cut there.bytes in
    let one = stands-quiet disk.tells opening before (disk.history later) (disk.faults later) 0 read.rises read.moments stands in
    let size : length bytes ≡ length write.bytes = read.size ∙ sym there.size in
    let fits : FitsIn (part_of old) cut.block cut.first (length write.bytes) =
    subst (λ n. FitsIn (part_of old) cut.block cut.first n) (sym there.size) (place-fits opening before cut.block cut.first (vec_len cut.buffer) stands.part there.of_part there.place) in
    let some : 0 < length bytes = subst (λ n. 0 < n) (sym read.size) there.place.some in
    let owes = owes-settle disk.tells opening view by cut.id bytes write there.flight (same_id-refl cut.id) refl size
    (λ told. is-over (part_of old) write bytes (disk.history later).now fits size some (subst (λ s. IsOnDisk (s * 512) bytes (disk.history later).now) read.at (read.on_disk told))) one in
    let two = stands-left disk.tells opening (noted view (Settle by cut.id bytes) q) (stands-noted disk.tells opening view (Settle by cut.id bytes) q next owes one) in
    subst (ViewStands disk.tells opening) (sym new_is) two
