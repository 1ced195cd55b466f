-- What the draws of reads and of failures owe.
use Rattle.std.proofs.Common.{◌≡◌, ℕ, ◌+◌, ◌*◌, ◌/◌, ◌<◌, ◌≤◌, Bool, true, false, List, [], ◌∷◌, length, Option, Some, None, arith, refl, sym, ap, ◌∙◌, subst}
use Rattle.std.specs.Prelude.{slice_index}
use Rattle.era_base.specs.Bytes.{part as bytes_at}
use Rattle.era_base.specs.CrashModel.{State}
use Rattle.era_base.specs.Faults.{Rose}
use Rattle.era_base.specs.Geometry.{place_at}
use Rattle.era_base.specs.declared.ids.CmdId.{CmdId}
use Rattle.era_gate.specs.StateAfter.{flights}
use Rattle.era_model.specs.declared.event.Event.TheVariants.{Read, Refused, Unsettled}
use Rattle.era_model.specs.declared.event.Kind.{Kind}
use Rattle.era_model.specs.declared.event.Why.TheVariants.{DataFault}
use Rattle.era_model.specs.declared.flight.FlightWrite.{FlightWrite}
use Rattle.era_model.specs.declared.opening.Opening.{Opening}
use Rattle.era_model.specs.Events.{same_id}
use Rattle.era_model.specs.History.{at_opening, content, in_flight}
use Rattle.era_model.specs.Writes.{is_cut, is_cut_at, is_written_at}
use Rattle.era_notes.specs.Notes.{own_history, last_faults}
use Rattle.era_notes.specs.Parts.{Part, IsIn, IsPlace, HoldsBut, offset_in, sector_in}
use Rattle.era_notes.proofs.Drawn.{cut-own}
use Rattle.era_notes.proofs.Offsets.{sector-at, byte-in_block}
use Rattle.era_base.specs.declared.geometry.Geometry.{Geometry}
use Rattle.era_gate.specs.declared.parts.StripePart.{StripePart}
use Rattle.era_stripe.specs.declared.cut_write.CutWrite.{CutWrite}
use Rattle.era_stripe.specs.Stripes.{StripeView, ViewStands, CutFits, IsPartOf, cut_flight_of}
use Rattle.era_stripe.proofs.Issued.{opening-own, holds-now, on-size, on-byte}
use Rattle.era_stripe.proofs.Views.{OwesDraw}

-- each write that is in flight is cut
abbrev pub AllCut : List FlightWrite → Type 0
AllCut writes = (block offset : ℕ) → is_cut_at writes block offset ≡ false → is_written_at writes block offset ≡ false

pub all_cut-one : (write : FlightWrite) → write.cut ≡ true → AllCut (write ∷ [])
all_cut-one write is block offset clear = rw is at clear

-- the place of a read
read-place : (opening : Opening) (view : StripeView) (sector block first count : ℕ) → IsPartOf opening view.geometry view.part → IsPlace view.geometry block first count
    → block * view.geometry.block_sectors + first ≡ sector
    → at_opening None (λ o. place_at o.geometry.sectors o.geometry.block_sectors sector (count / 512)) (own_history opening view.notes) ≡ Some (block, first)
read-place opening view sector block first count of_part place is =
    opening-own None (λ o. place_at o.geometry.sectors o.geometry.block_sectors sector (count / 512)) opening view.notes
    ∙ rw (of_part.sectors, of_part.block_sectors) (ap (λ s. place_at view.geometry.sectors view.geometry.block_sectors s (count / 512)) (sym is) ∙ place.place)

-- what was read is the content
read-byte : (part : Part) (contents : ℕ → List ℕ) (writes : List FlightWrite) (now : State) (block first : ℕ) (bytes : List ℕ) (offset : ℕ) → IsIn part block
    → first * 512 + length bytes ≤ part.size * 512 → 0 < length bytes → bytes_at (sector_in part block first * 512) (length bytes) now.seen ≡ bytes → HoldsBut part contents writes now
    → offset < length bytes → is_written_at writes block (first * 512 + offset) ≡ false → slice_index bytes offset ≡ slice_index (contents block) (first * 512 + offset)
read-byte part contents writes now block first bytes offset is small some read holds within clear =
    let size = on-size (sector_in part block first * 512) bytes now some read in
    let at = sector-at part block first in
    let here : sector_in part block first * 512 + offset ≡ offset_in part block (first * 512 + offset) = omega (arith, at) in
    let inside = byte-in_block part now.seen block (first * 512 + offset) (omega (arith, small, within)) (omega (arith, here, size, within)) in
    let has = holds.bytes block (first * 512 + offset) is (omega (arith, inside, holds.sizes block is)) clear in
    sym (on-byte (sector_in part block first * 512) bytes now offset within read) ∙ ap (λ n. slice_index now.seen n) here ∙ has.same

pub owes-read : (tells : Bool) (opening : Opening) (view : StripeView) (id : CmdId) (sector block first : ℕ) (bytes : List ℕ) → AllCut (flights view.state.flight) → IsIn view.part block
    → IsPlace view.geometry block first (length bytes) → block * view.geometry.block_sectors + first ≡ sector
    → (tells ≡ true → bytes_at (sector_in view.part block first * 512) (length bytes) view.history.now.seen ≡ bytes)
    → ViewStands tells opening view → OwesDraw tells opening view (Read id sector bytes)
owes-read tells opening view id sector block first bytes cut is place at read stands =
    let small : first * 512 + length bytes ≤ view.part.size * 512 = rw stands.part.size place.in_block in
    record {
      may = record {
        block = block;
        first = first;
        of_part = is;
        whole = place.whole;
        place = read-place opening view sector block first (length bytes) stands.part place at;
        same = λ told offset within clear.
            read-byte view.part (content (own_history opening view.notes)) (in_flight (own_history opening view.notes)) view.history.now block first bytes offset is small place.some (read told)
            (holds-now tells opening view stands told) within
            (subst (λ writes. is_cut_at writes block (first * 512 + offset) ≡ false → is_written_at writes block (first * 512 + offset) ≡ false) (sym stands.flights)
            (cut block (first * 512 + offset)) clear);
      };
      told = tt;
      flying = stands.flights;
      holds = λ told. holds-now tells opening view stands told;
    }

-- a fault of the part
pub owes-refused : (tells : Bool) (opening : Opening) (view : StripeView) (id : CmdId) (kind : Kind) (count : ℕ) → count ≡ view.faults → Rose (last_faults view.least view.notes) count
    → ViewStands tells opening view → OwesDraw tells opening view (Refused id kind (DataFault view.index count))
owes-refused tells opening view id kind count present rose stands = record {
  may = refl;
  told = (present, rose);
  flying = stands.flights;
  holds = λ told. holds-now tells opening view stands told;
}

pub owes-unsettled : (tells : Bool) (opening : Opening) (view : StripeView) (by cut : CmdId) (count : ℕ) (write : FlightWrite) → view.state.flight ≡ Some write → same_id write.id cut ≡ true → write.cut ≡ true
    → count ≡ view.faults → Rose (last_faults view.least view.notes) count → ViewStands tells opening view → OwesDraw tells opening view (Unsettled by cut count)
owes-unsettled tells opening view by cut count write flying same is_cut_write present rose stands = record {
  may = ap (λ writes. is_cut writes cut) (stands.flights ∙ ap flights flying) ∙ cut-own write cut same is_cut_write;
  told = (present, rose);
  flying = stands.flights;
  holds = λ told. holds-now tells opening view stands told;
}

-- between calls each write in flight is cut
pub all_cut-fits : (geometry : Geometry) (part : Part) (cut : Option CutWrite) (seat : StripePart) → CutFits geometry part cut seat → AllCut (flights seat.state.flight)
all_cut-fits geometry part None seat fits = subst (λ flight. AllCut (flights flight)) (sym fits) (λ block offset clear. refl)
all_cut-fits geometry part (Some cut) seat fits = subst (λ flight. AllCut (flights flight)) (sym fits.flight) (all_cut-one (cut_flight_of cut fits.bytes) refl)
