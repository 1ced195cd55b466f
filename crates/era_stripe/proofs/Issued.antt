-- What the draws of a write owe: that it is issued, and how it ended.
use Rattle.std.proofs.Common.{◌≡◌, ℕ, ◌+◌, ◌-◌, ◌*◌, ◌/◌, ◌<◌, ◌≤◌, min, Bool, true, false, List, [], ◌∷◌, length, drop, Some, None, arith, refl, sym, ap, ◌∙◌, subst}
use Rattle.std.specs.Prelude.{slice_index}
use Rattle.std.proofs.lemmas.List.{length-take, length-drop, get_or-take, get_or-drop}
use Rattle.era_base.specs.Bytes.{part as bytes_at}
use Rattle.era_base.specs.Calls.{IsOnDisk}
use Rattle.era_base.specs.CrashModel.{State, History, SameBut, Went}
use Rattle.era_base.specs.Faults.{Rose}
use Rattle.era_base.specs.Geometry.{place_at}
use Rattle.era_base.specs.declared.ids.CmdId.{CmdId}
use Rattle.era_gate.specs.StateAfter.{flights, flight_after}
use Rattle.era_model.specs.declared.event.Event.TheVariants.{Go, Done, Cut, Settle}
use Rattle.era_model.specs.declared.flight.FlightWrite.{FlightWrite}
use Rattle.era_model.specs.declared.opening.Opening.{Opening}
use Rattle.era_model.specs.declared.history.Happening.{Happening}
use Rattle.era_model.specs.Events.{same_id}
use Rattle.era_model.specs.History.{at_opening, blocks_at, content, in_flight}
use Rattle.era_model.specs.Writes.{is_writing, is_cut, without, with_cut, write_of, bytes_of}
use Rattle.era_notes.specs.Notes.{Note, own_history, last_faults}
use Rattle.era_notes.specs.Parts.{Part, IsIn, IsPlace, HoldsContent, HoldsBut, offset_in, sector_in}
use Rattle.era_notes.proofs.Drawn.{without-own, write_of-own, with_cut-own, writing-own, cut-own, holds-go, holds-done, holds-settle, holds-cut}
use Rattle.era_notes.proofs.Held.{IsOver, holds-writing, holds-quiet}
use Rattle.era_notes.proofs.Offsets.{FitsIn, sector-at}
use Rattle.era_notes.proofs.Windows.{through-now}
use Rattle.era_stripe.specs.Stripes.{StripeView, ViewStands, IsPartOf, called}
use Rattle.era_stripe.proofs.Views.{OwesDraw, stands-called}

-- what the opening says stays so
pub opening-own : {T : Type 0} (none : T) (of : Opening → T) (opening : Opening) (notes : List Note) → at_opening none of (own_history opening notes) ≡ of opening
opening-own none of opening [] = refl
opening-own none of opening (note ∷ earlier) = opening-own none of opening earlier

-- what the part holds now
pub holds-now : (tells : Bool) (opening : Opening) (view : StripeView) → ViewStands tells opening view → tells ≡ true
    → HoldsContent view.part (own_history opening view.notes) view.history.now
holds-now tells opening view stands told = through-now (λ notes. HoldsContent view.part (own_history opening notes)) view.history view.begun view.notes (stands.through told)

-- the place of whole sectors of a block
pub place-own : (opening : Opening) (view : StripeView) (block first count : ℕ) → IsPartOf opening view.geometry view.part → IsPlace view.geometry block first count
    → at_opening None (λ o. place_at o.geometry.sectors o.geometry.block_sectors (at_opening 0 (λ o. block * o.geometry.block_sectors + first) (own_history opening view.notes)) (count / 512)) (own_history opening view.notes)
    ≡ Some (block, first)
place-own opening view block first count of_part place =
    opening-own None (λ o. place_at o.geometry.sectors o.geometry.block_sectors (at_opening 0 (λ o. block * o.geometry.block_sectors + first) (own_history opening view.notes)) (count / 512)) opening view.notes
    ∙ ap (λ sector. place_at opening.geometry.sectors opening.geometry.block_sectors sector (count / 512)) (opening-own 0 (λ o. block * o.geometry.block_sectors + first) opening view.notes)
    ∙ rw (of_part.sectors, of_part.block_sectors) place.place

pub place-fits : (opening : Opening) (view : StripeView) (block first count : ℕ) → IsPartOf opening view.geometry view.part → IsIn view.part block → IsPlace view.geometry block first count
    → FitsIn view.part block first count
place-fits opening view block first count of_part is place = record { of_part = is; small = rw of_part.size place.in_block }

block-own : (opening : Opening) (view : StripeView) (block : ℕ) → IsPartOf opening view.geometry view.part → IsIn view.part block
    → block < at_opening 0 blocks_at (own_history opening view.notes)
block-own opening view block of_part is =
    rw (opening-own 0 blocks_at opening view.notes, of_part.sectors, of_part.block_sectors) (omega (arith, is.high, of_part.blocks))

-- the write that is issued
abbrev pub issued : CmdId → ℕ → ℕ → List ℕ → FlightWrite
issued id block first bytes = record { id = id; block = block; first = first; bytes = bytes; cut = false }

pub owes-go : (tells : Bool) (opening : Opening) (view : StripeView) (id : CmdId) (block era first : ℕ) (bytes : List ℕ) → view.state.flight ≡ None → IsIn view.part block
    → IsPlace view.geometry block first (length bytes) → ViewStands tells opening view → OwesDraw tells opening view (Go id block era first bytes)
owes-go tells opening view id block era first bytes idle is place stands =
    let none : in_flight (own_history opening view.notes) ≡ [] = stands.flights ∙ ap flights idle in
    record {
      may = record {
        alone = none;
        of_part = is;
        left = record {
          of_origin = block-own opening view block stands.part is;
          whole = place.whole;
          place = place-own opening view block first (length bytes) stands.part place;
        };
      };
      told = tt;
      flying = ap (λ (writes : List FlightWrite). issued id block first bytes ∷ writes) none;
      holds = λ told. holds-go view.part (own_history opening view.notes) id block era first bytes view.history.now none (holds-now tells opening view stands told);
    }

-- while the write is under way
holds-flying : (part : Part) (h : List Happening) (write : FlightWrite) (before after : State) → in_flight h ≡ write ∷ [] → FitsIn part write.block write.first (length write.bytes)
    → SameBut (sector_in part write.block write.first * 512) (sector_in part write.block write.first * 512 + length write.bytes) before after
    → HoldsContent part h before → HoldsContent part h after
holds-flying part h write before after is fits same holds =
    subst (λ writes. HoldsBut part (content h) writes after) (sym is)
    (holds-writing part (content h) write before after fits (subst (λ at. SameBut at (at + length write.bytes) before after) (sector-at part write.block write.first) same)
    (subst (λ writes. HoldsBut part (content h) writes before) is holds))

pub stands-written : (tells : Bool) (opening : Opening) (view : StripeView) (history : History) (faults : ℕ) (write : FlightWrite) → view.state.flight ≡ Some write
    → FitsIn view.part write.block write.first (length write.bytes) → view.faults ≤ faults
    → (tells ≡ true → Went (SameBut (sector_in view.part write.block write.first * 512) (sector_in view.part write.block write.first * 512 + length write.bytes)) view.history history)
    → ViewStands tells opening view → ViewStands tells opening (called view history faults)
stands-written tells opening view history faults write flying fits le went stands =
    let is : in_flight (own_history opening view.notes) ≡ write ∷ [] = stands.flights ∙ ap flights flying in
    stands-called tells opening view history faults le
    (λ told. (
      (went told).continues,
      λ moment begins ends.
          holds-flying view.part (own_history opening view.notes) write view.history.now _ is fits ((went told).moments moment begins ends) (holds-now tells opening view stands told),
    ))
    stands

-- a sync and a read change nothing
pub stands-quiet : (tells : Bool) (opening : Opening) (view : StripeView) (history : History) (faults at : ℕ) → view.faults ≤ faults
    → (tells ≡ true → Went (SameBut at at) view.history history) → ViewStands tells opening view → ViewStands tells opening (called view history faults)
stands-quiet tells opening view history faults at le went stands =
    stands-called tells opening view history faults le
    (λ told. (
      (went told).continues,
      λ moment begins ends.
          holds-quiet view.part (content (own_history opening view.notes)) (in_flight (own_history opening view.notes)) at view.history.now _ ((went told).moments moment begins ends) (holds-now tells opening view stands told),
    ))
    stands

-- bytes that stand on the disk lie on it, and stand there one by one
pub on-size : (at : ℕ) (bytes : List ℕ) (now : State) → 0 < length bytes → bytes_at at (length bytes) now.seen ≡ bytes → at + length bytes ≤ length now.seen
on-size at bytes now some holds =
    let size : min (length bytes) (length now.seen - at) ≡ length bytes =
    sym (length-take (length bytes) (drop at now.seen) ∙ ap (min (length bytes)) (length-drop at now.seen)) ∙ ap length holds in
    omega (arith, size, some)

pub on-byte : (at : ℕ) (bytes : List ℕ) (now : State) (k : ℕ) → k < length bytes → bytes_at at (length bytes) now.seen ≡ bytes → slice_index now.seen (at + k) ≡ slice_index bytes k
on-byte at bytes now k small holds =
    sym (get_or-take (length bytes) (drop at now.seen) k 0 small ∙ get_or-drop at now.seen k 0) ∙ ap (λ xs. slice_index xs k) holds

pub is-over : (part : Part) (write : FlightWrite) (bytes : List ℕ) (now : State) → FitsIn part write.block write.first (length write.bytes) → length bytes ≡ length write.bytes → 0 < length bytes
    → IsOnDisk (sector_in part write.block write.first * 512) bytes now → IsOver part write bytes now
is-over part write bytes now fits size some on =
    let at = sector-at part write.block write.first in
    let on : IsOnDisk (offset_in part write.block (write.first * 512)) bytes now = subst (λ at. IsOnDisk at bytes now) at on in
    record {
      fits = fits;
      size = size;
      on_disk = on-size (offset_in part write.block (write.first * 512)) bytes now some on.holds;
      there = λ k small. on-byte (offset_in part write.block (write.first * 512)) bytes now k small on.holds;
      clean = on.clean;
    }

-- the write in flight is acknowledged
pub owes-done : (tells : Bool) (opening : Opening) (view : StripeView) (id : CmdId) (write : FlightWrite) → view.state.flight ≡ Some write → same_id write.id id ≡ true → write.cut ≡ false
    → (tells ≡ true → IsOver view.part write write.bytes view.history.now) → ViewStands tells opening view → OwesDraw tells opening view (Done id)
owes-done tells opening view id write flying same uncut over stands =
    let is : in_flight (own_history opening view.notes) ≡ write ∷ [] = stands.flights ∙ ap flights flying in
    record {
      may = ap (λ writes. is_writing writes id) is ∙ writing-own write id same uncut;
      told = tt;
      flying = ap (λ writes. without writes id) is ∙ without-own write id same;
      holds = λ told. holds-done view.part (own_history opening view.notes) id write view.history.now is same (over told) (holds-now tells opening view stands told);
    }

-- it is cut
pub owes-cut : (tells : Bool) (opening : Opening) (view : StripeView) (id : CmdId) (count : ℕ) (write : FlightWrite) → view.state.flight ≡ Some write → same_id write.id id ≡ true → write.cut ≡ false
    → count ≡ view.faults → Rose (last_faults view.least view.notes) count → ViewStands tells opening view → OwesDraw tells opening view (Cut id count)
owes-cut tells opening view id count write flying same uncut present rose stands =
    let is : in_flight (own_history opening view.notes) ≡ write ∷ [] = stands.flights ∙ ap flights flying in
    record {
      may = ap (λ writes. is_writing writes id) is ∙ writing-own write id same uncut;
      told = (present, rose);
      flying = ap (λ writes. with_cut writes id) is ∙ with_cut-own write id same ∙ ap (λ flight. flights (flight_after (Cut id count) flight)) (sym flying);
      holds = λ told. holds-cut view.part (own_history opening view.notes) id count write view.history.now is same (holds-now tells opening view stands told);
    }

-- it is resolved
pub owes-settle : (tells : Bool) (opening : Opening) (view : StripeView) (by cut : CmdId) (bytes : List ℕ) (write : FlightWrite) → view.state.flight ≡ Some write → same_id write.id cut ≡ true → write.cut ≡ true
    → length bytes ≡ length write.bytes → (tells ≡ true → IsOver view.part write bytes view.history.now) → ViewStands tells opening view → OwesDraw tells opening view (Settle by cut bytes)
owes-settle tells opening view by cut bytes write flying same cut_write size over stands =
    let is : in_flight (own_history opening view.notes) ≡ write ∷ [] = stands.flights ∙ ap flights flying in
    record {
      may = record {
        pending = ap (λ writes. is_cut writes cut) is ∙ cut-own write cut same cut_write;
        size = size ∙ sym (ap (λ writes. length (bytes_of (write_of writes cut))) is ∙ ap (λ found. length (bytes_of found)) (write_of-own write cut same));
      };
      told = tt;
      flying = ap (λ writes. without writes cut) is ∙ without-own write cut same;
      holds = λ told. holds-settle view.part (own_history opening view.notes) by cut write bytes view.history.now is same (over told) (holds-now tells opening view stands told);
    }
