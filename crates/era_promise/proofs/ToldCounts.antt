-- Counts of faults that a device's owner told: the last one of them in the whole log isn't above the device's count at the owner's last entry.
use Rattle.std.proofs.Common.{◌≡◌, ℕ, ◌≤◌, ◌==◌, true, false, List, [], ◌∷◌, length, Option, Some, None, refl, ap, sym, ◌∙◌, subst, arith, inl, inr}
use Rattle.std.specs.Prelude.{option_map}
use Rattle.std.proofs.lemmas.Bool.{cond_both, eq-eqb, ne_eqb}
use Rattle.std.proofs.lemmas.Bool.Decides.{eqb_tells}
use Rattle.std.proofs.lemmas.Option.{same_Some}
use Rattle.era_base.specs.Faults.{Rose}
use Rattle.era_model.specs.declared.entry.Entry.{Entry}
use Rattle.era_model.specs.declared.event.Event.{Event}
use Rattle.era_model.specs.declared.event.Event.TheVariants.{Cut, Unsettled, Refused}
use Rattle.era_model.specs.declared.event.Why.TheVariants.{DataFault, MetaFault, End, Held, NoSnap, Idle, Memory}
use Rattle.era_model.specs.declared.history.Happening.{Happening}
use Rattle.era_model.specs.declared.opening.Opening.{Opening}
use Rattle.era_model.specs.CommandEvents.{written_stripe}
use Rattle.era_model.specs.Counts.{CountAscends, FaultyDisk, MetadataDisk, PartOf, RoseFrom, count_of_fault, fault_of, last_count, part_fault, same_disk}
use Rattle.era_notes.specs.Logs.{Draw, logged_history, noted_entries, own_entries}
use Rattle.era_notes.specs.Notes.{CountsRise, Note, TellsRisen, last_faults, told_count}
use Rattle.era_promise.specs.Owners.{AreDrawnByOwners, disk_of}
use Rattle.era_promise.specs.Sessions.{disk_of_event}

-- a fault of a stripe's part, where the disk is known
fault-part : (stripe : Option ℕ) (disk : FaultyDisk) (count : ℕ) → option_map PartOf stripe ≡ Some disk → part_fault count stripe ≡ Some (disk, count)
fault-part None disk count is = absurd (cc)
fault-part (Some stripe) disk count is = ap (λ d. Some (d, count)) (same_Some (PartOf stripe) disk is)

-- the fault that an event tells is of the disk at which it is drawn
fault-told : (h : List Happening) (event : Event) (disk : FaultyDisk) → disk_of_event h event ≡ Some disk → fault_of h event ≡ option_map (λ count. (disk, count)) (told_count event)
fault-told h (Cut id faults) disk is = fault-part (written_stripe h id) disk faults is
fault-told h (Unsettled by cut faults) disk is = fault-part (written_stripe h cut) disk faults is
fault-told h (Refused id kind (DataFault stripe count)) disk is = ap (λ d. Some (d, count)) (same_Some (PartOf stripe) disk is)
fault-told h (Refused id kind (MetaFault count)) disk is = ap (λ d. Some (d, count)) (same_Some MetadataDisk disk is)
fault-told h (Refused id kind End) disk is = refl
fault-told h (Refused id kind (Held block)) disk is = refl
fault-told h (Refused id kind NoSnap) disk is = refl
fault-told h (Refused id kind Idle) disk is = refl
fault-told h (Refused id kind Memory) disk is = refl
fault-told h event disk is = refl

-- two drawers have one disk where they are one
disk-same : (keeper d drawer : ℕ) → same_disk (disk_of keeper d) (disk_of keeper drawer) ≡ (d == drawer)
disk-same keeper d drawer = elim (eqb_tells d keeper) [
  | inl one ↦ elim (eqb_tells drawer keeper) [
    | inl other ↦ rw (one.1, other.1) (rw (eq-eqb keeper keeper refl) refl)
    | inr other ↦ rw (one.0, other.0, ne_eqb d drawer (λ same. other.1 (sym same ∙ one.1))) refl
  ]
  | inr one ↦ elim (eqb_tells drawer keeper) [
    | inl other ↦ rw (one.0, other.0, ne_eqb d drawer (λ same. one.1 (same ∙ other.1))) refl
    | inr other ↦ rw (one.0, other.0) refl
  ]
]

-- A count that was told, if there is one, isn't above another one.
abbrev pub IsUpTo : Option ℕ → ℕ → Type 0
IsUpTo None count = Unit {0}
IsUpTo (Some told) count = told ≤ count

up-to : (told : Option ℕ) (low high : ℕ) → low ≤ high → IsUpTo told low → IsUpTo told high
up-to None low high le up = tt
up-to (Some told) low high le up = omega (arith, le, up)

-- the count of the device never falls
last-now : (least now : ℕ) (notes : List Note) → CountsRise least now notes → last_faults least notes ≤ now
last-now least now [] rise = rise
last-now least now (note ∷ notes) rise = rise.0

-- a draw at another disk, and one at this disk
count-other : (disk other : FaultyDisk) (told before : Option ℕ) → same_disk other disk ≡ false → count_of_fault disk (option_map (λ count. (other, count)) told) before ≡ before
count-other disk other None before apart = refl
count-other disk other (Some count) before apart = rw apart refl

count-own : (disk other : FaultyDisk) (told before : Option ℕ) (last faults : ℕ) → same_disk other disk ≡ true → TellsRisen told last faults → last ≤ faults → IsUpTo before last
    → IsUpTo (count_of_fault disk (option_map (λ count. (other, count)) told) before) faults
count-own disk other None before last faults same rise le up = up-to before last faults le up
count-own disk other (Some count) before last faults same rise le up = rw same (let now = rise.0 in omega (arith, now))

-- the draw of the device's owner
own-draw : (disk other : FaultyDisk) (event : Event) (before : Option ℕ) (least now : ℕ) (entry : Entry) (entries : List Entry) (notes : List Note) → entry.event ≡ event → same_disk other disk ≡ true → noted_entries notes ≡ entry ∷ entries
    → CountsRise least now notes → ((rest : List Note) (now : ℕ) → noted_entries rest ≡ entries → CountsRise least now rest → IsUpTo before (last_faults least rest))
    → IsUpTo (count_of_fault disk (option_map (λ count. (other, count)) (told_count event)) before) (last_faults least notes)
own-draw disk other event before least now entry entries [] is same are rise rest = absurd (cc)
own-draw disk other event before least now entry entries (note ∷ notes) is same are rise rest =
    let first : note.entry ≡ entry = cc in
    let told : note.entry.event ≡ event = ap (λ (e : Entry). e.event) first ∙ is in
    count-own disk other (told_count event) before (last_faults least notes) note.faults same (subst (λ e. TellsRisen (told_count e) (last_faults least notes) note.faults) told rise.1)
    (last-now least note.faults notes rise.2) (rest notes note.faults (cc) rise.2)

pub told-last : (keeper : ℕ) (opening : Opening) (log : List Draw) (drawer least now : ℕ) (notes : List Note) → AreDrawnByOwners keeper opening log → noted_entries notes ≡ own_entries drawer log → CountsRise least now notes
    → IsUpTo (last_count (logged_history opening log) (disk_of keeper drawer)) (last_faults least notes)
told-last keeper opening [] drawer least now notes owners are rise = tt
told-last keeper opening (draw ∷ earlier) drawer least now notes owners are rise =
    let h = logged_history opening earlier in
    let disk = disk_of keeper drawer in
    let told = fault-told h draw.event (disk_of keeper draw.drawer) owners.0 in
    subst (λ fault. IsUpTo (count_of_fault disk fault (last_count h disk)) (last_faults least notes)) (sym told)
    (cond_both (draw.drawer == drawer) (record { place = length earlier; event = draw.event } ∷ own_entries drawer earlier) (own_entries drawer earlier)
    (λ (es : List Entry). noted_entries notes ≡ es → IsUpTo (count_of_fault disk (option_map (λ count. (disk_of keeper draw.drawer, count)) (told_count draw.event)) (last_count h disk)) (last_faults least notes))
    (λ mine same. own-draw disk (disk_of keeper draw.drawer) draw.event (last_count h disk) least now (record { place = length earlier; event = draw.event }) (own_entries drawer earlier) notes refl
    (disk-same keeper draw.drawer drawer ∙ mine) same rise (λ rest later own less. told-last keeper opening earlier drawer least later rest owners.1 own less))
    (λ other same. subst (λ count. IsUpTo count (last_faults least notes)) (sym (count-other disk (disk_of keeper draw.drawer) (told_count draw.event) (last_count h disk) (disk-same keeper draw.drawer drawer ∙ other)))
    (told-last keeper opening earlier drawer least now notes owners.1 same rise))
    are)

rises : (told : Option ℕ) (last count : ℕ) → IsUpTo told last → Rose last count → RoseFrom told count
rises None last count up rose = tt
rises (Some told) last count up rose = omega (arith, up, rose)

pub counts-ascend : (keeper : ℕ) (opening : Opening) (log : List Draw) (drawer least now count : ℕ) (notes : List Note) → AreDrawnByOwners keeper opening log → noted_entries notes ≡ own_entries drawer log → CountsRise least now notes
    → Rose (last_faults least notes) count → CountAscends (logged_history opening log) (disk_of keeper drawer) count
counts-ascend keeper opening log drawer least now count notes owners are rise rose =
    rises (last_count (logged_history opening log) (disk_of keeper drawer)) (last_faults least notes) count (told-last keeper opening log drawer least now notes owners are rise) rose
