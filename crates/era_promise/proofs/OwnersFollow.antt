-- Devices follow the journal of which their owners have kept notes.
use Rattle.std.proofs.Common.{◌≡◌, ℕ, ◌<◌, ◌==◌, Bool, true, false, List, [], ◌∷◌, length, Option, Some, refl, ap, sym, ◌∙◌, subst, arith, inl, inr, if◌then◌else◌}
use Rattle.std.proofs.Math.Seq.{take-length}
use Rattle.std.proofs.lemmas.Bool.{ne_eqb}
use Rattle.std.proofs.lemmas.Bool.Decides.{eqb_tells}
use Rattle.era_base.specs.CrashModel.{clock}
use Rattle.era_model.specs.declared.history.Happening.TheVariants.{Opened}
use Rattle.era_model.specs.declared.journal.Journal.{Journal}
use Rattle.era_model.specs.declared.opening.Opening.{Opening}
use Rattle.era_model.specs.Changed.{IsCrashContent}
use Rattle.era_model.specs.Counts.{FaultyDisk, MetadataDisk, PartOf, same_disk}
use Rattle.era_model.specs.History.{next_place}
use Rattle.era_model.specs.Journal.{history_after, history_at}
use Rattle.era_model.specs.Marks.{BlockMarks}
use Rattle.era_model.specs.Recovered.{IsRecoveredFrom}
use Rattle.era_notes.specs.Logs.{Draw, drawer_history, log_below, logged_history, noted_entries, own_entries}
use Rattle.era_notes.specs.Notes.{Note, own_history}
use Rattle.era_notes.specs.OwnDraws.{AreOwnDraws, StripesDraw}
use Rattle.era_notes.specs.Parts.{HoldsContent, IsIn, Part, bytes_in}
use Rattle.era_notes.specs.Windows.{AreOrdered, HoldsThrough, IsLeftAt, NotedDevice, notes_below}
use Rattle.era_notes.proofs.Windows.{in-window, through-ordered}
use Rattle.era_promise.specs.Openings.{HasOneMeaning}
use Rattle.era_promise.specs.Owners.{AreDrawnByOwners, LeavesMarks, OwnersKeep, disk_of, logged_entries, stripe_at}
use Rattle.era_promise.specs.Sessions.{DevicesFollow, MetadataFollows, NotesAreOf, SessionDevices, entries_at, history_below, is_disk, whole_history}
use Rattle.era_promise.proofs.OwnersDraws.{owners-disks, owners-stripes}
use Rattle.era_promise.proofs.WrittenStripes.{FlightsAgree}
use Rattle.era_promise.proofs.LogPlaces.{log-at, logged-length, next-log, own-places, stripes-below, whole-log}

-- The laws of notes that this takes.
pub record Laws : Type 0 where
  pub below : (drawer : ℕ) (log : List Draw) (notes : List Note) (place : ℕ) → noted_entries notes ≡ own_entries drawer log → noted_entries (notes_below place notes) ≡ own_entries drawer (log_below place log)
  pub history : (opening : Opening) (drawer : ℕ) (log : List Draw) (notes : List Note) → noted_entries notes ≡ own_entries drawer log → own_history opening notes ≡ drawer_history opening drawer log
  pub parts : (opening : Opening) (drawer_of : ℕ → ℕ) (drawer : ℕ) (log : List Draw) (part : Part) (device : NotedDevice) (place : ℕ) (image : List ℕ) → AreOwnDraws opening drawer_of log
      → ((block : ℕ) → IsIn part block → drawer_of block ≡ drawer) → noted_entries device.notes ≡ own_entries drawer log
      → HoldsThrough (λ notes. HoldsContent part (own_history opening notes)) device.history device.begun (clock device.history) device.notes
      → IsLeftAt device place image → (block : ℕ) → IsIn part block → IsCrashContent (logged_history opening (log_below place log)) block (bytes_in part image block)
  pub flights : FlightsAgree
  pub recovered : (opening : Opening) (keeper : ℕ) (log : List Draw) (m : BlockMarks) (found : Option BlockMarks) → StripesDraw keeper log
      → IsRecoveredFrom (drawer_history opening keeper log) m found → IsRecoveredFrom (logged_history opening log) m found

-- the draws of the owner of a disk are the entries at it
own-at : (opening : Opening) (keeper drawer : ℕ) (disk : FaultyDisk) (log : List Draw) → ((d : ℕ) → is_disk disk (Some (disk_of keeper d)) ≡ (d == drawer)) → AreDrawnByOwners keeper opening log
    → entries_at disk (logged_history opening log) ≡ own_entries drawer log
own-at opening keeper drawer disk [] same owners = refl
own-at opening keeper drawer disk (draw ∷ earlier) same owners =
    let h = logged_history opening earlier in
    ap (λ found. if is_disk disk found then record { place = next_place h; event = draw.event } ∷ entries_at disk h else entries_at disk h) owners.0
    ∙ ap (λ b. if b then record { place = next_place h; event = draw.event } ∷ entries_at disk h else entries_at disk h) (same draw.drawer)
    ∙ ap (λ place. if draw.drawer == drawer then record { place = place; event = draw.event } ∷ entries_at disk h else entries_at disk h) (next-log opening earlier)
    ∙ ap (λ rest. if draw.drawer == drawer then record { place = length earlier; event = draw.event } ∷ rest else rest) (own-at opening keeper drawer disk earlier same owners.1)

-- a stripe's part, and the keeper's disk
part-same : (keeper stripe : ℕ) → stripe < keeper → (d : ℕ) → is_disk (PartOf stripe) (Some (disk_of keeper d)) ≡ (d == stripe)
part-same keeper stripe low d = elim (eqb_tells d keeper) [
  | inl same ↦ rw (same.0, ne_eqb d stripe (λ equal. let k = same.1 in omega (arith, low, equal, k))) refl
  | inr apart ↦ rw (apart.0) refl
]

keeper-same : (keeper d : ℕ) → is_disk MetadataDisk (Some (disk_of keeper d)) ≡ (d == keeper)
keeper-same keeper d = elim (d == keeper) as (λ (b : Bool). same_disk (if b then MetadataDisk else PartOf d) MetadataDisk ≡ b) [
  | true ↦ refl
  | false ↦ refl
]

-- the journal's history by the log
history-by : (journal : Journal) (log : List Draw) (place : ℕ) → journal.entries ≡ logged_entries log → history_below journal place ≡ logged_history journal.opening (log_below place log)
history-by journal log place entries = ap (λ es. history_at journal.opening es place) entries ∙ log-at journal.opening log place

whole-by : (journal : Journal) (log : List Draw) → journal.entries ≡ logged_entries log → whole_history journal ≡ logged_history journal.opening log
whole-by journal log entries =
    ap (λ es. history_after (Opened journal.opening ∷ []) es) (take-length journal.entries ∙ entries) ∙ whole-log journal.opening log

-- notes of an owner are of the journal
notes-of : (journal : Journal) (keeper drawer : ℕ) (disk : FaultyDisk) (log : List Draw) (device : NotedDevice) → journal.entries ≡ logged_entries log → ((d : ℕ) → is_disk disk (Some (disk_of keeper d)) ≡ (d == drawer))
    → AreDrawnByOwners keeper journal.opening log → noted_entries device.notes ≡ own_entries drawer log → AreOrdered device.begun (clock device.history) (length log) device.notes → NotesAreOf journal disk device
notes-of journal keeper drawer disk log device entries same owners own ordered = record {
  entries = own ∙ sym (own-at journal.opening keeper drawer disk log same owners) ∙ ap (entries_at disk) (sym (whole-by journal log entries));
  ordered = subst (λ bound. AreOrdered device.begun (clock device.history) bound device.notes) (sym (ap length entries ∙ logged-length log)) ordered;
}

-- the metadata disk follows
metadata-by : Laws → (StandsFor : List ℕ → BlockMarks → Option BlockMarks → Type 0) (IsBlank : List ℕ → Type 0) (journal : Journal) (devices : SessionDevices) (keeper : ℕ) (log : List Draw) (place : ℕ)
    → HasOneMeaning StandsFor IsBlank → OwnersKeep StandsFor journal devices keeper log → MetadataFollows StandsFor journal devices.metadata place
metadata-by laws StandsFor IsBlank journal devices keeper log place one keep = record {
  stands = λ image left. let marks = at image left in (marks.0, marks.1, marks.2);
  recovered = λ image m found left stands.
      let marks = at image left in
      subst (IsRecoveredFrom (history_below journal place) m) (one.held image marks.0 m marks.1 found marks.2 stands)
      (subst (λ (n : BlockMarks). IsRecoveredFrom (history_below journal place) n marks.1) (one.marks image marks.0 m marks.1 found marks.2 stands)
      (subst (λ h. IsRecoveredFrom h marks.0 marks.1) (sym (history-by journal log place keep.entries))
      (laws.recovered journal.opening keeper (log_below place log) marks.0 marks.1 (stripes-below keeper log place (owners-stripes keeper journal.opening log keep.draws))
      (subst (λ h. IsRecoveredFrom h marks.0 marks.1) own marks.3))));
}
  where
    metadata : NotedDevice
    metadata = devices.metadata

    own : own_history journal.opening (notes_below place metadata.notes) ≡ drawer_history journal.opening keeper (log_below place log)
    own = laws.history journal.opening keeper (log_below place log) (notes_below place metadata.notes) (laws.below keeper log metadata.notes place keep.metadata.own)

    at : (image : List ℕ) → IsLeftAt metadata place image
        → (m : BlockMarks) × (found : Option BlockMarks) × StandsFor image m found × IsRecoveredFrom (own_history journal.opening (notes_below place metadata.notes)) m found
    at image left =
        in-window (λ notes. LeavesMarks StandsFor (own_history journal.opening notes)) metadata.history metadata.begun (clock metadata.history) metadata.notes place left.moment
        keep.metadata.through left.inside.begun left.inside.ended image left.left

pub owners-follow : Laws → (StandsFor : List ℕ → BlockMarks → Option BlockMarks → Type 0) (IsBlank : List ℕ → Type 0) (journal : Journal) (devices : SessionDevices) (keeper : ℕ) (log : List Draw)
    → HasOneMeaning StandsFor IsBlank → OwnersKeep StandsFor journal devices keeper log → DevicesFollow StandsFor journal devices
owners-follow laws StandsFor IsBlank journal devices keeper log one keep = record {
  legal = keep.legal;
  cover = keep.cover;
  part_notes = λ stripe part is.
      let kept = keep.parts stripe part is in
      notes-of journal keeper stripe (PartOf stripe) log part.device keep.entries (part-same keeper stripe kept.0) owners kept.1.own
      (through-ordered (λ notes. HoldsContent part.part (own_history journal.opening notes)) part.device.history part.device.begun (clock part.device.history) (length log) part.device.notes kept.1.through (own-places stripe log part.device.notes kept.1.own));
  metadata_notes = notes-of journal keeper keeper MetadataDisk log devices.metadata keep.entries (keeper-same keeper) owners keep.metadata.own
      (through-ordered (λ notes. LeavesMarks StandsFor (own_history journal.opening notes)) devices.metadata.history devices.metadata.begun (clock devices.metadata.history) (length log) devices.metadata.notes
      keep.metadata.through (own-places keeper log devices.metadata.notes keep.metadata.own));
  parts = λ place stripe part within is image left block inside.
      let kept = keep.parts stripe part is in
      subst (λ h. IsCrashContent h block (bytes_in part.part image block)) (sym (history-by journal log place keep.entries))
      (laws.parts journal.opening (stripe_at journal.opening) stripe log part.part part.device place image keep.owns kept.1.of_stripe kept.1.own kept.1.through left block inside);
  metadata = λ place within. metadata-by laws StandsFor IsBlank journal devices keeper log place one keep;
}
  where
    owners : AreDrawnByOwners keeper journal.opening log
    owners = owners-disks laws.flights keeper journal.opening log keep.owns keep.draws
