-- The marks follow the journal over all legal histories, and as they stand they may be recovered.
use Rattle.std.proofs.Common.{◌≡◌, ℕ, ◌+◌, ◌<◌, true, ◌==◌, List, [], ◌∷◌, Some, None, Option, length, refl, ap, sym, ◌∙◌, subst, inl}
use Rattle.std.specs.Prelude.{nat_lt, if◌then◌else◌}
use Rattle.std.proofs.lemmas.Bool.{cond_both}
use Rattle.era_model.specs.declared.event.Event.{Event}
use Rattle.era_model.specs.declared.event.Event.TheVariants.{Mark, Roll, Snap, Dropped, Digest}
use Rattle.era_model.specs.declared.history.Happening.{Happening}
use Rattle.era_model.specs.declared.history.Happening.TheVariants.{Opened, Happened, Crashed}
use Rattle.era_model.specs.declared.history.Images.{Images}
use Rattle.era_model.specs.declared.opening.Opening.{Opening}
use Rattle.era_model.specs.Crashes.{IsReopening}
use Rattle.era_model.specs.Digest.{digested_from}
use Rattle.era_model.specs.History.{is_open}
use Rattle.era_model.specs.Legal.{IsLegal}
use Rattle.era_model.specs.Marking.{held_of, journal_last_era, marks_of}
use Rattle.era_model.specs.Marks.{ArchivedSet, BlockMarks, blocks_of_marks, marks_last_era, rolled, with_current_archived, with_oldest_merged}
use Rattle.era_model.specs.Promises.{KeepsLastEras, MarksFollowJournal}
use Rattle.era_model.specs.Recovered.{IsDurableFrom, IsRecoveredFrom, MayHold}
use Rattle.era_model.specs.Validity.{AreValidMarks, IsValidSnapshot}
use Rattle.era_model.proofs.Asked.{blocks-same}
use Rattle.era_model.proofs.Coverage.{at-geometry}
use Rattle.era_model.proofs.DigestLasts.{digest-keeps}
use Rattle.era_model.proofs.SwitchLasts.{mark-gives, switch-keeps}

-- What a switch leaves: the geometry, and the next era.
record Switches (m after : BlockMarks) : Type 0 where
  pub sectors : after.sectors ≡ m.sectors
  pub block_sectors : after.block_sectors ≡ m.block_sectors
  pub era : after.era ≡ m.era + 1

merged-first : (m : BlockMarks) (sets : List ArchivedSet) → Switches m (with_current_archived (with_oldest_merged m sets))
merged-first m [] = record { sectors = refl; block_sectors = refl; era = refl }
merged-first m (oldest ∷ sets) = record { sectors = refl; block_sectors = refl; era = refl }

rolled-switches : (m : BlockMarks) → Switches m (rolled m)
rolled-switches m = cond_both (nat_lt (length m.archive) 16) m (with_oldest_merged m m.archive) (λ before. Switches m (with_current_archived before))
    (λ few. record { sectors = refl; block_sectors = refl; era = refl })
    (λ full. merged-first m m.archive)

-- an era switch keeps the marks
pub switched-keeps : (m : BlockMarks) → AreValidMarks m → KeepsLastEras m (rolled m)
switched-keeps m valid = let switched = rolled-switches m in let keeps = switch-keeps m valid in
    record { valid = keeps.valid; sectors = switched.sectors; block_sectors = switched.block_sectors; lasts = keeps.lasts }

-- a digest step leaves the era
digested-era : (m : BlockMarks) (sets : List ArchivedSet) (page : Option ℕ) → (digested_from m sets page).era ≡ m.era
digested-era m [] page = refl
digested-era m (oldest ∷ sets) None = refl
digested-era m (oldest ∷ sets) (Some page) = refl

-- the marks of a reopened session
follows-reopened : (h : List Happening) (images : Images) (opening : Opening) → IsRecoveredFrom h images.marks images.held → IsReopening h images opening → MarksFollowJournal (Opened opening ∷ Crashed images ∷ h)
follows-reopened h images opening recovered re =
    let switched = rolled-switches images.marks in
    record {
      valid = subst AreValidMarks (sym re.marks) (switch-keeps images.marks recovered.valid).valid;
      sectors = ap (λ m. m.sectors) re.marks ∙ switched.sectors ∙ recovered.sectors ∙ at-geometry 0 (λ g. g.sectors) h opening.geometry re.geometry;
      block_sectors = ap (λ m. m.block_sectors) re.marks ∙ switched.block_sectors ∙ recovered.block_sectors ∙ at-geometry 0 (λ g. g.block_sectors) h opening.geometry re.geometry;
      era = ap (λ m. m.era) re.marks ∙ switched.era ∙ sym re.era;
      lasts = λ block. refl;
      snapshot = subst IsValidSnapshot (sym re.held) recovered.valid_snapshot;
    }

-- an event keeps it
follows-event : (h : List Happening) (event : Event) → IsLegal (Happened event ∷ h) → MarksFollowJournal h → MarksFollowJournal (Happened event ∷ h)
follows-event h (Mark id block era) legal before =
    let present = legal.1.present in
    let within : block < blocks_of_marks (marks_of h) = rw (blocks-same h (marks_of h) before.sectors before.block_sectors) legal.1.of_origin in
    let gives = mark-gives (marks_of h) block before.valid within in
    record {
      valid = gives.valid;
      sectors = before.sectors;
      block_sectors = before.block_sectors;
      era = before.era;
      lasts = λ other. gives.lasts other ∙ cond_both (block == other) (marks_of h).era (marks_last_era (marks_of h) other) (λ last. last ≡ (if block == other then era else journal_last_era h other))
          (λ same. rw same (before.era ∙ sym present)) (λ apart. rw apart (before.lasts other));
      snapshot = before.snapshot;
    }
follows-event h (Roll id era) legal before =
    let switched = rolled-switches (marks_of h) in let keeps = switch-keeps (marks_of h) before.valid in
    record {
      valid = keeps.valid;
      sectors = switched.sectors ∙ before.sectors;
      block_sectors = switched.block_sectors ∙ before.block_sectors;
      era = switched.era ∙ ap (λ n. n + 1) before.era ∙ sym legal.1.next;
      lasts = λ block. keeps.lasts block ∙ before.lasts block;
      snapshot = before.snapshot;
    }
follows-event h (Digest id era page) legal before =
    let keeps = digest-keeps (marks_of h) era page before.valid legal.1.step in
    record {
      valid = keeps.valid;
      sectors = keeps.sectors ∙ before.sectors;
      block_sectors = keeps.block_sectors ∙ before.block_sectors;
      era = digested-era (marks_of h) (marks_of h).archive page ∙ before.era;
      lasts = λ block. keeps.lasts block ∙ before.lasts block;
      snapshot = before.snapshot;
    }
follows-event h (Snap id block) legal before = record { valid = before.valid; sectors = before.sectors; block_sectors = before.block_sectors; era = before.era; lasts = before.lasts; snapshot = before.valid }
follows-event h (Dropped id) legal before = record { valid = before.valid; sectors = before.sectors; block_sectors = before.block_sectors; era = before.era; lasts = before.lasts; snapshot = tt }
follows-event h event legal before = record { valid = before.valid; sectors = before.sectors; block_sectors = before.block_sectors; era = before.era; lasts = before.lasts; snapshot = before.snapshot }

-- the marks of each open session follow its journal
pub follows : (h : List Happening) → IsLegal h → is_open h ≡ true → MarksFollowJournal h
follows [] legal open_now = absurd (cc)
follows (Opened opening ∷ []) legal open_now = record {
  valid = legal.0.valid;
  sectors = legal.0.sectors;
  block_sectors = legal.0.block_sectors;
  era = sym legal.0.era;
  lasts = λ block. refl;
  snapshot = legal.0.held;
}
follows (Opened opening ∷ Opened before ∷ h) legal open_now = absurd legal.0
follows (Opened opening ∷ Happened event ∷ h) legal open_now = absurd legal.0
follows (Opened opening ∷ Crashed images ∷ h) legal open_now = follows-reopened h images opening legal.1.1.metadata legal.0
follows (Happened event ∷ h) legal open_now = follows-event h event legal (follows h legal.2 legal.0)
follows (Crashed images ∷ h) legal open_now = absurd (cc)

-- what is held may be found
held-found : (h : List Happening) (held : Option BlockMarks) → MayHold h held held
held-found h None = inl refl
held-found h (Some m) = inl refl

-- marks as they stand may be recovered, and are durable
pub as-they-stand : (h : List Happening) → IsLegal h → is_open h ≡ true → IsDurableFrom h (marks_of h) (held_of h)
as-they-stand h legal open_now =
    let now = follows h legal open_now in
    record {
      recovered = record {
        valid = now.valid;
        sectors = now.sectors;
        block_sectors = now.block_sectors;
        exception = None;
        lasts = λ block within. now.lasts block;
        era = inl now.era;
        valid_snapshot = now.snapshot;
        snapshot = held-found h (held_of h);
      };
      lasts = λ committed block within. now.lasts block;
      era = λ committed. now.era;
      snapshot = λ committed. refl;
    }
