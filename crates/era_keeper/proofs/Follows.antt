-- The marks of a history with one more event.
use Rattle.std.proofs.Common.{◌≡◌, ℕ, ◌+◌, ◌<◌, ◌≤◌, ◌==◌, ◌&&◌, false, List, [], ◌∷◌, Option, Some, None, length, nat_lt, refl, sym, ap, ◌∙◌, subst, arith, inl, inr}
use Rattle.std.specs.Prelude.{if◌then◌else◌, max}
use Rattle.std.proofs.lemmas.Bool.{cond_both, or_cases, and_parts, eqb-true, false≢true, false_from_ne_true}
use Rattle.era_base.specs.Flags.{has}
use Rattle.era_base.specs.declared.ids.CmdId.{CmdId}
use Rattle.era_model.specs.declared.event.Event.{Event}
use Rattle.era_model.specs.declared.event.Event.TheVariants.{Mark, Roll, Snap, Dropped, Digest}
use Rattle.era_model.specs.declared.history.Happening.{Happening}
use Rattle.era_model.specs.declared.history.Happening.TheVariants.{Opened, Happened}
use Rattle.era_model.specs.declared.opening.Opening.{Opening}
use Rattle.era_model.specs.Digest.{digested, digested_from}
use Rattle.era_model.specs.History.{era_of}
use Rattle.era_model.specs.Legal.{IsOpening}
use Rattle.era_model.specs.Marking.{held_of, is_marked_in, journal_last_era, marks_of}
use Rattle.era_model.specs.MarkLaws.{LastsAreBounded, MarkGivesEra, SwitchKeepsMarks}
use Rattle.era_model.specs.Marks.{ArchivedSet, BlockMarks, last_archived, marks_last_era, rolled, with_current_archived, with_oldest_merged}
use Rattle.era_model.specs.Promises.{KeepsLastEras, MarksFollowJournal}
use Rattle.era_model.specs.Recovered.{IsDurableFrom, MayHold}
use Rattle.era_model.specs.Validity.{AreArchivedBetween, AreValidMarks, IsValidSnapshot, entry_limit}
use Rattle.era_keeper.specs.OwnEntries.{MarksAreKept}
use Rattle.era_keeper.proofs.Words.{KeepsLasts, SameWords}

-- what a switch leaves: the geometry, and the next era
pub record Switches (m after : BlockMarks) : Type 0 where
  pub sectors : after.sectors ≡ m.sectors
  pub block_sectors : after.block_sectors ≡ m.block_sectors
  pub era : after.era ≡ m.era + 1

merged-first : (m : BlockMarks) (sets : List ArchivedSet) → Switches m (with_current_archived (with_oldest_merged m sets))
merged-first m [] = record { sectors = refl; block_sectors = refl; era = refl }
merged-first m (oldest ∷ sets) = record { sectors = refl; block_sectors = refl; era = refl }

pub rolled-switches : (m : BlockMarks) → Switches m (rolled m)
rolled-switches m = cond_both (nat_lt (length m.archive) 16) m (with_oldest_merged m m.archive) (λ before. Switches m (with_current_archived before))
    (λ few. record { sectors = refl; block_sectors = refl; era = refl })
    (λ full. merged-first m m.archive)

digested-era-from : (m : BlockMarks) (sets : List ArchivedSet) (page : Option ℕ) → (digested_from m sets page).era ≡ m.era
digested-era-from m [] page = refl
digested-era-from m (oldest ∷ sets) None = refl
digested-era-from m (oldest ∷ sets) (Some page) = refl

pub digested-era : (m : BlockMarks) (page : Option ℕ) → (digested m page).era ≡ m.era
digested-era m page = digested-era-from m m.archive page

-- the opening
pub follows-opening : (opening : Opening) → IsOpening opening → MarksFollowJournal (Opened opening ∷ [])
follows-opening opening is = record {
  valid = is.valid;
  sectors = is.sectors;
  block_sectors = is.block_sectors;
  era = sym is.era;
  lasts = λ block. refl;
  snapshot = is.held;
}

-- an event that leaves the marks
pub follows-same : (event : Event) (h : List Happening) → SameWords event h → MarksFollowJournal h → MarksFollowJournal (Happened event ∷ h)
follows-same event h same f = record {
  valid = subst AreValidMarks (sym same.marks) f.valid;
  sectors = ap (λ (m : BlockMarks). m.sectors) same.marks ∙ f.sectors;
  block_sectors = ap (λ (m : BlockMarks). m.block_sectors) same.marks ∙ f.block_sectors;
  era = ap (λ (m : BlockMarks). m.era) same.marks ∙ f.era ∙ sym same.era;
  lasts = λ block. ap (λ (m : BlockMarks). marks_last_era m block) same.marks ∙ f.lasts block ∙ sym (same.keeps.lasts block);
  snapshot = subst IsValidSnapshot (sym same.keeps.held) f.snapshot;
}

pub follows-mark : (h : List Happening) (id : CmdId) (block era : ℕ) → era ≡ era_of h → MarkGivesEra (marks_of h) block → MarksFollowJournal h → MarksFollowJournal (Happened (Mark id block era) ∷ h)
follows-mark h id block era present gives f = record {
  valid = gives.valid;
  sectors = f.sectors;
  block_sectors = f.block_sectors;
  era = f.era;
  lasts = λ other. gives.lasts other ∙ cond_both (block == other) (marks_of h).era (marks_last_era (marks_of h) other) (λ (last : ℕ). last ≡ (if block == other then era else journal_last_era h other))
      (λ same. rw same (f.era ∙ sym present)) (λ apart. rw apart (f.lasts other));
  snapshot = f.snapshot;
}

pub follows-switch : (h : List Happening) (id : CmdId) (era : ℕ) → era ≡ era_of h + 1 → SwitchKeepsMarks (marks_of h) → MarksFollowJournal h → MarksFollowJournal (Happened (Roll id era) ∷ h)
follows-switch h id era next keeps f =
    let switched = rolled-switches (marks_of h) in
    record {
      valid = keeps.valid;
      sectors = switched.sectors ∙ f.sectors;
      block_sectors = switched.block_sectors ∙ f.block_sectors;
      era = switched.era ∙ ap (λ (n : ℕ). n + 1) f.era ∙ sym next;
      lasts = λ block. keeps.lasts block ∙ f.lasts block;
      snapshot = f.snapshot;
    }

pub follows-digest : (h : List Happening) (id : CmdId) (era : ℕ) (page : Option ℕ) → KeepsLastEras (marks_of h) (digested (marks_of h) page) → MarksFollowJournal h
    → MarksFollowJournal (Happened (Digest id era page) ∷ h)
follows-digest h id era page keeps f = record {
  valid = keeps.valid;
  sectors = keeps.sectors ∙ f.sectors;
  block_sectors = keeps.block_sectors ∙ f.block_sectors;
  era = digested-era (marks_of h) page ∙ f.era;
  lasts = λ block. keeps.lasts block ∙ f.lasts block;
  snapshot = f.snapshot;
}

pub follows-snap : (h : List Happening) (id : CmdId) (block : ℕ) → MarksFollowJournal h → MarksFollowJournal (Happened (Snap id block) ∷ h)
follows-snap h id block f = record { valid = f.valid; sectors = f.sectors; block_sectors = f.block_sectors; era = f.era; lasts = f.lasts; snapshot = f.valid }

pub follows-drop : (h : List Happening) (id : CmdId) → MarksFollowJournal h → MarksFollowJournal (Happened (Dropped id) ∷ h)
follows-drop h id f = record { valid = f.valid; sectors = f.sectors; block_sectors = f.block_sectors; era = f.era; lasts = f.lasts; snapshot = tt }

-- marks are kept
pub kept-same : (event : Event) (h : List Happening) → KeepsLasts event h → MarksAreKept h → MarksAreKept (Happened event ∷ h)
kept-same event h same kept = λ block era marked.
    let before = kept block era (sym (same.marked block era) ∙ marked) in
    let lasts = same.lasts block in
    omega (arith, before, lasts)

pub kept-mark : (h : List Happening) (id : CmdId) (block era : ℕ) → era ≡ era_of h → LastsAreBounded (marks_of h) → MarksFollowJournal h → MarksAreKept h → MarksAreKept (Happened (Mark id block era) ∷ h)
kept-mark h id block era present bounded f kept = λ b e marked.
    cond_both (block == b) era (journal_last_era h b) (λ (last : ℕ). e ≤ last)
    (λ same. elim (or_cases (block == b && era == e) (is_marked_in h b e) marked) [
      | inl now ↦ let is = eqb-true era e (and_parts (block == b) (era == e) now).1 in omega (arith, is)
      | inr before ↦
          let low = kept b e before in
          let last = f.lasts b in
          let high = bounded.bounded b in
          let era_is = f.era in
          omega (arith, low, last, high, era_is, present)
    ])
    (λ apart. elim (or_cases (block == b && era == e) (is_marked_in h b e) marked) [
      | inl now ↦ absurd (false≢true (sym apart ∙ (and_parts (block == b) (era == e) now).0))
      | inr before ↦ kept b e before
    ])

-- a block that the current set hasn't has no mark in the present era
limit-below : (blocks above era : ℕ) (archive : List ArchivedSet) → 1 ≤ era → AreArchivedBetween blocks above era archive → entry_limit archive era < era
limit-below blocks above era [] begun between = omega (arith, begun)
limit-below blocks above era (oldest ∷ sets) begun between = between.1

archived-below : (blocks above era : ℕ) (archive : List ArchivedSet) (block : ℕ) → 1 ≤ era → AreArchivedBetween blocks above era archive → last_archived archive block < era
archived-below blocks above era [] block begun between = omega (arith, begun)
archived-below blocks above era (set ∷ sets) block begun between =
    let rest = archived-below blocks set.era era sets block begun between.3 in
    cond_both (has set.blocks block) set.era 0 (λ (own : ℕ). max own (last_archived sets block) < era)
    (λ on. omega (arith, rest, between.1)) (λ off. omega (arith, rest))

pub unset-last : (m : BlockMarks) (block : ℕ) → AreValidMarks m → has m.current block ≡ false → marks_last_era m block < m.era
unset-last m block valid unset =
    let entry = valid.entries block in
    let limit = limit-below _ 0 m.era m.archive valid.begun valid.archive in
    let archived = archived-below _ 0 m.era m.archive block valid.begun valid.archive in
    let begun = valid.begun in
    rw unset (omega (arith, entry, limit, archived, begun))

pub unmarked : (h : List Happening) (block : ℕ) → MarksFollowJournal h → MarksAreKept h → has (marks_of h).current block ≡ false → is_marked_in h block (era_of h) ≡ false
unmarked h block f kept unset = false_from_ne_true _ (λ marked.
    let low = kept block (era_of h) marked in
    let last = f.lasts block in
    let below = unset-last (marks_of h) block f.valid unset in
    let era = f.era in
    omega (arith, low, last, below, era))

-- the marks as they stand are durable
pub hold-own : (h : List Happening) (held : Option BlockMarks) → MayHold h held held
hold-own h None = inl refl
hold-own h (Some held) = inl refl

pub durable-now : (h : List Happening) → MarksFollowJournal h → IsDurableFrom h (marks_of h) (held_of h)
durable-now h f = record {
  recovered = record {
    valid = f.valid;
    sectors = f.sectors;
    block_sectors = f.block_sectors;
    exception = None;
    lasts = λ block below. f.lasts block;
    era = inl f.era;
    valid_snapshot = f.snapshot;
    snapshot = hold-own h (held_of h);
  };
  lasts = λ none block below. f.lasts block;
  era = λ none. f.era;
  snapshot = λ none. refl;
}
