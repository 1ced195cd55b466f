-- What one more call leaves, by a history of the calls before it: an opening that wasn't finished, a first session, and a session behind others.
use Rattle.std.proofs.Common.{◌≡◌, ℕ, true, List, [], ◌∷◌, Option, refl, ap, sym, ◌∙◌, subst, inl, inr}
use Rattle.era_base.specs.CrashModel.{IsCrashImage, Leaves, State}
use Rattle.era_base.specs.declared.geometry.Geometry.{Geometry}
use Rattle.era_model.specs.declared.entry.Entry.{Entry}
use Rattle.era_model.specs.declared.history.Happening.{Happening}
use Rattle.era_model.specs.declared.history.Happening.TheVariants.{Opened, Happened}
use Rattle.era_model.specs.declared.history.Images.{Images}
use Rattle.era_model.specs.declared.opening.Opening.{Opening}
use Rattle.era_model.specs.Chains.{IsMoment}
use Rattle.era_model.specs.Crashes.{MayCrash}
use Rattle.era_model.specs.History.{at_opening, is_open}
use Rattle.era_model.specs.Journal.{history_after}
use Rattle.era_model.specs.Legal.{IsLegal}
use Rattle.era_model.specs.Marks.{BlockMarks, rolled}
use Rattle.era_model.specs.Promises.{KeepsLastEras}
use Rattle.era_model.specs.Validity.{AreValidMarks}
use Rattle.era_promise.specs.Calls.{Disks, EndedCall, IsHistoryOf, EndsUnopened, not_opened}
use Rattle.era_promise.proofs.Left.{MayBeFound, found_images}
use Rattle.era_promise.specs.Openings.{HasOneMeaning, IsBeforeOrNextOf, opening_of}
use Rattle.era_promise.proofs.BeforeOrNext.{found-before, found-next, next-legal, next_history}

-- The laws of the model that the steps take.
pub record Laws : Type 0 where
  pub moments : (h moment : List Happening) → IsLegal h → IsMoment h moment → IsLegal moment
  pub switched : (m : BlockMarks) → AreValidMarks m → KeepsLastEras m (rolled m)
  pub behind : (opening : Opening) (earlier : List Happening) (entries : List Entry) → IsLegal (Opened opening ∷ earlier) → IsLegal (history_after (Opened opening ∷ []) entries)
      → IsLegal (history_after (Opened opening ∷ earlier) entries)
  pub crash : (opening : Opening) (earlier : List Happening) (entries : List Entry) (images : Images) → MayCrash (history_after (Opened opening ∷ []) entries) images
      → MayCrash (history_after (Opened opening ∷ earlier) entries) images
  pub reads : (state : State) → IsCrashImage state state.seen

-- Images that are found have a legal history of the calls, by which a crash may leave them.
pub record HasHistory (g : Geometry) (metadata_blocks : ℕ) (calls : List EndedCall) (origin : List ℕ) (m : BlockMarks) (found : Option BlockMarks) : Type 0 where
  pub history : List Happening
  pub of : IsHistoryOf calls history
  pub legal : IsLegal history
  pub left : MayBeFound g metadata_blocks history origin m found

-- Once a session was served, each image of the metadata disk stands for marks, and all images that are found together have a history.
pub record AreLeft (StandsFor : List ℕ → BlockMarks → Option BlockMarks → Type 0) (g : Geometry) (metadata_blocks : ℕ) (calls : List EndedCall) (disks : Disks) : Type 0 where
  pub stands : Leaves (λ image. (m : BlockMarks) × (found : Option BlockMarks) × StandsFor image m found) disks.metadata
  pub histories : (origin metadata : List ℕ) (m : BlockMarks) (found : Option BlockMarks) → IsCrashImage disks.origin origin → IsCrashImage disks.metadata metadata → StandsFor metadata m found
      → HasHistory g metadata_blocks calls origin m found

-- what stands at the opening stands behind entries
pub at-after : {T : Type 0} (none : T) (of : Opening → T) (h : List Happening) (entries : List Entry) → at_opening none of (history_after h entries) ≡ at_opening none of h
at-after none of h [] = refl
at-after none of h (entry ∷ entries) = at-after none of (Happened entry.event ∷ h) entries

pub open-after : (h : List Happening) (entries : List Entry) → is_open (history_after h entries) ≡ is_open h
open-after h [] = refl
open-after h (entry ∷ entries) = open-after (Happened entry.event ∷ h) entries

-- an opening that wasn't finished leaves marks of before or next
next-found : Laws → (g : Geometry) (metadata_blocks : ℕ) (calls : List EndedCall) (call : EndedCall) (origin : List ℕ) (before m : BlockMarks) (held found : Option BlockMarks) → call.outcome ≡ not_opened
    → HasHistory g metadata_blocks calls origin before held → IsBeforeOrNextOf before held m found → HasHistory g metadata_blocks (call ∷ calls) origin m found
next-found laws g metadata_blocks calls call origin before m held found is had changed = elim changed.era [
  | inl same ↦ record {
    history = had.history;
    of = (had.history, had.of, rw is (inl refl));
    legal = had.legal;
    left = found-before g metadata_blocks had.history origin before m held found had.left changed.keeps changed.snapshot same;
  }
  | inr next ↦ record {
    history = next_history g metadata_blocks had.history origin before held;
    of = (had.history, had.of, rw is (inr (some had.history had.left.ongoing, found_images origin before held, opening_of g (rolled before) held metadata_blocks 1 origin, refl)));
    legal = next-legal g metadata_blocks had.history origin before held had.legal had.left next.0;
    left = found-next g metadata_blocks had.history origin before m held found (laws.switched before had.left.crash.metadata.valid) had.left changed.keeps changed.snapshot next.1;
  }
]
  where
    some : (h : List Happening) → is_open h ≡ true → h ≡ [] → ⊥
    some h ongoing none = let closed = ap is_open (sym none) ∙ ongoing in cc

pub opening-left : Laws → (StandsFor : List ℕ → BlockMarks → Option BlockMarks → Type 0) (IsBlank : List ℕ → Type 0) (g : Geometry) (metadata_blocks : ℕ) (calls : List EndedCall) (call : EndedCall) (before : Disks)
    → HasOneMeaning StandsFor IsBlank → call.outcome ≡ not_opened → EndsUnopened StandsFor IsBlank g before call.disks → AreLeft StandsFor g metadata_blocks calls before
    → AreLeft StandsFor g metadata_blocks (call ∷ calls) call.disks
opening-left laws StandsFor IsBlank g metadata_blocks calls call before one is leaves left = record {
  stands = λ image may. elim (leaves.metadata image may) [
    | inl old ↦ left.stands image old
    | inr opening ↦ let changed = opening.marks seen.0 seen.1 seen.2 in (changed.0, changed.1, changed.2)
  ];
  histories = λ origin metadata m found origin_may may stands. elim (leaves.metadata metadata may) [
    | inl old ↦
        let had = left.histories origin metadata m found (leaves.origin origin origin_may) old stands in
        record { history = had.history; of = (had.history, had.of, rw is (inl refl)); legal = had.legal; left = had.left }
    | inr opening ↦
        let changed = opening.marks seen.0 seen.1 seen.2 in
        let had = left.histories origin before.metadata.seen seen.0 seen.1 (leaves.origin origin origin_may) (laws.reads before.metadata) seen.2 in
        let same_marks = one.marks metadata changed.0 m changed.1 found changed.2 stands in
        let same_held = one.held metadata changed.0 m changed.1 found changed.2 stands in
        next-found laws g metadata_blocks calls call origin seen.0 m seen.1 found is had
        (subst (IsBeforeOrNextOf seen.0 seen.1 m) same_held (subst (λ (marks : BlockMarks). IsBeforeOrNextOf seen.0 seen.1 marks changed.1) same_marks changed.3))
  ];
}
  where
    seen : (m : BlockMarks) × (found : Option BlockMarks) × StandsFor before.metadata.seen m found
    seen = left.stands before.metadata.seen (laws.reads before.metadata)
