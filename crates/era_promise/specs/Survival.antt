-- What a crash of all devices leaves, and what its marks list then.
use Rattle.std.specs.Prelude.{◌≡◌, ◌≢◌, ℕ, ◌<◌, ◌≤◌, max, true, List, ◌∷◌, length, Option, Some}
use Rattle.era_model.specs.declared.history.Happening.{Happening}
use Rattle.era_model.specs.declared.history.Happening.TheVariants.{Opened}
use Rattle.era_model.specs.declared.journal.Journal.{Journal}
use Rattle.era_model.specs.declared.opening.Opening.{Opening}
use Rattle.era_model.specs.Chains.{IsMoment}
use Rattle.era_model.specs.Changed.{CoversChanges}
use Rattle.era_model.specs.History.{blocks_at, blocks_now, content}
use Rattle.era_model.specs.Marking.{asked_since, era_start}
use Rattle.era_model.specs.Marks.{BlockMarks, written_since}
use Rattle.era_notes.specs.Parts.{IsIn, bytes_in}
use Rattle.era_notes.specs.Windows.{IsLeftAt}
use Rattle.era_promise.specs.Sessions.{PartDevice, SessionDevices, IsPartAt, history_below}

-- A crash at a place leaves of a part an image that has these contents of its blocks.
pub record LeavesBlocks (one : PartDevice) (place : ℕ) (contents : ℕ → List ℕ) : Type 0 where
  pub image : List ℕ
  pub left : IsLeftAt one.device place image
  pub blocks : (block : ℕ) → IsIn one.part block → contents block ≡ bytes_in one.part image block

-- A crash of all devices at a place, each at a moment of its own in its window of the place: it leaves these contents of the origin's blocks, and a metadata image that stands for these marks and this snapshot.
pub record JointCrash (StandsFor : List ℕ → BlockMarks → Option BlockMarks → Type 0) (devices : SessionDevices) (place : ℕ) (contents : ℕ → List ℕ) (m : BlockMarks) (found : Option BlockMarks) : Type 0 where
  pub origin : (stripe : ℕ) (one : PartDevice) → IsPartAt devices stripe one → LeavesBlocks one place contents
  pub image : List ℕ
  pub left : IsLeftAt devices.metadata place image
  pub stands : StandsFor image m found

-- Since an era marks list, of contents that are found with them, each block that differs from its content when the era began, and only blocks that were asked to be marked in it or later, or that the first opening's marks listed; and they cover the contents from any older base that an opening's marks covered.
pub record ListsRight (h : List Happening) (contents : ℕ → List ℕ) (m : BlockMarks) (era : ℕ) : Type 0 where
  pub changed : (start : List Happening) → era_start era h ≡ Some start
      → (block : ℕ) → block < blocks_now h → contents block ≢ content start block → written_since m era block ≡ true
  pub asked : (block : ℕ) → written_since m era block ≡ true → asked_since h era block ≡ true
  pub covered : (earlier : List Happening) (opening : Opening) (base : ℕ → List ℕ) → IsMoment h (Opened opening ∷ earlier) → max era 1 ≤ opening.era
      → CoversChanges opening.marks (blocks_at opening) era base (content (Opened opening ∷ earlier))
      → CoversChanges m (blocks_now h) era base contents

-- After a crash of all devices at any place of the journal, the marks that are found list right since each era.
abbrev pub SurvivesCrashes : (List ℕ → BlockMarks → Option BlockMarks → Type 0) → Journal → SessionDevices → Type 0
SurvivesCrashes StandsFor journal devices =
    (place era : ℕ) (contents : ℕ → List ℕ) (m : BlockMarks) (found : Option BlockMarks) → place ≤ length journal.entries
    → JointCrash StandsFor devices place contents m found → ListsRight (history_below journal place) contents m era
