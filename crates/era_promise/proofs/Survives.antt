-- In a crash at a place of a journal that the devices follow, the contents are ones that a crash may leave, and the marks may be recovered.
use Rattle.std.proofs.Common.{ℕ, ◌<◌, ◌≤◌, List, length, Option, sym, subst}
use Rattle.era_model.specs.declared.journal.Journal.{Journal}
use Rattle.era_model.specs.Changed.{IsCrashContent}
use Rattle.era_model.specs.Marks.{BlockMarks}
use Rattle.era_model.specs.Promises.{AreCrashContents, CoverageGoesOn, NoChangedBlockMissed, NoUnaskedBlockListed}
use Rattle.era_model.specs.Recovered.{IsRecoveredFrom}
use Rattle.era_model.specs.declared.history.Happening.{Happening}
use Rattle.era_promise.specs.Sessions.{DevicesFollow, SessionDevices, history_below}
use Rattle.era_promise.specs.Survival.{JointCrash, ListsRight}
use Rattle.era_promise.proofs.Places.{blocks-below, moment-self}

-- the contents
pub crash-contents : (StandsFor : List ℕ → BlockMarks → Option BlockMarks → Type 0) (journal : Journal) (devices : SessionDevices) (place : ℕ) (contents : ℕ → List ℕ) (m : BlockMarks) (found : Option BlockMarks)
    → DevicesFollow StandsFor journal devices → place ≤ length journal.entries → JointCrash StandsFor devices place contents m found
    → AreCrashContents (history_below journal place) contents
crash-contents StandsFor journal devices place contents m found follow within crash block inside =
    let covered = follow.cover block (subst (λ blocks. block < blocks) (blocks-below journal place) inside) in
    let leaves = crash.origin _ covered.0 covered.1 in
    subst (IsCrashContent (history_below journal place) block) (sym (leaves.blocks block covered.2))
    (follow.parts place _ covered.0 within covered.1 leaves.image leaves.left block covered.2)

-- the marks
pub crash-recovered : (StandsFor : List ℕ → BlockMarks → Option BlockMarks → Type 0) (journal : Journal) (devices : SessionDevices) (place : ℕ) (contents : ℕ → List ℕ) (m : BlockMarks) (found : Option BlockMarks)
    → DevicesFollow StandsFor journal devices → place ≤ length journal.entries → JointCrash StandsFor devices place contents m found
    → IsRecoveredFrom (history_below journal place) m found
crash-recovered StandsFor journal devices place contents m found follow within crash =
    (follow.metadata place within).recovered crash.image m found crash.left crash.stands

-- what the laws of the model say of such contents and marks
pub lists-right : (h : List Happening) (contents : ℕ → List ℕ) (m : BlockMarks) (found : Option BlockMarks) (era : ℕ) → NoChangedBlockMissed h → NoUnaskedBlockListed h → CoverageGoesOn h
    → IsRecoveredFrom h m found → AreCrashContents h contents → ListsRight h contents m era
lists-right h contents m found era missed unasked covered recovered possible = record {
  changed = λ start begun block inside differs.
      missed h m found era (moment-self h) recovered block (contents block) inside
      (record { start = start; begun = begun; possible = possible block inside; differs = differs });
  asked = λ block listed. unasked h m found era block (moment-self h) recovered listed;
  covered = λ earlier opening base is begun covers. covered h earlier opening m found era base contents (moment-self h) is begun covers recovered possible;
}
