-- What is promised of marks: of a journal, of a change, and over all sessions at every moment.
use Rattle.std.specs.Prelude.{◌≡◌, ℕ, ◌<◌, ◌≤◌, max, true, List, ◌∷◌, Option}
use Rattle.era_model.specs.declared.history.Happening.{Happening}
use Rattle.era_model.specs.declared.history.Happening.TheVariants.{Opened}
use Rattle.era_model.specs.declared.opening.Opening.{Opening}
use Rattle.era_model.specs.Chains.{IsMoment}
use Rattle.era_model.specs.Changed.{CoversChanges, IsCrashContent, ListsChanges}
use Rattle.era_model.specs.History.{at_opening, blocks_at, blocks_now, content, era_of}
use Rattle.era_model.specs.Marking.{asked_since, held_of, journal_last_era, marks_of}
use Rattle.era_model.specs.Marks.{BlockMarks, marks_last_era, written_since}
use Rattle.era_model.specs.Recovered.{IsRecoveredFrom}
use Rattle.era_model.specs.Validity.{AreValidMarks, IsValidSnapshot}

-- Marks that were changed are valid, of the same geometry, and have each block's last marked era of before.
pub record KeepsLastEras (before after : BlockMarks) : Type 0 where
  pub valid : AreValidMarks after
  pub sectors : after.sectors ≡ before.sectors
  pub block_sectors : after.block_sectors ≡ before.block_sectors
  pub lasts : (block : ℕ) → marks_last_era after block ≡ marks_last_era before block

-- The marks follow the journal: they are valid, of the origin's geometry and of the present era, they have each block's last marked era by the journal, and the snapshot is valid, if there is one.
pub record MarksFollowJournal (h : List Happening) : Type 0 where
  pub valid : AreValidMarks (marks_of h)
  pub sectors : (marks_of h).sectors ≡ at_opening 0 (λ opening. opening.geometry.sectors) h
  pub block_sectors : (marks_of h).block_sectors ≡ at_opening 0 (λ opening. opening.geometry.block_sectors) h
  pub era : (marks_of h).era ≡ era_of h
  pub lasts : (block : ℕ) → marks_last_era (marks_of h) block ≡ journal_last_era h block
  pub snapshot : IsValidSnapshot (held_of h)

-- At every moment of the history, all marks that may be recovered list each block that has changed since an era, whatever a crash may leave of it.
abbrev pub NoChangedBlockMissed : List Happening → Type 0
NoChangedBlockMissed h =
    (moment : List Happening) (m : BlockMarks) (found : Option BlockMarks) (era : ℕ)
    → IsMoment h moment → IsRecoveredFrom moment m found → ListsChanges moment m era

-- At every moment of the history, each block that marks list since an era, if they may be recovered, was asked to be marked in that era or a later one, or the marks of the first opening listed it.
abbrev pub NoUnaskedBlockListed : List Happening → Type 0
NoUnaskedBlockListed h =
    (moment : List Happening) (m : BlockMarks) (found : Option BlockMarks) (era block : ℕ)
    → IsMoment h moment → IsRecoveredFrom moment m found → written_since m era block ≡ true → asked_since moment era block ≡ true

-- The contents have of each block of the origin something that a crash may leave of it.
abbrev pub AreCrashContents : List Happening → (ℕ → List ℕ) → Type 0
AreCrashContents h contents = (block : ℕ) → block < blocks_now h → IsCrashContent h block (contents block)

-- Where the marks of an opening of the history cover its contents from a base, since an era that has begun by then, all marks that may be recovered at a later moment, also of a later session, cover from that base all contents that a crash may leave then.
abbrev pub CoverageGoesOn : List Happening → Type 0
CoverageGoesOn h =
    (moment earlier : List Happening) (opening : Opening) (m : BlockMarks) (found : Option BlockMarks) (era : ℕ)
    (base contents : ℕ → List ℕ)
    → IsMoment h moment → IsMoment moment (Opened opening ∷ earlier) → max era 1 ≤ opening.era
    → CoversChanges opening.marks (blocks_at opening) era base (content (Opened opening ∷ earlier))
    → IsRecoveredFrom moment m found → AreCrashContents moment contents
    → CoversChanges m (blocks_now moment) era base contents
