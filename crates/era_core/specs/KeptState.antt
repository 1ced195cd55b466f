-- What a core keeps beside its history, so that a step is judged without memory.
use Rattle.std.specs.Prelude.{◌≡◌, ◌⊎◌, ℕ, ◌≤◌, Bool, true, false, List, [], ◌∷◌, ◌++◌, length, Option, Some, None, IfSome}
use Rattle.era_base.specs.declared.limits.TheConstants.{MOST_SETS, MOST_STRIPES}
use Rattle.era_model.specs.declared.event.Event.{Event}
use Rattle.era_model.specs.declared.event.Event.TheVariants.{Mark, Roll, Digest, Snap, Dropped, Done, Settle}
use Rattle.era_model.specs.declared.flight.FlightWrite.{FlightWrite}
use Rattle.era_model.specs.declared.history.Happening.{Happening}
use Rattle.era_model.specs.declared.history.Happening.TheVariants.{Crashed}
use Rattle.era_model.specs.declared.opening.Opening.{Opening}
use Rattle.era_model.specs.History.{at_opening, in_flight}
use Rattle.era_model.specs.Legal.{IsLegal}
use Rattle.era_model.specs.Marking.{held_of, marks_of}
use Rattle.era_model.specs.Marks.{BlockMarks}
use Rattle.era_model.specs.Writes.{write_of}
use Rattle.era_core.specs.AfterSteps.{StopsAt, reopening}
use Rattle.era_core.specs.Machine.{CoreState}
use Rattle.era_core.specs.declared.step.CoreStop.{CoreStop}
use Rattle.era_core.specs.declared.step.CoreStop.TheVariants.{NotEnabled, Memory}
use Rattle.era_core.specs.declared.step.Step.{Step}
use Rattle.era_core.specs.declared.upkeep.Upkeep.{Upkeep}
use Rattle.era_core.specs.Present.{HaveContents, HavePast, HaveStripes}

-- The writes in flight, each block's content, the marks, those of earlier moments, and the snapshot are what the history says.
pub record KeepsUp (h : List Happening) (writes : List FlightWrite) (contents : List (List ℕ)) (marks : BlockMarks) (past : List BlockMarks) (held : Option BlockMarks) : Type 0 where
  pub stripes : HaveStripes h
  pub flight : writes ≡ in_flight h
  pub content : HaveContents h contents
  pub marking : marks ≡ marks_of h
  pub earlier : HavePast h past
  pub snapshot : held ≡ held_of h
  pub few_sets : length marks.archive ≤ MOST_SETS
  pub few_held : IfSome held (λ m. length m.archive ≤ MOST_SETS)

-- What a core keeps is what the history says.
abbrev pub IsKeptUp : List Happening → Upkeep → Type 0
IsKeptUp h upkeep = KeepsUp h upkeep.writes.items upkeep.contents.items upkeep.marks upkeep.past.items upkeep.held

-- Whether the event changes the marks or the snapshot.
abbrev pub changes_metadata : Event → Bool
changes_metadata (Mark id block era) = true
changes_metadata (Roll id era) = true
changes_metadata (Digest id era page) = true
changes_metadata (Snap id block) = true
changes_metadata (Dropped id) = true
changes_metadata event = false

-- The block of a write, none where there is no write.
abbrev pub written_block_of : Option FlightWrite → Option ℕ
written_block_of None = None
written_block_of (Some write) = Some write.block

-- The block whose content the event changes, where these writes are in flight; none where it changes no content.
abbrev pub target_block : List FlightWrite → Event → Option ℕ
target_block writes (Done id) = written_block_of (write_of writes id)
target_block writes (Settle by cut bytes) = written_block_of (write_of writes cut)
target_block writes event = None

-- Marks that have changed stand behind those of before; otherwise they and the earlier ones are the same.
abbrev pub HasPushed : List BlockMarks → BlockMarks → List BlockMarks → BlockMarks → Type 0
HasPushed past marks past_now marks_now =
    ((past_now ≡ past) × (marks_now ≡ marks)) ⊎ (past_now ≡ past ++ marks_now ∷ [])

-- The core with this history, these stripes inside and these kept numbers.
abbrev pub core_of : List Happening → List Bool → List ℕ → CoreState
core_of h inside kept = record { history = h; inside = inside; kept = kept }

-- A core's history is legal, what it keeps is what the history says, and it has at most sixteen stripes.
pub record IsKept (h : List Happening) (inside : List Bool) (upkeep : Upkeep) : Type 0 where
  pub legal : IsLegal h
  pub keeps : IsKeptUp h upkeep
  pub few_stripes : length inside ≤ MOST_STRIPES

-- How the next session opens where a crash stands last, none elsewhere.
abbrev pub next_opening : List Happening → ℕ → Option Opening
next_opening (Crashed images ∷ earlier) stripes = at_opening None (λ before. Some (reopening before images stripes)) earlier
next_opening h stripes = None

-- Why a run of the steps stopped: at the index of the first one that may not happen, or for want of memory.
abbrev pub HasStopped : CoreState → List Step → CoreStop → Type 0
HasStopped core steps (NotEnabled index) = StopsAt core steps index
HasStopped core steps Memory = Unit {0}
