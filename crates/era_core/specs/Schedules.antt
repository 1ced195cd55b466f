-- Histories that the machine makes by a list of steps.
use Rattle.std.specs.Prelude.{◌≡◌, true, List, [], ◌∷◌}
use Rattle.era_model.specs.declared.event.Event.{Event}
use Rattle.era_model.specs.declared.event.Event.TheVariants.{Kept}
use Rattle.era_model.specs.declared.history.Happening.{Happening}
use Rattle.era_model.specs.declared.history.Happening.TheVariants.{Opened, Happened, Crashed}
use Rattle.era_model.specs.declared.opening.Opening.{Opening}
use Rattle.era_model.specs.Chains.{IsMoment}
use Rattle.era_model.specs.History.{is_open}
use Rattle.era_model.specs.Legal.{IsLegal, IsOpening}
use Rattle.era_core.specs.declared.step.Step.{Step}
use Rattle.era_core.specs.AfterSteps.{Run}
use Rattle.era_core.specs.Machine.{CoreState, opened_core}

-- The event, with the number of an era that was kept left out.
abbrev pub unnumbered_event : Event → Event
unnumbered_event (Kept id inside) = Kept id 0
unnumbered_event event = event

-- The history, with the numbers of all eras that were kept left out.
abbrev pub unnumbered : List Happening → List Happening
unnumbered [] = []
unnumbered (Happened event ∷ earlier) = Happened (unnumbered_event event) ∷ unnumbered earlier
unnumbered (happening ∷ earlier) = happening ∷ unnumbered earlier

-- The history of the present session alone, without the sessions before it.
abbrev pub session_of : List Happening → List Happening
session_of [] = []
session_of (Opened opening ∷ earlier) = Opened opening ∷ []
session_of (Happened event ∷ earlier) = Happened event ∷ session_of earlier
session_of (Crashed images ∷ earlier) = Crashed images ∷ session_of earlier

-- At every moment of the history at which a session is open, that session is legal by itself.
abbrev pub HasLegalSessions : List Happening → Type 0
HasLegalSessions h = (moment : List Happening) → IsMoment h moment → is_open moment ≡ true → IsLegal (session_of moment)

-- Steps that the machine accepts one after another, from the opening of a first session on, and the core that they lead to.
pub record IsSchedule (opening : Opening) (steps : List Step) (last : CoreState) : Type 0 where
  pub opens : IsOpening opening
  pub ran : Run (opened_core opening) steps last

-- The history is that of a list of steps that the machine accepts, but for the numbers of the eras that were kept.
pub record IsScheduled (h : List Happening) : Type 0 where
  pub opening : Opening
  pub steps : List Step
  pub last : CoreState
  pub schedule : IsSchedule opening steps last
  pub same : unnumbered last.history ≡ unnumbered h
