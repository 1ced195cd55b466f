-- What each step of the machine changes, and lists of steps.
use Rattle.std.specs.Prelude.{◌≡◌, ℕ, ◌+◌, Bool, true, false, List, [], ◌∷◌, ◌++◌, length, replicate, slice_set, if◌then◌else◌}
use Rattle.era_model.specs.declared.event.Event.{Event}
use Rattle.era_model.specs.declared.event.Event.TheVariants.{Go, Done, Cut, Settle, Unsettled, Read, Refused}
use Rattle.era_model.specs.declared.event.Why.TheVariants.{DataFault}
use Rattle.era_model.specs.declared.history.Happening.{Happening}
use Rattle.era_model.specs.declared.history.Happening.TheVariants.{Opened, Happened, Crashed}
use Rattle.era_model.specs.declared.history.Images.{Images}
use Rattle.era_model.specs.declared.opening.Opening.{Opening}
use Rattle.era_model.specs.History.{at_opening}
use Rattle.era_model.specs.Marks.{rolled}
use Rattle.era_core.specs.declared.step.Step.{Step}
use Rattle.era_core.specs.declared.step.Step.TheVariants.{Enter, Leave, Take, Crash, Reopen}
use Rattle.era_core.specs.Machine.{CoreState, count_inside, IsEnabled}

-- Whether the event is one of the metadata. All are, but for those of the origin's parts.
abbrev pub is_metadata_event : Event → Bool
is_metadata_event (Go id block era first bytes) = false
is_metadata_event (Done id) = false
is_metadata_event (Cut id faults) = false
is_metadata_event (Settle by cut bytes) = false
is_metadata_event (Unsettled by cut faults) = false
is_metadata_event (Read id sector bytes) = false
is_metadata_event (Refused id kind (DataFault stripe count)) = false
is_metadata_event event = true

-- How a session opens on the images of the one before: the marks after one switch, so in the era above theirs, with the held snapshot, the origin and the metadata disk of before, and its own number of stripes.
abbrev pub reopening : Opening → Images → ℕ → Opening
reopening before images stripes = record {
  geometry = before.geometry;
  era = images.marks.era + 1;
  marks = rolled images.marks;
  held = images.held;
  total = before.total;
  stripes = stripes;
  contents = images.contents;
}

-- The core with the stripe inside, or outside; the new number of stripes inside is kept too.
abbrev pub with_stripe : CoreState → ℕ → Bool → CoreState
with_stripe core stripe inside = record core {
  inside = slice_set core.inside stripe inside;
  kept = core.kept ++ count_inside (slice_set core.inside stripe inside) ∷ [];
}

-- The core after an event: behind one of the metadata the present number of stripes inside alone is kept.
abbrev pub with_event : CoreState → Event → CoreState
with_event core event = record core {
  history = Happened event ∷ core.history;
  kept = if is_metadata_event event then count_inside core.inside ∷ [] else core.kept;
}

-- The core at the opening of its next session: no stripe is inside. Where no crash stands last, nothing changes.
abbrev pub reopened : CoreState → List Happening → ℕ → CoreState
reopened core (Crashed images ∷ earlier) stripes = at_opening core (λ before. record {
  history = Opened (reopening before images stripes) ∷ core.history;
  inside = replicate stripes false;
  kept = 0 ∷ [];
}) earlier
reopened core h stripes = core

-- The core after a step.
abbrev pub after_step : CoreState → Step → CoreState
after_step core (Enter stripe) = with_stripe core stripe true
after_step core (Leave stripe) = with_stripe core stripe false
after_step core (Take event) = with_event core event
after_step core (Crash images) = record core { history = Crashed images ∷ core.history }
after_step core (Reopen stripes) = reopened core core.history stripes

-- Each of the steps may happen at its turn, and they lead from one core to another.
abbrev pub Run : CoreState → List Step → CoreState → Type 0
Run core [] last = last ≡ core
Run core (step ∷ steps) last = IsEnabled core step × Run (after_step core step) steps last

-- The steps may happen up to the one with this index, counted from 0, and that one may not.
pub record StopsAt (core : CoreState) (steps : List Step) (index : ℕ) : Type 0 where
  pub front : List Step
  pub step : Step
  pub rest : List Step
  pub before : CoreState
  pub joined : steps ≡ front ++ step ∷ rest
  pub count : length front ≡ index
  pub ran : Run core front before
  pub refused : ¬ IsEnabled before step
