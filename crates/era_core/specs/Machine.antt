-- The machine: what it keeps, and which steps may happen.
use Rattle.std.specs.Prelude.{◌≡◌, ℕ, ◌+◌, ◌<◌, ◌≤◌, ◌==◌, ◌||◌, Bool, true, false, List, [], ◌∷◌, replicate, Option, Some, None, if◌then◌else◌}
use Rattle.era_base.specs.Flags.{has}
use Rattle.era_base.specs.declared.limits.TheConstants.{LAST_ERA, MOST_STRIPES}
use Rattle.era_model.specs.declared.event.Event.{Event}
use Rattle.era_model.specs.declared.event.Event.TheVariants.{Go, Done, Cut, Settle, Unsettled, Roll, Kept}
use Rattle.era_model.specs.declared.history.Happening.{Happening}
use Rattle.era_model.specs.declared.history.Happening.TheVariants.{Opened, Crashed}
use Rattle.era_model.specs.declared.history.Images.{Images}
use Rattle.era_model.specs.declared.opening.Opening.{Opening}
use Rattle.era_model.specs.CommandEvents.{written_stripe}
use Rattle.era_model.specs.History.{at_opening, in_flight, is_open, stripe_now}
use Rattle.era_model.specs.Crashes.{MayCrash}
use Rattle.era_model.specs.Legal.{MayHappen}
use Rattle.era_model.specs.Writes.{some_block}
use Rattle.era_core.specs.declared.step.Step.{Step}
use Rattle.era_core.specs.declared.step.Step.TheVariants.{Enter, Leave, Take, Crash, Reopen}

-- What a core keeps: its history, the latest first; for each stripe of the session whether it is inside; and the numbers of stripes that were inside since the last event of the metadata.
pub record CoreState : Type 0 where
  pub history : List Happening
  pub inside : List Bool
  pub kept : List ℕ

-- A core at the opening of its first session: no stripe is inside.
abbrev pub opened_core : Opening → CoreState
opened_core opening = record {
  history = Opened opening ∷ [];
  inside = replicate opening.stripes false;
  kept = 0 ∷ [];
}

-- How many stripes are inside.
abbrev pub count_inside : List Bool → ℕ
count_inside [] = 0
count_inside (flag ∷ flags) = (if flag then 1 else 0) + count_inside flags

-- Whether the number is among those that were kept.
abbrev pub was_kept : List ℕ → ℕ → Bool
was_kept [] number = false
was_kept (kept ∷ others) number = kept == number || was_kept others number

-- Whether a write of the stripe is in flight.
abbrev pub stripe_has_write : List Happening → ℕ → Bool
stripe_has_write h stripe = some_block (in_flight h) (λ block. stripe_now h block == stripe)

-- The stripe, where it is known, is inside.
abbrev pub IsInside : CoreState → Option ℕ → Type 0
IsInside core None = ⊥
IsInside core (Some stripe) = has core.inside stripe ≡ true

-- What an event asks of the stripes inside: an event of a write that its stripe is, a switch of the era that none is, and an era that stays that so many were at some step since the last event of the metadata.
abbrev pub AllowsInside : CoreState → Event → Type 0
AllowsInside core (Go id block era first bytes) = IsInside core (Some (stripe_now core.history block))
AllowsInside core (Done id) = IsInside core (written_stripe core.history id)
AllowsInside core (Cut id faults) = IsInside core (written_stripe core.history id)
AllowsInside core (Settle by cut bytes) = IsInside core (written_stripe core.history cut)
AllowsInside core (Unsettled by cut faults) = IsInside core (written_stripe core.history cut)
AllowsInside core (Roll id era) = count_inside core.inside ≡ 0
AllowsInside core (Kept id inside) = was_kept core.kept inside ≡ true
AllowsInside core event = Unit {0}

-- A stripe of the session may enter while it is outside.
pub record MayEnter (core : CoreState) (stripe : ℕ) : Type 0 where
  pub open_session : is_open core.history ≡ true
  pub of_session : stripe < at_opening 0 (λ opening. opening.stripes) core.history
  pub outside : has core.inside stripe ≡ false

-- A stripe may leave while it is inside without a write in flight.
pub record MayLeave (core : CoreState) (stripe : ℕ) : Type 0 where
  pub open_session : is_open core.history ≡ true
  pub inside : has core.inside stripe ≡ true
  pub quiet : stripe_has_write core.history stripe ≡ false

-- An event may be drawn where it may happen next, and the stripes inside allow it.
pub record MayTake (core : CoreState) (event : Event) : Type 0 where
  pub open_session : is_open core.history ≡ true
  pub happens : MayHappen core.history event
  pub inside : AllowsInside core event

-- A session may end with images that a crash may leave.
pub record MayLeaveImages (core : CoreState) (images : Images) : Type 0 where
  pub open_session : is_open core.history ≡ true
  pub possible : MayCrash core.history images

-- The next session may open on images of an era that isn't the last one, with 1 to 16 stripes.
pub record MayReopenOn (images : Images) (stripes : ℕ) : Type 0 where
  pub goes_on : images.marks.era < LAST_ERA
  pub some_stripe : 1 ≤ stripes
  pub few_stripes : stripes ≤ MOST_STRIPES

-- The next session may open right after a crash.
abbrev pub MayReopen : List Happening → ℕ → Type 0
MayReopen (Crashed images ∷ earlier) stripes = MayReopenOn images stripes
MayReopen h stripes = ⊥

-- The step may happen.
abbrev pub IsEnabled : CoreState → Step → Type 0
IsEnabled core (Enter stripe) = MayEnter core stripe
IsEnabled core (Leave stripe) = MayLeave core stripe
IsEnabled core (Take event) = MayTake core event
IsEnabled core (Crash images) = MayLeaveImages core images
IsEnabled core (Reopen stripes) = MayReopen core.history stripes
