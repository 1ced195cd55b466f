-- Each step that the machine accepts keeps its history legal.
use Rattle.std.proofs.Common.{◌≡◌, ℕ, true, false, List, [], ◌∷◌, Some, None, replicate, refl, sym, subst}
use Rattle.era_model.specs.declared.history.Happening.{Happening}
use Rattle.era_model.specs.declared.history.Happening.TheVariants.{Opened, Happened, Crashed}
use Rattle.era_model.specs.declared.history.Images.{Images}
use Rattle.era_model.specs.declared.opening.Opening.{Opening}
use Rattle.era_model.specs.Crashes.{IsReopening}
use Rattle.era_model.specs.History.{at_opening, is_open}
use Rattle.era_model.specs.Legal.{IsLegal}
use Rattle.era_core.specs.declared.step.Step.{Step}
use Rattle.era_core.specs.declared.step.Step.TheVariants.{Enter, Leave, Take, Crash, Reopen}
use Rattle.era_core.specs.AfterSteps.{Run, after_step, reopened, reopening}
use Rattle.era_core.specs.Machine.{CoreState, IsEnabled, MayReopen, MayReopenOn}
use Rattle.era_core.proofs.Words.{at-known}

-- The opening of a session that is open.
pub record HasOpened (h : List Happening) : Type 0 where
  pub opening : Opening
  pub is : at_opening None (λ o. Some o) h ≡ Some opening

pub has-opened : (h : List Happening) → is_open h ≡ true → HasOpened h
has-opened [] open_now = absurd (cc)
has-opened (Opened opening ∷ h) open_now = record { opening = opening; is = refl }
has-opened (Happened event ∷ h) open_now = let before = has-opened h open_now in record { opening = before.opening; is = before.is }
has-opened (Crashed images ∷ h) open_now = absurd (cc)

-- the next session opens on what was left
pub reopening-legal : (h : List Happening) (before : Opening) (images : Images) (stripes : ℕ) → at_opening None (λ o. Some o) h ≡ Some before → MayReopenOn images stripes → IsReopening h images (reopening before images stripes)
reopening-legal h before images stripes is may = record {
  below_last = may.goes_on;
  era = refl;
  marks = refl;
  held = refl;
  geometry = at-known None (λ o. Some o.geometry) h before is;
  total = sym (at-known 0 (λ o. o.total) h before is);
  contents = refl;
  some_stripe = may.some_stripe;
  few_stripes = may.few_stripes;
}

-- a session that reopens is legal
reopened-legal : (core : CoreState) (h : List Happening) (stripes : ℕ) → core.history ≡ h → IsLegal h → MayReopen h stripes → IsLegal (reopened core h stripes).history
reopened-legal core [] stripes is legal may = absurd may
reopened-legal core (Opened opening ∷ h) stripes is legal may = absurd may
reopened-legal core (Happened event ∷ h) stripes is legal may = absurd may
reopened-legal core (Crashed images ∷ h) stripes is legal may =
    let before = has-opened h legal.0 in
    let after : reopened core (Crashed images ∷ h) stripes ≡ record { history = Opened (reopening before.opening images stripes) ∷ core.history; inside = replicate stripes false; kept = 0 ∷ [] }
    = at-known core _ h before.opening before.is in
    subst (λ c. IsLegal c.history) (sym after)
    (subst (λ rest. IsLegal (Opened (reopening before.opening images stripes) ∷ rest)) (sym is) (reopening-legal h before.opening images stripes before.is may, legal))

-- each accepted step keeps the history legal
pub accepted-legal : (core : CoreState) (step : Step) → IsLegal core.history → IsEnabled core step → IsLegal (after_step core step).history
accepted-legal core (Enter stripe) legal may = legal
accepted-legal core (Leave stripe) legal may = legal
accepted-legal core (Take event) legal may = (may.open_session, may.happens, legal)
accepted-legal core (Crash images) legal may = (may.open_session, may.possible, legal)
accepted-legal core (Reopen stripes) legal may = reopened-legal core core.history stripes refl legal may

-- so over all steps
pub run-legal : (core last : CoreState) (steps : List Step) → IsLegal core.history → Run core steps last → IsLegal last.history
run-legal core last [] legal ran = subst (λ c. IsLegal c.history) (sym ran) legal
run-legal core last (step ∷ steps) legal ran = run-legal (after_step core step) last steps (accepted-legal core step legal ran.0) ran.1
