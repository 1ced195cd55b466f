-- How the next session opens on what a crash left.
use Rattle.std.proofs.Common.{◌≡◌, ◌≤◌, ◌-◌, ℕ, true, false, List, [], ◌∷◌, length, replicate, refl, sym, ◌∙◌, subst, Option, Some, None, IfSome}
use Rattle.std.specs.Prelude.{reverse, slice_get}
use Rattle.era_model.specs.declared.history.Happening.{Happening}
use Rattle.era_model.specs.declared.history.Happening.TheVariants.{Opened, Happened, Crashed}
use Rattle.era_model.specs.declared.history.Images.{Images}
use Rattle.era_model.specs.declared.opening.Opening.{Opening}
use Rattle.era_model.specs.History.{is_open}
use Rattle.era_model.specs.Legal.{IsLegal}
use Rattle.era_model.specs.Promises.{MarksFollowJournal}
use Rattle.era_core.specs.declared.step.Step.{Step}
use Rattle.era_core.specs.declared.step.Step.TheVariants.{Reopen}
use Rattle.era_core.specs.KeptState.{next_opening}
use Rattle.era_core.specs.AfterSteps.{after_step, reopened, reopening}
use Rattle.era_core.specs.Machine.{CoreState, IsEnabled, MayReopen}
use Rattle.era_core.specs.Present.{opening_in}
use Rattle.era_core.proofs.AtOpening.{at_opening-none, at_opening-some}
use Rattle.era_core.proofs.FirstMoment.{few_held}
use Rattle.era_core.proofs.Latest.{last-is}

-- the opening that was made is the next one
next-some : (h : List Happening) (images : Images) (before : Opening) (stripes : ℕ) → MayReopen h stripes → ((latest : Happening) (earlier : List Happening) → h ≡ latest ∷ earlier → Crashed images ≡ latest)
    → Some before ≡ opening_in h → Some (reopening before images stripes) ≡ next_opening h stripes
next-some [] images before stripes may last is = absurd may
next-some (Opened opening ∷ h) images before stripes may last is = absurd may
next-some (Happened event ∷ h) images before stripes may last is = absurd may
next-some (Crashed left ∷ h) images before stripes may last is =
    let crashed = last (Crashed left) h refl in
    let same : images ≡ left = cc in
    rw same (sym (at_opening-some None (λ o. Some (reopening o left stripes)) h before is))

pub next-made : (items : List Happening) (images : Images) (before : Opening) (stripes : ℕ) → MayReopen (reverse items) stripes → Some (Crashed images) ≡ slice_get items (length items - 1)
    → Some before ≡ opening_in (reverse items) → Some (reopening before images stripes) ≡ next_opening (reverse items) stripes
next-made items images before stripes may last is = next-some (reverse items) images before stripes may (λ latest earlier at. last-is items latest (Crashed images) earlier at last) is

-- where no session was opened there is no next one
next-none-in : (h : List Happening) (stripes : ℕ) → None ≡ opening_in h → None ≡ next_opening h stripes
next-none-in [] stripes is = refl
next-none-in (Opened opening ∷ h) stripes is = refl
next-none-in (Happened event ∷ h) stripes is = refl
next-none-in (Crashed images ∷ h) stripes is = sym (at_opening-none None (λ o. Some (reopening o images stripes)) h is)

pub next-none : (items : List Happening) (stripes : ℕ) → None ≡ opening_in (reverse items) → None ≡ next_opening (reverse items) stripes
next-none items stripes is = next-none-in (reverse items) stripes is

-- the core at the next opening, from the latest on
reopened-from : (core : CoreState) (h : List Happening) (stripes : ℕ) (opening : Opening) → Some opening ≡ next_opening h stripes
    → reopened core h stripes ≡ record { history = Opened opening ∷ core.history; inside = replicate stripes false; kept = 0 ∷ [] }
reopened-from core [] stripes opening is = absurd (cc)
reopened-from core (Opened other ∷ h) stripes opening is = absurd (cc)
reopened-from core (Happened event ∷ h) stripes opening is = absurd (cc)
reopened-from core (Crashed images ∷ h) stripes opening is = found (opening_in h) refl
  where
    found : (before : Option Opening) → before ≡ opening_in h → reopened core (Crashed images ∷ h) stripes ≡ record { history = Opened opening ∷ core.history; inside = replicate stripes false; kept = 0 ∷ [] }
    found None at = absurd (let none = at_opening-none None (λ o. Some (reopening o images stripes)) h at in let e = is ∙ none in cc)
    found (Some before) at =
        let some = at_opening-some None (λ o. Some (reopening o images stripes)) h before at in
        let e : Some opening ≡ Some (reopening before images stripes) = is ∙ some in
        let same : opening ≡ reopening before images stripes = cc in
        rw same (at_opening-some core (λ o. record { history = Opened (reopening o images stripes) ∷ core.history; inside = replicate stripes false; kept = 0 ∷ [] }) h before at)

pub reopened-is : (core : CoreState) (stripes : ℕ) (opening : Opening) → Some opening ≡ next_opening core.history stripes
    → reopened core core.history stripes ≡ record { history = Opened opening ∷ core.history; inside = replicate stripes false; kept = 0 ∷ [] }
reopened-is core stripes opening is = reopened-from core core.history stripes opening is

-- without a next opening nothing changes
reopened-not : (core : CoreState) (h : List Happening) (stripes : ℕ) → None ≡ next_opening h stripes → reopened core h stripes ≡ core
reopened-not core [] stripes is = refl
reopened-not core (Opened other ∷ h) stripes is = refl
reopened-not core (Happened event ∷ h) stripes is = refl
reopened-not core (Crashed images ∷ h) stripes is = found (opening_in h) refl
  where
    found : (before : Option Opening) → before ≡ opening_in h → reopened core (Crashed images ∷ h) stripes ≡ core
    found None at = at_opening-none core _ h at
    found (Some before) at = absurd (let some = at_opening-some None (λ o. Some (reopening o images stripes)) h before at in let e = is ∙ some in cc)

pub reopened-none : (core : CoreState) (stripes : ℕ) → None ≡ next_opening core.history stripes → reopened core core.history stripes ≡ core
reopened-none core stripes is = reopened-not core core.history stripes is

-- What a core that reopens relies on.
pub record IsSoundNext (h : List Happening) (opening : Opening) : Type 0 where
  pub legal : IsLegal (Opened opening ∷ h)
  pub some_stripe : 1 ≤ opening.stripes
  pub few_sets : length opening.marks.archive ≤ 16
  pub few_held : IfSome opening.held (λ m. length m.archive ≤ 16)

some-stripes : (h : List Happening) (opening : Opening) → IsLegal (Opened opening ∷ h) → 1 ≤ opening.stripes
some-stripes [] opening legal = legal.0.some_stripe
some-stripes (Opened other ∷ h) opening legal = absurd legal.0
some-stripes (Happened event ∷ h) opening legal = absurd legal.0
some-stripes (Crashed images ∷ h) opening legal = legal.0.some_stripe

pub sound-next : (core : CoreState) (stripes : ℕ) (opening : Opening) → ((core : CoreState) (step : Step) → IsLegal core.history → IsEnabled core step → IsLegal (after_step core step).history)
    → ((h : List Happening) → IsLegal h → is_open h ≡ true → MarksFollowJournal h) → IsLegal core.history → MayReopen core.history stripes → Some opening ≡ next_opening core.history stripes
    → IsSoundNext core.history opening
sound-next core stripes opening accepted follows legal may is =
    let next = subst (λ c. IsLegal c.history) (reopened-is core stripes opening is) (accepted core (Reopen stripes) legal may) in
    let marks = follows (Opened opening ∷ core.history) next refl in
    record {
      legal = next;
      some_stripe = some-stripes core.history opening next;
      few_sets = marks.valid.few_sets;
      few_held = few_held opening.held marks.snapshot;
    }

-- a session that reopens has at most sixteen stripes
pub few-stripes : (h : List Happening) (stripes : ℕ) → MayReopen h stripes → stripes ≤ 16
few-stripes [] stripes may = absurd may
few-stripes (Opened other ∷ h) stripes may = absurd may
few-stripes (Happened event ∷ h) stripes may = absurd may
few-stripes (Crashed images ∷ h) stripes may = may.few_stripes
