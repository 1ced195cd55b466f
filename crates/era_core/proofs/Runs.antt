-- Runs of the machine, step after step.
use Rattle.std.proofs.Common.{◌≡◌, ℕ, zero, suc, ◌+◌, ◌<◌, List, [], ◌∷◌, ◌++◌, length, take, drop, get_or, refl, sym, ap, subst, arith}
use Rattle.std.proofs.lemmas.List.{take_more}
use Rattle.era_core.specs.declared.step.Step.{Step}
use Rattle.era_core.specs.AfterSteps.{Run, StopsAt, after_step}
use Rattle.era_core.specs.Machine.{CoreState, IsEnabled}

-- one more step
run-more : (core last : CoreState) (steps : List Step) (step : Step) → Run core steps last → IsEnabled last step → Run core (steps ++ step ∷ []) (after_step last step)
run-more core last [] step ran may = (subst (λ c. IsEnabled c step) ran may, ap (λ c. after_step c step) ran)
run-more core last (first ∷ steps) step ran may = (ran.0, run-more (after_step core first) last steps step ran.1 may)

-- the same for more and more of a list
pub run-next : (core last next : CoreState) (steps : List Step) (i : ℕ) (step : Step) → i < length steps → step ≡ get_or steps i step → Run core (take i steps) last → IsEnabled last step → next ≡ after_step last step
    → Run core (take (i + 1) steps) next
run-next core last next steps i step lt is ran may after =
    let more = rw (← is) at (take_more steps i step lt) in
    rw (more, after) (run-more core last (take i steps) step ran may)

-- a list is what stands before a place, what stands there, and the rest
joined-at : (steps : List Step) (i : ℕ) (step : Step) → i < length steps → step ≡ get_or steps i step → steps ≡ take i steps ++ step ∷ drop (suc i) steps
joined-at [] i step lt is = absurd (omega arith)
joined-at (first ∷ steps) zero step lt is = ap (λ s. s ∷ steps) (sym is)
joined-at (first ∷ steps) (suc i) step lt is = ap (λ s. first ∷ s) (joined-at steps i step (omega arith) is)

-- the first step that may not happen
pub stops-at : (core before : CoreState) (steps : List Step) (i : ℕ) (step : Step) → i < length steps → step ≡ get_or steps i step → Run core (take i steps) before → (IsEnabled before step → ⊥) → StopsAt core steps i
stops-at core before steps i step lt is ran refused = record {
  front = take i steps;
  step = step;
  rest = drop (suc i) steps;
  before = before;
  joined = joined-at steps i step lt is;
  count = count steps i lt;
  ran = ran;
  refused = refused;
}
  where
    count : (steps : List Step) (i : ℕ) → i < length steps → length (take i steps) ≡ i
    count [] i lt = absurd (omega arith)
    count (first ∷ steps) zero lt = refl
    count (first ∷ steps) (suc i) lt = ap suc (count steps i (omega arith))
