-- The replies of commands as their parts, one after another.
use Rattle.std.proofs.Common.{◌≡◌, ℕ, ◌+◌, true, false, List, [], ◌∷◌, ◌++◌, append_assoc}
use Rattle.std.specs.Prelude.{codes}
use Rattle.std.specs.Fmt.{decimal}
use Rattle.std.proofs.lemmas.List.{append-nil}
use Rattle.era_model.specs.Transcript.{runs_text}
use Rattle.era_top.specs.declared.outcome.Outcome.TheVariants.{Done, Cut, Listed}
use Rattle.era_top.specs.Outcomes.{outcome_line}

pub done-marked : (line place : ℕ) → outcome_line line place (Done true)
    ≡ decimal line ++ (codes " ok t" ++ (decimal place ++ (codes " m" ++ (decimal (place + 1) ++ (codes " g" ++ (decimal (place + 2) ++ (codes " d" ++ (decimal (place + 3) ++ (10 ∷ [] ++ [])))))))))
done-marked line place = simp append_assoc

pub cut-marked : (line place faults : ℕ) → outcome_line line place (Cut true faults)
    ≡ decimal line ++ (codes " fault data " ++ (decimal faults ++ (codes " t" ++ (decimal place ++ (codes " m" ++ (decimal (place + 1) ++ (codes " g" ++ (decimal (place + 2) ++ (codes " c" ++ (decimal (place + 3) ++ (10 ∷ [] ++ [])))))))))))
cut-marked line place faults = simp append_assoc

pub cut-unmarked : (line place faults : ℕ) → outcome_line line place (Cut false faults)
    ≡ decimal line ++ (codes " fault data " ++ (decimal faults ++ (codes " g" ++ (decimal place ++ (codes " c" ++ (decimal (place + 1) ++ (10 ∷ [] ++ [])))))))
cut-unmarked line place faults = simp append_assoc

-- the reply of a list
pub list-parts : (line place : ℕ) (blocks : List (ℕ × ℕ)) → outcome_line line place (Listed blocks)
    ≡ (decimal line ++ (codes " blocks " ++ [])) ++ (runs_text blocks ++ (codes " l" ++ (decimal place ++ (10 ∷ [] ++ []))))
list-parts line place blocks = simp (append_assoc, append-nil)
