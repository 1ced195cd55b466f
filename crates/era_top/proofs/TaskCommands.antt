-- The commands of tasks.
use Rattle.std.proofs.Common.{◌≡◌, ℕ, suc, ◌+◌, List, [], ◌∷◌, ◌++◌, length, ◌∙◌, refl, ap, arith}
use Rattle.era_model.specs.declared.command.Task.{Task}
use Rattle.era_top.specs.Runs.{command_of, commands_from}

-- one command more
pub commands_from-push : (index : ℕ) (tasks : List Task) (task : Task)
    → commands_from index (tasks ++ task ∷ []) ≡ commands_from index tasks ++ command_of (index + length tasks) task ∷ []
commands_from-push index [] task = ap (λ n. command_of n task ∷ []) (omega arith)
commands_from-push index (first ∷ tasks) task =
    let next : index + 1 + length tasks ≡ index + suc (length tasks) = omega arith in
    ap (λ rest. command_of index first ∷ rest)
    (commands_from-push (index + 1) tasks task ∙ ap (λ n. commands_from (index + 1) tasks ++ command_of n task ∷ []) next)

-- as many commands as tasks
pub length-commands_from : (index : ℕ) (tasks : List Task) → length (commands_from index tasks) ≡ length tasks
length-commands_from index [] = refl
length-commands_from index (first ∷ tasks) = ap suc (length-commands_from (index + 1) tasks)
