use Rattle.std.proofs.Common.{◌≡◌, List, ℕ, ◌+◌, ◌≤◌, false, ◌++◌, length, take, vec_len, vec_capacity}
use Rattle.era_base.specs.CrashModel.{State}
use Rattle.era_base.specs.Geometry.{blocks_of}
use Rattle.era_model.specs.Marks.{blocks_of_marks}
use Rattle.era_model.specs.declared.command.Task.{Task}
use Rattle.era_model.specs.declared.history.Happening.{Happening}
use Rattle.era_top.specs.declared.outcome.Outcome.{Outcome}
use Rattle.era_top.specs.Runs.{some_cut, tasks_of}
use Rattle.era_top.specs.Steps.{Running}
use Rattle.era_top.proofs.run.run.Given as goal

-- the commands so far were run behind those before, none of them was cut, and there is room for the outcomes of the others
abbrev pub invariant-loop-command : goal.invariant-loop-command
invariant-loop-command g l =
    ((contents : List ℕ) (before : List Task) (done : List Outcome) (at_first : ℕ) (first : State) (h : List Happening)
    → length before + length (tasks_of l.commands) ≤ 65536
    → Running l.geometry contents before done l.initial.marks g.D.Disk.tells at_first (g.D.Disk.faults l.initial.disk) first (g.D.Disk.history l.initial.disk).now h
    → (journal : List Happening)
    × Running l.geometry contents (before ++ take l.command-index (tasks_of l.commands)) (done ++ l.outcomes.items) l.marks g.D.Disk.tells
    at_first (g.D.Disk.faults l.disk) first (g.D.Disk.history l.disk).now journal)
    × (blocks_of_marks l.marks ≡ blocks_of l.geometry.sectors l.geometry.block_sectors)
    × (blocks_of_marks l.marks ≡ blocks_of_marks l.initial.marks)
    × (vec_len l.outcomes ≡ l.command-index)
    × (length l.commands ≤ vec_capacity l.outcomes)
    × (some_cut l.outcomes.items ≡ false)
    × (g.D.Disk.faults l.disk ≡ g.D.Disk.faults l.initial.disk)
    × (g.D.Disk.sectors l.disk ≡ l.geometry.sectors)
    × (g.D.Disk.sectors l.disk ≡ g.D.Disk.sectors l.initial.disk)
    × (g.D.Disk.place l.disk ≡ g.D.Disk.place l.initial.disk)
