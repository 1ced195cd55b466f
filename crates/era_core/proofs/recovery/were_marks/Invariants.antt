use Rattle.std.proofs.Common.{◌≡◌, take}
use Rattle.std.specs.Prelude.{Any}
use Rattle.era_core.proofs.recovery.were_marks.Given as goal

abbrev pub invariant-loop-table : goal.invariant-loop-table
invariant-loop-table l = ¬ Any (λ were. were ≡ l.m) (take l.table-index l.past)
