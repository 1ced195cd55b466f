use Rattle.std.proofs.Common.{take}
use Rattle.era_core.specs.AfterSteps.{Run}
use Rattle.era_core.proofs.running.run.Given as goal

abbrev pub invariant-loop-index : goal.invariant-loop-index
invariant-loop-index l = Run l.fn.core (take l.index l.steps) l.core
