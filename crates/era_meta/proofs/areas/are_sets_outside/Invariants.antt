use Rattle.std.proofs.Common.{ℕ, ◌<◌, get_or}
use Rattle.std.specs.Prelude.{All}
use Rattle.era_layout.specs.declared.archive.Archived.{Archived}
use Rattle.era_meta.specs.Areas.{IsOutside}
use Rattle.era_meta.proofs.areas.are_sets_outside.Given as goal

-- the sets before the present one are outside
abbrev pub invariant-loop-set : goal.invariant-loop-set
invariant-loop-set l = (index : ℕ) (d : Archived) → index < l.set-index → All (IsOutside l.first l.count) (get_or l.sets index d).pages
