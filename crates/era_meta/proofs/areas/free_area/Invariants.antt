use Rattle.std.proofs.Common.{ℕ, ◌<◌}
use Rattle.std.specs.Prelude.{option_copied}
use Rattle.era_layout.specs.Root.{fields_of}
use Rattle.era_meta.specs.Areas.{IsFreeArea, held_fields}
use Rattle.era_meta.specs.Content.{blocks_of_root}
use Rattle.era_meta.specs.Meaning.{reached}
use Rattle.era_meta.proofs.areas.free_area.Given as goal

-- no area before the present one is free
abbrev pub invariant-loop-area : goal.invariant-loop-area
invariant-loop-area l = (other : ℕ) → other < l.area → ¬ IsFreeArea (blocks_of_root (fields_of l.root)) (reached (fields_of l.root) (held_fields (option_copied l.held))) other
