use Rattle.std.proofs.Common.{◌≡◌, ◌≤◌}
use Rattle.std.specs.Prelude.{option_copied}
use Rattle.era_layout.specs.Root.{fields_of}
use Rattle.era_meta.specs.Areas.{held_fields, free_between}
use Rattle.era_meta.specs.Meaning.{reached}
use Rattle.era_meta.proofs.free_blocks.least_free.Given as goal

-- none of the blocks so far is free
abbrev pub invariant-loop-block : goal.invariant-loop-block
invariant-loop-block l = record {
  from : l.from ≤ l.block;
  rest : free_between (reached (fields_of l.root) (held_fields (option_copied l.held))) l.from l.end
      ≡ free_between (reached (fields_of l.root) (held_fields (option_copied l.held))) l.block l.end;
}
