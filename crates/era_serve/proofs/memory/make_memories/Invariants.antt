use Rattle.std.proofs.Common.{◌≤◌, length, drop}
use Rattle.era_serve.specs.Memories.{AreMemoriesFor}
use Rattle.era_serve.proofs.memory.make_memories.Given as goal

-- the memories of the commands from an index on were made
abbrev pub invariant-loop-index : goal.invariant-loop-index
invariant-loop-index l = record {
  within : l.index ≤ length l.commands;
  made : AreMemoriesFor l.stripes (drop l.index l.commands) l.memories.items;
}

-- the index goes down
abbrev pub decreases-loop-index : goal.decreases-loop-index
decreases-loop-index l = l.index
