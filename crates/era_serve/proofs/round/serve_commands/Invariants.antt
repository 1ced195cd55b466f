use Rattle.std.proofs.Common.{length, take, drop}
use Rattle.era_serve.specs.Memories.{AreMemoriesFor}
use Rattle.era_serve.specs.Replying.{HasReplied, MayServe, told_at}
use Rattle.era_serve.proofs.round.serve_commands.Given as goal

-- the commands before an index were served, and those from it on may be
abbrev pub invariant-loop-command : goal.invariant-loop-command
invariant-loop-command g l = record {
  may : MayServe g.D.Disk l.session (drop l.command-index l.commands);
  memories : AreMemoriesFor (length l.session.stripes.items) (drop l.command-index l.commands) l.memories.items;
  replied : HasReplied g.D.Disk (take l.command-index l.commands) l.initial.session l.session
      (told_at g.K.Sink l.initial.replies l.initial.sink) (told_at g.K.Sink l.replies l.sink);
}
