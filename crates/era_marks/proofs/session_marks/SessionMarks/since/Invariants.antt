use Rattle.era_model.specs.Marks.{written_since}
use Rattle.era_marks.proofs.RunLists.{IsListedBelow}
use Rattle.era_marks.proofs.session_marks.SessionMarks.since.Given as goal

-- the blocks before the present one are listed, or under way
abbrev pub invariant-loop-block : goal.invariant-loop-block
invariant-loop-block l = IsListedBelow (written_since l.self l.era) l.runs l.begin l.block
