use Rattle.std.proofs.Common.{◌≡◌, take}
use Rattle.std.specs.Prelude.{max}
use Rattle.era_model.specs.Marks.{entry_of, last_archived}
use Rattle.era_marks.proofs.session_marks.SessionMarks.last_era.Given as goal

-- the greatest of the array entry and the eras of the sets so far
abbrev pub invariant-loop-set : goal.invariant-loop-set
invariant-loop-set l = l.last ≡ max (entry_of l.self.array l.block) (last_archived (take l.set-index l.self.archive) l.block)
