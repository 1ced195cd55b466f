use Rattle.std.proofs.Common.{refl}
use Rattle.era_plan.proofs.RoundEndings.{told-alike}
use Rattle.era_plan.proofs.rounds.next_round.Goals as goal

-- the reader has failed, or hasn't, and is otherwise as it was
pub returns-clause-told : goal.returns-clause-told
returns-clause-told g c = λ text at stands to_read.
    told-alike at text c.gather_round-given.new.lines (record c.gather_round-given.new.lines { failed = c.is_err-lines.result }) _ c.gather_round-given.result refl refl refl
    (c.gather_round-given.ensures.told text at stands to_read.ahead)
