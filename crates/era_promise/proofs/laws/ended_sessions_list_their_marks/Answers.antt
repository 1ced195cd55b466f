use Rattle.std.proofs.Common.{ap}
use Rattle.std.specs.Prelude.{max, nat_le}
use Rattle.era_promise.proofs.laws.ended_sessions_list_their_marks.Goals as goal

pub returns : goal.returns
returns g c = λ journal metadata image m found era block ends unfailed left stands inside.
    ap (nat_le (max era 1)) ((ends.durable image m found left stands).lasts unfailed block inside)
