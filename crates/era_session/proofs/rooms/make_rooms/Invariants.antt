use Rattle.std.proofs.Common.{◌≡◌, vec_len}
use Rattle.era_session.proofs.rooms.make_rooms.Given as goal

-- each stripe so far has its room
abbrev pub invariant-loop-stripe : goal.invariant-loop-stripe
invariant-loop-stripe l = vec_len l.rooms ≡ l.stripe
