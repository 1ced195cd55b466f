use Rattle.std.proofs.Common.{◌≡◌, ◌+◌, ◌++◌, length, take, vec_len, vec_capacity}
use Rattle.era_session.specs.Chunks.{stripes_trail}
use Rattle.era_session.specs.Trails.{lent}
use Rattle.era_session.proofs.trails.add_stripes.Given as goal

-- the entries of the stripes so far were added
abbrev pub invariant-loop-stripe : goal.invariant-loop-stripe
invariant-loop-stripe g l = record {
  entries : lent l.into.items ≡ lent l.initial.into.items ++ stripes_trail (take l.stripe-index l.stripes);
  room : vec_capacity l.into ≡ vec_capacity l.initial.into;
  len : vec_len l.into ≡ vec_len l.initial.into + length (stripes_trail (take l.stripe-index l.stripes));
}
