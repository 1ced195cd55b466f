use Rattle.std.proofs.Common.{◌≡◌, ◌+◌, ◌++◌, take, vec_len, vec_capacity}
use Rattle.era_session.specs.Trails.{lent}
use Rattle.era_session.proofs.trails.add_all.Given as goal

-- the entries so far were added
abbrev pub invariant-loop-entry : goal.invariant-loop-entry
invariant-loop-entry l = record {
  entries : lent l.into.items ≡ lent l.initial.into.items ++ take l.entry-index l.entries;
  room : vec_capacity l.into ≡ vec_capacity l.initial.into;
  len : vec_len l.into ≡ vec_len l.initial.into + l.entry-index;
}
