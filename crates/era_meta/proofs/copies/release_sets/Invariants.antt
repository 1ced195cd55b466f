use Rattle.std.proofs.Common.{◌≡◌, ◌+◌, ◌++◌, length}
use Rattle.era_meta.proofs.copies.release_sets.Given as goal

-- the sets that are left, behind the spare ones, are all that there were
abbrev pub invariant-loop : goal.invariant-loop
invariant-loop l = record {
  left : length l.archive + l.counter ≡ length l.fn.archive;
  sets : l.spare ++ l.archive ≡ l.fn.spare ++ l.fn.archive;
  room : length l.archive + length l.spare ≡ length l.fn.archive + length l.fn.spare;
}
