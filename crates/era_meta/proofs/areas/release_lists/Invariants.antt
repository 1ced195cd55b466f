use Rattle.std.proofs.Common.{◌≡◌, ◌+◌, ◌++◌, length, map}
use Rattle.era_layout.specs.declared.archive.Archived.{Archived}
use Rattle.era_meta.proofs.areas.release_lists.Given as goal

-- the lists that are left, behind the spare ones, are all that there were
abbrev pub invariant-loop : goal.invariant-loop
invariant-loop l = record {
  left : length l.archive + l.counter ≡ length l.fn.archive;
  lists : l.spare ++ map (λ (set : Archived). set.pages) l.archive ≡ l.fn.spare ++ map (λ (set : Archived). set.pages) l.fn.archive;
  room : length l.archive + length l.spare ≡ length l.fn.archive + length l.fn.spare;
}
