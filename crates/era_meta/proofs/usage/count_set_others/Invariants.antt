use Rattle.std.proofs.Common.{◌≡◌, ◌*◌, ◌≤◌, take}
use Rattle.era_layout.specs.Root.{archive_pages, fields_of, pages_of}
use Rattle.era_meta.specs.Usage.{count_apart}
use Rattle.era_meta.proofs.usage.count_set_others.Given as goal

-- those of the sets so far are counted
abbrev pub invariant-loop-set : goal.invariant-loop-set
invariant-loop-set l = record {
  counted : l.count ≡ count_apart (pages_of (fields_of l.root)) (archive_pages (take l.set-index l.sets));
  most : l.count ≤ 65536 * l.set-index;
}
