use Rattle.std.proofs.Common.{◌≡◌, false, take}
use Rattle.era_layout.specs.Root.{archive_pages}
use Rattle.era_meta.specs.Usage.{has_number}
use Rattle.era_meta.proofs.usage.has_set_page.Given as goal

-- no set before has the page
abbrev pub invariant-loop-set : goal.invariant-loop-set
invariant-loop-set l = has_number (archive_pages (take l.set-index l.sets)) l.block ≡ false
