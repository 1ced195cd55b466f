use Rattle.std.proofs.Common.{◌≡◌, length, refl, arith}
use Rattle.era_core.proofs.EntryRuns.{so_far-done, so_far-next, so_far-same}
use Rattle.era_core.proofs.entries.runs_of_entries.Goals as goal
use Rattle.era_core.proofs.entries.runs_of_entries.Goals.{then-entry-era+in_ok-add_entries, else-entry-era}

-- one more entry was looked at
pub loop-index-preserved : goal.loop-index-preserved
loop-index-preserved c =
    let l = c.loop-index in
    elim c.if-entry-era.branch [
      | then-entry-era+in_ok-add_entries w ↦
          rw (w.runs-is, w.first-is, w.era-is)
          (so_far-next c.args.entries.now l.runs w.add_entries.new.runs l.first l.era l.index _ l.invariant
          w.in_ok-add_entries.ensures.added w.in_ok-add_entries.ensures.behind w.if-entry-era.true refl)
      | else-entry-era w ↦ rw (w.runs-is, w.first-is, w.era-is) (so_far-same c.args.entries.now l.runs l.first l.era l.index l.invariant w.if-entry-era.false)
    ]

-- all were looked at
pub returns-clause-value : goal.returns-clause-value
returns-clause-value c =
    let l = c.loop-index in
    let at_end : l.index ≡ length c.args.entries.now = omega arith in
    so_far-done c.args.entries.now l.runs c.add_entries-2.new.runs l.first l.era (rw at_end at l.invariant) c.in_ok-add_entries-2.ensures.added
