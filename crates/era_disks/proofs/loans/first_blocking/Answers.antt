use Rattle.std.proofs.Common.{refl, arith}
use Rattle.std.proofs.lemmas.Option.{slice_get_within}
use Rattle.std.proofs.lemmas.Bool.{false≢true}
use Rattle.era_disks.specs.Loans.{Blocks}
use Rattle.era_disks.proofs.Entries.{none_below, read_at}
use Rattle.era_disks.proofs.loans.first_blocking.Goals as goal

pub returns-then-blocks-clause-some : goal.returns-then-blocks-clause-some
returns-then-blocks-clause-some g c = (
  c.index-entries-index.result,
  read_at c.args.entries.now c.loop-index.index c.index-entries-index.result c.loop-index-test.true c.index-entries-index.is,
  c.if-blocks.ensures.0 refl,
)

pub loop-index-preserved : goal.loop-index-preserved
loop-index-preserved g c =
    none_below (Blocks c.args.device.now c.args.first c.args.count) c.args.entries.now c.loop-index.index c.index-entries-index.result
    (read_at c.args.entries.now c.loop-index.index c.index-entries-index.result c.loop-index-test.true c.index-entries-index.is)
    (λ is. false≢true (c.if-blocks.ensures.1 is)) c.loop-index.invariant

pub returns-clause-none : goal.returns-clause-none
returns-clause-none g c = λ index entry found blocks.
    let within = slice_get_within c.args.entries.now index entry found in
    c.loop-index.invariant index entry (omega arith) found blocks
