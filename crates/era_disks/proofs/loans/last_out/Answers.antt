use Rattle.std.proofs.Common.{refl, ◌-◌, arith}
use Rattle.std.proofs.lemmas.Bool.{false≢true}
use Rattle.era_disks.specs.Loans.{IsOutAt}
use Rattle.era_disks.proofs.Entries.{none_from, read_at}
use Rattle.era_disks.proofs.loans.last_out.Goals as goal

pub returns-then-is_out_at-clause-some : goal.returns-then-is_out_at-clause-some
returns-then-is_out_at-clause-some g c = record {
  entry = c.index-entries-index.result;
  found = read_at c.args.entries.now (c.loop-index.index - 1) c.index-entries-index.result (omega arith) c.index-entries-index.is;
  out = c.if-is_out_at.ensures.0 refl;
  last = λ later other below found is. c.loop-index.invariant later other (omega arith) found is;
}

pub loop-index-preserved : goal.loop-index-preserved
loop-index-preserved g c =
    none_from (IsOutAt c.args.device.now c.args.first c.args.sectors) c.args.entries.now c.loop-index.index c.index-entries-index.result
    c.loop-index-test.true
    (read_at c.args.entries.now (c.loop-index.index - 1) c.index-entries-index.result (omega arith) c.index-entries-index.is)
    (λ is. false≢true (c.if-is_out_at.ensures.1 is)) c.loop-index.invariant
