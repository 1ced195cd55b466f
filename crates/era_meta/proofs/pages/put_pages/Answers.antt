use Rattle.std.proofs.Common.{◌<◌, get_or, sym, subst, arith, rules, below_more}
use Rattle.era_base.proofs.Moments.{went-now}
use Rattle.era_slots.specs.Promise.{PutsPage}
use Rattle.era_meta.specs.Stored.{CanHold}
use Rattle.era_meta.proofs.Puts.{all-at, went-put}
use Rattle.era_meta.proofs.pages.put_pages.Goals as goal

-- a put failed
pub returns-in_err-put_one-clause-moments : goal.returns-in_err-put_one-clause-moments
returns-in_err-put_one-clause-moments g c = λ told.
    went-put c.args.blocks.now c.args.slots.now.target c.args.slots.now.number c.loop-index.index (g.D.Disk.history c.args.slots.now.disk)
    (g.D.Disk.history c.loop-index.slots.disk) (g.D.Disk.history c.put_one.new.slots.disk) c.loop-index-test.true (c.loop-index.invariant.went told)
    (rw (c.loop-index.invariant.slots.target, c.loop-index.invariant.slots.number) at (c.put_one.ensures.moments told))

-- a page more is put
pub loop-index-preserved : goal.loop-index-preserved
loop-index-preserved g c = record {
  went = λ told.
      went-put c.args.blocks.now c.args.slots.now.target c.args.slots.now.number c.loop-index.index (g.D.Disk.history c.args.slots.now.disk)
      (g.D.Disk.history c.loop-index.slots.disk) (g.D.Disk.history c.put_one.new.slots.disk) c.loop-index-test.true (c.loop-index.invariant.went told)
      (rw (c.loop-index.invariant.slots.target, c.loop-index.invariant.slots.number) at (c.put_one.ensures.moments told));
  stands = c.put_one.ensures.keeps.stands;
  put = λ told differ.
      let put = went-now (PutsPage c.loop-index.slots.target c.loop-index.slots.number (get_or c.args.blocks.now c.loop-index.index 0))
      (g.D.Disk.history c.loop-index.slots.disk) (g.D.Disk.history c.put_one.new.slots.disk) (c.put_one.ensures.moments told) in
      below_more _ _
      (λ k lt.
      let below : k < c.loop-index.index = lt in
      let test = c.loop-index-test.true in
      subst (g.P.PageSource.says c.args.source.now k)
      (sym (put.pages.seen (get_or c.args.blocks.now k 0) (all-at (CanHold (g.D.Disk.sectors c.args.slots.now.disk)) c.args.blocks.now k (omega arith) c.requires.blocks).behind (differ k c.loop-index.index lt c.loop-index-test.true)))
      (c.loop-index.invariant.put told differ k lt))
      (c.in_ok-put_one.ensures.put told);
  calls = λ told. omega (arith, c.loop-index.invariant.calls told, c.put_one.ensures.calls told);
  slots = search rules;
  disk = search rules;
  faults = search rules;
}

pub put_one-requires-clause-block : goal.put_one-requires-clause-block
put_one-requires-clause-block g c =
    rw c.loop-index.invariant.disk.size
    (all-at (CanHold (g.D.Disk.sectors c.args.slots.now.disk)) c.args.blocks.now c.loop-index.index c.loop-index-test.true c.requires.blocks)
