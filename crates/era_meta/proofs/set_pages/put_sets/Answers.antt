use Rattle.std.proofs.Common.{ℕ, ◌≤◌, List, length, sym, ap, subst, arith, rules}
use Rattle.std.proofs.lemmas.List.{take_all}
use Rattle.era_base.specs.CrashModel.{Went}
use Rattle.era_base.proofs.Moments.{went-now}
use Rattle.era_layout.specs.Root.{archive_pages, AreDifferent}
use Rattle.era_meta.specs.PageParts.{IsBitsPageOf}
use Rattle.era_meta.specs.Putting.{PutsAmong}
use Rattle.era_meta.specs.Stored.{CanHold, HavePages}
use Rattle.era_meta.proofs.Agree.{all_weaker}
use Rattle.era_meta.proofs.PutSets.{sets-length, sets-put, pages-more, set-holds, set-differs, went-set, flags-put}
use Rattle.era_meta.proofs.set_pages.put_sets.Goals as goal

pub bounds-sets-index : goal.bounds-sets-index
bounds-sets-index g c = let size = sets-length c.args.sets.now c.args.archive.now c.requires.sets.0 in omega arith

pub put_pages-requires-clause-blocks : goal.put_pages-requires-clause-blocks
put_pages-requires-clause-blocks g c =
    rw (c.loop-index.invariant.disk.size, c.as_slice.ensures)
    (set-holds (CanHold (g.D.Disk.sectors c.args.slots.now.disk)) c.args.archive.now c.loop-index.index c.index-archive-index.result
    c.loop-index-test.true c.index-archive-index.is c.requires.blocks)

-- a put failed
pub returns-in_err-put_pages-clause-moments : goal.returns-in_err-put_pages-clause-moments
returns-in_err-put_pages-clause-moments g c = λ told.
    went-set c.args.archive.now c.loop-index.index c.index-archive-index.result c.args.slots.now.target c.args.slots.now.number
    (g.D.Disk.history c.args.slots.now.disk) (g.D.Disk.history c.loop-index.slots.disk) (g.D.Disk.history c.put_pages.new.slots.disk)
    c.loop-index-test.true c.index-archive-index.is (c.loop-index.invariant.went told)
    (rw (c.as_slice.ensures, c.loop-index.invariant.slots.target, c.loop-index.invariant.slots.number) at (c.put_pages.ensures.moments told))

-- a set more is put
pub loop-index-preserved : goal.loop-index-preserved
loop-index-preserved g c = record {
  went = λ told.
      went-set c.args.archive.now c.loop-index.index c.index-archive-index.result c.args.slots.now.target c.args.slots.now.number
      (g.D.Disk.history c.args.slots.now.disk) (g.D.Disk.history c.loop-index.slots.disk) (g.D.Disk.history c.put_pages.new.slots.disk)
      c.loop-index-test.true c.index-archive-index.is (c.loop-index.invariant.went told)
      (rw (c.as_slice.ensures, c.loop-index.invariant.slots.target, c.loop-index.invariant.slots.number) at (c.put_pages.ensures.moments told));
  stands = c.put_pages.ensures.keeps.stands;
  put = λ told differ.
      let mid = g.D.Disk.history c.loop-index.slots.disk in
      let new = g.D.Disk.history c.put_pages.new.slots.disk in
      let x = c.index-archive-index.result in
      let own = set-differs c.args.archive.now c.loop-index.index x c.loop-index-test.true c.index-archive-index.is differ in
      let have : HavePages IsBitsPageOf c.index-sets-index.result.blocks x.pages new.now
      = rw (c.as_slice.ensures, c.blocks-in-loop-index.ensures) at (c.in_ok-put_pages.ensures.put (subst AreDifferent (sym c.as_slice.ensures) own) told) in
      sets-put c.args.archive.now c.args.sets.now c.loop-index.index x c.index-sets-index.result c.loop-index.slots.target c.loop-index.slots.number mid.now new.now
      c.loop-index-test.true c.index-archive-index.is c.index-sets-index.is c.requires.sets.0
      (all_weaker (CanHold (g.D.Disk.sectors c.args.slots.now.disk)) (λ block. 2 ≤ block) (archive_pages c.args.archive.now) (λ block can. can.behind) c.requires.blocks)
      differ
      (went-now (PutsAmong x.pages c.loop-index.slots.target c.loop-index.slots.number) mid new
      (subst (λ (pages : List ℕ). Went (PutsAmong pages c.loop-index.slots.target c.loop-index.slots.number) mid new) c.as_slice.ensures (c.put_pages.ensures.moments told)))
      (flags-put c.index-sets-index.result.blocks x.pages new.now have)
      (c.loop-index.invariant.put told differ);
  calls = λ told.
      let more = pages-more c.args.archive.now c.loop-index.index c.index-archive-index.result c.loop-index-test.true c.index-archive-index.is in
      omega (arith, more, c.loop-index.invariant.calls told, c.in_ok-put_pages.ensures.calls told, ap length c.as_slice.ensures);
  slots = search rules;
  disk = search rules;
  faults = search rules;
}

-- all are put
pub returns-clause-put : goal.returns-clause-put
returns-clause-put g c = λ differ told.
    let size = sets-length c.args.sets.now c.args.archive.now c.requires.sets.0 in
    let says = c.loop-index.invariant.put told differ in
    let past : length c.args.archive.now ≤ c.loop-index.index = c.loop-index-test.false in
    rw (take_all c.loop-index.index c.args.sets.now (omega arith), take_all c.loop-index.index c.args.archive.now past) at says
