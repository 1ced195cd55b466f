use Rattle.std.proofs.Common.{◌≡◌, ℕ, ◌+◌, List, [], ◌∷◌, ◌++◌, length, map, take, drop, sym, ap, ◌∙◌, subst, arith}
use Rattle.std.proofs.lemmas.List.{length-append}
use Rattle.std.specs.List.{AllByRecursion}
use Rattle.era_base.specs.CrashModel.{State}
use Rattle.era_base.proofs.Moments.{went-now}
use Rattle.era_model.specs.Marks.{ArchivedSet}
use Rattle.era_meta.specs.Damage.{set_tests, archive_tests}
use Rattle.era_meta.specs.Meaning.{pages_in}
use Rattle.era_meta.specs.SaysMarks.{SayFlags, SaySets, HasSets}
use Rattle.era_meta.specs.Content.{archived_content}
use Rattle.era_meta.specs.Stored.{CanHold}
use Rattle.era_meta.proofs.Agree.{all_both}
use Rattle.era_meta.proofs.Loops.{leads-on, leads-out, leads-end, archive-more, archive-past}
use Rattle.era_meta.proofs.PutSets.{set-holds}
use Rattle.era_meta.proofs.ReadSets.{eras-read, set-read}
use Rattle.era_meta.proofs.set_reading.read_archive.Goals as goal

pub read_archived-requires-clause-blocks : goal.read_archived-requires-clause-blocks
read_archived-requires-clause-blocks g c =
    subst (λ (sectors : ℕ). AllByRecursion (CanHold sectors) c.index-archive-index.result.pages) (sym c.loop-index.invariant.disk.size)
    (set-holds (CanHold (g.D.Disk.sectors c.args.slots.now.disk)) c.args.archive.now c.loop-index.index c.index-archive-index.result
    c.loop-index-test.true c.index-archive-index.is c.requires.blocks)

pub returns-in-Err-clause-walked : goal.returns-in-Err-clause-walked
returns-in-Err-clause-walked g c =
    leads-out g.D.Disk (archive_tests c.args.blocks (drop c.loop-index.index c.args.archive.now)) (set_tests c.args.blocks 0 c.index-archive-index.result.pages)
    (archive_tests c.args.blocks (drop (c.loop-index.index + 1) c.args.archive.now)) (archive_tests c.args.blocks c.args.archive.now)
    c.args.slots.now c.loop-index.slots c.read_archived.new.slots c.in-Err.finding
    (archive-more c.args.blocks c.args.archive.now c.loop-index.index c.index-archive-index.result c.loop-index-test.true c.index-archive-index.is)
    c.loop-index.invariant.goes c.in-Err.ensures.walked

-- a set more is read
pub loop-index-preserved : goal.loop-index-preserved
loop-index-preserved g c =
    let x = c.index-archive-index.result in
    let set = c.in-Ok-read_archived.set in
    let old = c.loop-index.sets in
    let pushed = c.push_reserved.ensures in
    record {
      goes =
          leads-on g.D.Disk (archive_tests c.args.blocks (drop c.loop-index.index c.args.archive.now)) (set_tests c.args.blocks 0 c.index-archive-index.result.pages)
          (archive_tests c.args.blocks (drop (c.loop-index.index + 1) c.args.archive.now)) (archive_tests c.args.blocks c.args.archive.now)
          c.args.slots.now c.loop-index.slots c.read_archived.new.slots set
          (archive-more c.args.blocks c.args.archive.now c.loop-index.index x c.loop-index-test.true c.index-archive-index.is)
          c.loop-index.invariant.goes c.in-Ok-read_archived.ensures.walked;
      disk = record {
        place = c.in-Ok-read_archived.ensures.walked.same.place ∙ c.loop-index.invariant.disk.place;
        size = c.in-Ok-read_archived.ensures.walked.same.size ∙ c.loop-index.invariant.disk.size;
      };
      state = λ told.
          went-now (λ before now. now ≡ before) (g.D.Disk.history c.loop-index.slots.disk) (g.D.Disk.history c.read_archived.new.slots.disk)
          (c.in-Ok-read_archived.ensures.walked.told told).went ∙ c.loop-index.invariant.state told;
      count = ap length pushed ∙ (let e : length (old ++ set ∷ []) ≡ c.loop-index.index + 1 = omega (arith, length-append old (set ∷ []), c.loop-index.invariant.count) in e);
      says = λ told.
          let page = pages_in (g.D.Disk.history c.args.slots.now.disk).now.seen in
          let flags = subst (λ (state : State). SayFlags set.blocks (map (pages_in state.seen) x.pages)) (c.loop-index.invariant.state told) (c.in-Ok-read_archived.ensures.says told) in
          subst (λ (sets : List ArchivedSet). SaySets sets (map (archived_content page) (take (c.loop-index.index + 1) c.args.archive.now))) (sym pushed)
          (set-read page c.args.archive.now old set c.loop-index.index x c.loop-index-test.true c.index-archive-index.is c.in-Ok-read_archived.ensures.set.0 flags
          (c.loop-index.invariant.says told));
      eras =
          subst (λ (sets : List ArchivedSet). HasSets sets (take (c.loop-index.index + 1) c.args.archive.now)) (sym pushed)
          (eras-read c.args.archive.now old set c.loop-index.index x c.loop-index-test.true c.index-archive-index.is c.in-Ok-read_archived.ensures.set.0
          c.loop-index.invariant.eras);
      sizes =
          subst (λ (sets : List ArchivedSet). AllByRecursion (λ one. length one.blocks ≡ c.args.blocks) sets) (sym pushed)
          (all_both (λ one. length one.blocks ≡ c.args.blocks) old (set ∷ []) c.loop-index.invariant.sizes (c.in-Ok-read_archived.ensures.set.1, tt));
    }

pub returns-clause-walked : goal.returns-clause-walked
returns-clause-walked g c =
    leads-end g.D.Disk (archive_tests c.args.blocks (drop c.loop-index.index c.args.archive.now)) (archive_tests c.args.blocks c.args.archive.now)
    c.args.slots.now c.loop-index.slots c.loop-index.sets
    (archive-past c.args.blocks c.args.archive.now c.loop-index.index c.loop-index-test.false) c.loop-index.invariant.goes
