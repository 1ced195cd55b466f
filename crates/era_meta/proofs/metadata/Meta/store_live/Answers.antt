use Rattle.std.proofs.Common.{◌≡◌, ℕ, ◌+◌, ◌*◌, ◌≤◌, length, sym, ap, ◌∙◌, subst, arith}
use Rattle.std.specs.Prelude.{if◌then◌else◌}
use Rattle.era_base.specs.CrashModel.{clock}
use Rattle.era_base.specs.Geometry.{blocks_of, need_of}
use Rattle.era_layout.specs.Root.{fields_of, pages_of}
use Rattle.era_model.specs.Marks.{blocks_of_marks}
use Rattle.era_meta.specs.Areas.{page_count, HasPageLists}
use Rattle.era_meta.specs.Content.{blocks_of_root}
use Rattle.era_meta.specs.Held.{snapshot_root}
use Rattle.era_meta.specs.Placing.{IsPlaced}
use Rattle.era_meta.proofs.Ends.{on_err}
use Rattle.era_meta.proofs.MetaKept.{beside-next, few-pages, pages-count}
use Rattle.era_meta.proofs.metadata.Meta.store_live.Goals as goal

pub prepare-requires-clause-few : goal.prepare-requires-clause-few
prepare-requires-clause-few g c = rw c.held_root-held.ensures (few-pages g.D.Disk c.args.self.now c.requires.can.fit)

pub prepare-requires-clause-sets : goal.prepare-requires-clause-sets
prepare-requires-clause-sets g c =
    let few = c.are_valid.ensures.few_sets in
    let total = c.requires.can.fit.total in
    let own = c.requires.can.fit.valid.count in
    let held = c.requires.can.fit.snapshot.count in
    rw c.archive.ensures (omega arith, few)

-- it failed
pub returns-in_err-store_marks-clause-moments : goal.returns-in_err-store_marks-clause-moments
returns-in_err-store_marks-clause-moments g c = λ told.
    c.store_marks.ensures.moments told (fields_of c.args.self.now.root) (snapshot_root c.args.self.now.snapshot)
    (record { keeps = c.requires.can.keeps told; fresh = rw c.held_root-held.ensures at c.prepare.ensures.placed.fresh })

pub returns-in_err-store_marks-clause-err : goal.returns-in_err-store_marks-clause-err
returns-in_err-store_marks-clause-err g c = on_err c.from_residual.result (record {
  still = λ told.
      let still = c.in_err-store_marks.ensures.err.0 told (fields_of c.args.self.now.root) (snapshot_root c.args.self.now.snapshot)
      (record { keeps = c.requires.can.keeps told; fresh = rw c.held_root-held.ensures at c.prepare.ensures.placed.fresh }) in
      record { keeps = still.keeps; says = still.says; left = still.left };
  number = c.in_err-store_marks.ensures.err.1.number;
})

-- the next root is the committed one
pub returns-clause-moments : goal.returns-clause-moments
returns-clause-moments g c = λ told.
    c.store_marks.ensures.moments told (fields_of c.args.self.now.root) (snapshot_root c.args.self.now.snapshot)
    (record { keeps = c.requires.can.keeps told; fresh = rw c.held_root-held.ensures at c.prepare.ensures.placed.fresh })

pub returns-clause-fit : goal.returns-clause-fit
returns-clause-fit g c =
    let m = c.args.self.now.marks in
    let root = fields_of c.args.self.now.root in
    let next = fields_of c.prepare.new.next in
    let fit = c.requires.can.fit in
    let for = c.prepare.ensures.marks m fit.sectors fit.block_sectors c.era-era.ensures c.archive.ensures in
    let placed : IsPlaced root next (snapshot_root c.args.self.now.snapshot) = rw c.held_root-held.ensures at c.prepare.ensures.placed in
    let blocks : blocks_of_root next ≡ blocks_of_root root
    = ap (λ (n : ℕ). blocks_of n next.block_sectors) placed.fresh.sectors ∙ ap (λ (n : ℕ). blocks_of root.sectors n) placed.fresh.block_sectors in
    let counts = c.prepare.ensures.lists.1 in
    let spare = c.prepare.ensures.lists.0.spare in
    let total = fit.total in
    rw (c.swap.ensures.x_after, c.swap.ensures.y_after)
    (record {
      valid = c.prepare.ensures.valid m c.are_valid.ensures for;
      sectors = for.sectors;
      block_sectors = for.block_sectors;
      lists = subst (λ (n : ℕ). HasPageLists n root c.prepare.new.spare) (sym blocks) (record {
        array = fit.valid.array;
        current = fit.valid.current;
        sets = fit.valid.sets;
        spare = rw blocks at spare;
        count = omega (arith, counts, total);
      });
      total = omega (arith, counts, total);
      snapshot = beside-next root next c.args.self.now.snapshot placed.fresh.sectors placed.fresh.block_sectors blocks fit.snapshot;
      room = subst (λ (n : ℕ). need_of (blocks_of_root next) * 8 ≤ n) (sym c.store_marks.ensures.keeps.device.size)
          (subst (λ (n : ℕ). need_of n * 8 ≤ g.D.Disk.sectors c.args.self.now.slots.disk) (sym blocks) fit.room);
    })

pub returns-clause-ok : goal.returns-clause-ok
returns-clause-ok g c =
    let m = c.args.self.now.marks in
    let root = fields_of c.args.self.now.root in
    let next = fields_of c.prepare.new.next in
    let fit = c.requires.can.fit in
    let for = c.prepare.ensures.marks m fit.sectors fit.block_sectors c.era-era.ensures c.archive.ensures in
    let placed : IsPlaced root next (snapshot_root c.args.self.now.snapshot) = rw c.held_root-held.ensures at c.prepare.ensures.placed in
    let blocks : blocks_of_root root ≡ blocks_of_marks m
    = ap (λ (n : ℕ). blocks_of n root.block_sectors) fit.sectors ∙ ap (λ (n : ℕ). blocks_of m.sectors n) fit.block_sectors in
    let pages : length (pages_of next) ≡ page_count (blocks_of_marks m) (length m.archive)
    = pages-count (blocks_of_root root) next m blocks placed.count for in
    let done = c.in_ok-store_marks.ensures.ok in
    rw c.swap.ensures.x_after
    (record {
      stored = λ told. done.0 told root (snapshot_root c.args.self.now.snapshot) (record { keeps = c.requires.can.keeps told; fresh = placed.fresh });
      number = done.1.number;
      calls = λ told. subst (λ (n : ℕ). clock (g.D.Disk.history c.store_marks.new.slots.disk)
          ≡ clock (g.D.Disk.history c.args.self.now.slots.disk) + ((if c.args.self.now.slots.may_be_open then 2 else 0) + n + 4)) pages (done.2 told);
    })
