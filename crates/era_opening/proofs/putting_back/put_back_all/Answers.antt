use Rattle.std.proofs.Common.{◌≡◌, ◌+◌, ◌<◌, List, length, ◌∙◌, sym, subst, arith}
use Rattle.era_opening.proofs.InRow.{SoFar, next-out, so_far-next}
use Rattle.era_opening.proofs.Rows.{first-of}
use Rattle.era_opening.proofs.putting_back.put_back_all.Goals as goal

pub put_back-requires : goal.put_back-requires
put_back-requires g c =
    let disks = c.args.disks.items in
    let rest = c.loop-index.disks.items in
    let some : 0 < length rest = omega (arith, c.loop-index.invariant.left) in
    let is = first-of rest c.remove-disk.new.self.items c.remove-disk.result some c.remove-disk.ensures.value c.remove-disk.ensures.by_index.2 in
    let so = subst (λ (l : List g.row.B-D.Denot). SoFar g.B.D.Disk disks l c.loop-index.index (g.B.Bay.loans c.args.bay.now) (g.B.Bay.loans c.loop-index.bay) (g.B.Bay.reads c.args.bay.now) (g.B.Bay.reads c.loop-index.bay))
    is c.loop-index.invariant.so in
    next-out g.B.D.Disk disks c.remove-disk.result c.remove-disk.new.self.items c.loop-index.index (g.B.Bay.loans c.args.bay.now) (g.B.Bay.loans c.loop-index.bay)
    (g.B.Bay.reads c.args.bay.now) (g.B.Bay.reads c.loop-index.bay) c.requires.out so

pub loop-index-preserved : goal.loop-index-preserved
loop-index-preserved g c =
    let disks = c.args.disks.items in
    let rest = c.loop-index.disks.items in
    let held = c.loop-index.invariant in
    let behind = c.remove-disk.new.self.items in
    let some : 0 < length rest = omega (arith, held.left) in
    let is = first-of rest behind c.remove-disk.result some c.remove-disk.ensures.value c.remove-disk.ensures.by_index.2 in
    let count : length rest ≡ length behind + 1 = subst (λ (l : List g.row.B-D.Denot). length l ≡ length behind + 1) (sym is) (omega arith) in
    let so = subst (λ (l : List g.row.B-D.Denot). SoFar g.B.D.Disk disks l c.loop-index.index (g.B.Bay.loans c.args.bay.now) (g.B.Bay.loans c.loop-index.bay) (g.B.Bay.reads c.args.bay.now) (g.B.Bay.reads c.loop-index.bay))
    is held.so in
    record {
      so = so_far-next g.B.D.Disk disks c.remove-disk.result behind c.loop-index.index (g.B.Bay.loans c.args.bay.now) (g.B.Bay.loans c.loop-index.bay) (g.B.Bay.loans c.put_back.new.self)
          (g.B.Bay.reads c.args.bay.now) (g.B.Bay.reads c.loop-index.bay) (g.B.Bay.reads c.put_back.new.self) c.requires.apart so c.put_back.ensures.loans c.put_back.ensures.content c.put_back.ensures.others;
      left = omega (arith, count, held.left);
      sizes = λ device size told. c.put_back.ensures.sizes device size (held.sizes device size told);
      faults = c.put_back.ensures.same ∙ held.faults;
    }
