use Rattle.std.proofs.Common.{Bool, sym, ◌∙◌, subst}
use Rattle.era_base.specs.CrashModel.{Went}
use Rattle.era_model.specs.Marks.{BlockMarks}
use Rattle.era_meta.specs.InMemory.{IsAheadOf, MetaStores, meaning_in}
use Rattle.era_meta.proofs.MetaKept.{commits-as, fails-as, fit-with, flags-sectors, flags-size, stored-stands, still-stands}
use Rattle.era_meta.proofs.Undone.{restored}
use Rattle.era_meta.proofs.metadata.Meta.mark.Goals as goal

pub store_live-requires : goal.store_live-requires
store_live-requires g c = record {
  can = record {
    fit = fit-with g.D.Disk c.args.self.now c.mark.new.self c.args.self.now.unstored (flags-sectors c.args.self.now.marks c.mark.new.self _ c.mark.ensures)
        (flags-size c.args.self.now.marks c.mark.new.self _ c.mark.ensures) c.requires.ready.standing.fit;
    keeps = λ told. (c.requires.ready.standing.stands told).keeps;
    below = c.requires.ready.below;
  };
}

-- it is stored
pub returns-in-Ok-clause-moments : goal.returns-in-Ok-clause-moments
returns-in-Ok-clause-moments g c = λ told.
    subst (λ (m : BlockMarks). Went (MetaStores c.args.self.now m) (g.D.Disk.history c.args.self.now.slots.disk) (g.D.Disk.history c.store_live.new.self.slots.disk))
    c.mark.ensures (c.store_live.ensures.moments told)

pub returns-in-Ok-clause-standing : goal.returns-in-Ok-clause-standing
returns-in-Ok-clause-standing g c = record {
  fit = c.store_live.ensures.fit;
  stands = λ told.
      stored-stands c.args.self.now c.store_live.new.self c.mark.new.self (g.D.Disk.history c.args.self.now.slots.disk).now
      (g.D.Disk.history c.store_live.new.self.slots.disk).now (c.in-Ok.ensures.ok.stored told) c.store_live.ensures.memory.marks
      (c.store_live.ensures.memory.unstored ∙ c.requires.ready.stored) c.store_live.ensures.same.snapshot (c.requires.ready.standing.stands told).held;
}

pub returns-in-Ok-clause-ok : goal.returns-in-Ok-clause-ok
returns-in-Ok-clause-ok g c =
    let old = c.args.self.now in
    let new = c.store_live.new.self in (
      commits-as g.D.Disk old new c.mark.new.self _ new.marks old.unstored new.unstored c.mark.ensures c.in-Ok.ensures.ok,
      record { marks = c.store_live.ensures.memory.marks ∙ c.mark.ensures; unstored = c.store_live.ensures.memory.unstored ∙ c.requires.ready.stored },
    )

-- the mark is undone
pub returns-in-Err-clause-moments : goal.returns-in-Err-clause-moments
returns-in-Err-clause-moments g c = λ told.
    subst (λ (m : BlockMarks). Went (MetaStores c.args.self.now m) (g.D.Disk.history c.args.self.now.slots.disk) (g.D.Disk.history c.store_live.new.self.slots.disk))
    c.mark.ensures (c.store_live.ensures.moments told)

pub returns-in-Err-clause-standing : goal.returns-in-Err-clause-standing
returns-in-Err-clause-standing g c =
    let old = c.args.self.now in
    let new = c.store_live.new.self in
    let back = restored old.marks new.marks c.restore.new.self c.args.block c.is_marked-was_marked.result
    c.is_marked-was_marked.ensures (c.store_live.ensures.memory.marks ∙ c.mark.ensures) c.restore.ensures in
    record {
      fit = fit-with g.D.Disk new c.restore.new.self new.unstored (flags-sectors new.marks c.restore.new.self _ c.restore.ensures)
          (flags-size new.marks c.restore.new.self _ c.restore.ensures) c.store_live.ensures.fit;
      stands = λ told.
          let was = c.requires.ready.standing.stands told in
          let before = (g.D.Disk.history old.slots.disk).now in
          let still = c.in-Err.ensures.err.still told in
          still-stands old (record new { marks = c.restore.new.self }) c.mark.new.self before (g.D.Disk.history new.slots.disk).now
          (record { keeps = still.keeps; says = still.says; left = still.left })
          (subst (λ (flag : Bool). IsAheadOf flag c.restore.new.self (meaning_in before old).marks) (sym c.store_live.ensures.memory.unstored)
          (subst (λ (m : BlockMarks). IsAheadOf old.unstored m (meaning_in before old).marks) (sym back) was.says))
          c.store_live.ensures.same.snapshot was.held;
    }

pub returns-in-Err-clause-err : goal.returns-in-Err-clause-err
returns-in-Err-clause-err g c =
    let old = c.args.self.now in
    let new = c.store_live.new.self in (
      fails-as g.D.Disk old new c.mark.new.self _ c.restore.new.self old.unstored new.unstored c.mark.ensures c.in-Err.ensures.err,
      record {
        marks = restored old.marks new.marks c.restore.new.self c.args.block c.is_marked-was_marked.result
            c.is_marked-was_marked.ensures (c.store_live.ensures.memory.marks ∙ c.mark.ensures) c.restore.ensures;
        unstored = c.store_live.ensures.memory.unstored ∙ c.requires.ready.stored;
      },
    )
