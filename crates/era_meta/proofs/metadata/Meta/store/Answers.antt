use Rattle.era_meta.specs.InMemory.{meaning_in}
use Rattle.era_meta.proofs.MetaKept.{commits-as, fit-with, stored-stands, still-stands}
use Rattle.std.proofs.Common.{Bool, false, refl, sym, subst}
use Rattle.era_model.specs.Marks.{BlockMarks}
use Rattle.era_meta.specs.InMemory.{IsAheadOf}
use Rattle.era_meta.proofs.metadata.Meta.store.Goals as goal

pub store_live-requires : goal.store_live-requires
store_live-requires g c = record {
  can = record {
    fit = c.requires.standing.fit;
    keeps = λ told. (c.requires.standing.stands told).keeps;
    below = c.requires.below;
  };
}

pub returns-in_err-store_live-clause-standing : goal.returns-in_err-store_live-clause-standing
returns-in_err-store_live-clause-standing g c = record {
  fit = c.store_live.ensures.fit;
  stands = λ told.
      let old = c.args.self.now in
      let new = c.store_live.new.self in
      let was = c.requires.standing.stands told in
      let before = (g.D.Disk.history old.slots.disk).now in
      still-stands old new old.marks before (g.D.Disk.history new.slots.disk).now (c.in_err-store_live.ensures.err.still told)
      (subst (λ (flag : Bool). IsAheadOf flag new.marks (meaning_in before old).marks) (sym c.store_live.ensures.memory.unstored)
      (subst (λ (m : BlockMarks). IsAheadOf old.unstored m (meaning_in before old).marks) (sym c.store_live.ensures.memory.marks) was.says))
      c.store_live.ensures.same.snapshot was.held;
}

pub returns-clause-standing : goal.returns-clause-standing
returns-clause-standing g c =
    let old = c.args.self.now in
    let new = c.store_live.new.self in
    record {
      fit = fit-with g.D.Disk new new.marks false refl refl c.store_live.ensures.fit;
      stands = λ told. stored-stands old (record new { unstored = false }) old.marks (g.D.Disk.history old.slots.disk).now (g.D.Disk.history new.slots.disk).now
          (c.in_ok-store_live.ensures.ok.stored told) c.store_live.ensures.memory.marks refl c.store_live.ensures.same.snapshot (c.requires.standing.stands told).held;
    }

pub returns-clause-ok : goal.returns-clause-ok
returns-clause-ok g c =
    let old = c.args.self.now in
    let new = c.store_live.new.self in (
      commits-as g.D.Disk old new old.marks old.marks new.marks old.unstored false refl c.in_ok-store_live.ensures.ok,
      record { marks = c.store_live.ensures.memory.marks; unstored = refl },
    )
