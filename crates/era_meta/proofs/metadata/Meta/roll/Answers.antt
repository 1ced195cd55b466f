use Rattle.std.proofs.Common.{Bool, true, ap, ◌∙◌, subst}
use Rattle.era_base.specs.CrashModel.{Went}
use Rattle.era_model.specs.Marks.{BlockMarks, rolled}
use Rattle.era_meta.specs.InMemory.{IsAheadOf, MetaStores, meaning_in}
use Rattle.era_meta.proofs.Ends.{ok_map, err_map}
use Rattle.era_meta.proofs.MetaKept.{commits-as, fails-as, fit-with, rolled-sectors, rolled-size}
use Rattle.era_meta.proofs.metadata.Meta.roll.Goals as goal

pub store-requires-clause-standing : goal.store-requires-clause-standing
store-requires-clause-standing g c =
    let old = c.args.self.now in
    record {
      fit = fit-with g.D.Disk old c.roll.new.self true (ap (λ (m : BlockMarks). m.sectors) c.roll.ensures ∙ rolled-sectors old.marks)
          (ap (λ (m : BlockMarks). m.block_sectors) c.roll.ensures ∙ rolled-size old.marks) c.requires.ready.standing.fit;
      stands = λ told.
          let was = c.requires.ready.standing.stands told in
          let stored = (meaning_in (g.D.Disk.history old.slots.disk).now old).marks in
          record {
            keeps = was.keeps;
            says = c.roll.ensures ∙ ap rolled (subst (λ (flag : Bool). IsAheadOf flag old.marks stored) c.requires.ready.stored was.says);
            held = was.held;
          };
    }

pub returns-clause-moments : goal.returns-clause-moments
returns-clause-moments g c = λ told.
    subst (λ (m : BlockMarks). Went (MetaStores c.args.self.now m) (g.D.Disk.history c.args.self.now.slots.disk) (g.D.Disk.history c.store.new.self.slots.disk))
    c.roll.ensures (c.store.ensures.moments told)

pub returns-clause-ok : goal.returns-clause-ok
returns-clause-ok g c = ok_map c.store.result (λ stored. (
  commits-as g.D.Disk c.args.self.now c.store.new.self c.roll.new.self (rolled c.args.self.now.marks) c.store.new.self.marks true c.store.new.self.unstored c.roll.ensures stored.0,
  record { marks = stored.1.marks ∙ c.roll.ensures; unstored = stored.1.unstored },
)) c.store.ensures.ok

pub returns-clause-err : goal.returns-clause-err
returns-clause-err g c = err_map c.store.result (λ failed. (
  fails-as g.D.Disk c.args.self.now c.store.new.self c.roll.new.self (rolled c.args.self.now.marks) c.store.new.self.marks true c.store.new.self.unstored c.roll.ensures failed.0,
  record { marks = failed.1.marks ∙ c.roll.ensures; unstored = failed.1.unstored },
)) c.store.ensures.err
