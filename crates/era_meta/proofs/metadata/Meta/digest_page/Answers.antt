use Rattle.std.proofs.Common.{◌≡◌, Some, Bool, sym, ap, ◌∙◌, subst}
use Rattle.era_base.specs.CrashModel.{Went}
use Rattle.era_model.specs.Marks.{BlockMarks}
use Rattle.era_meta.specs.InMemory.{IsAheadOf, MetaStores, meaning_in}
use Rattle.era_meta.proofs.MetaDigests.{digested-sectors, digested-size}
use Rattle.era_meta.proofs.MetaKept.{commits-as, fails-as, fit-with, stored-stands, still-stands}
use Rattle.era_meta.proofs.metadata.Meta.digest_page.Goals as goal

pub store_live-requires : goal.store_live-requires
store_live-requires g c = record {
  can = record {
    fit = fit-with g.D.Disk c.args.self.now c.transcribe.new.self c.args.self.now.unstored
        (digested-sectors c.args.self.now.marks c.transcribe.new.self (Some c.args.page) c.transcribe.ensures)
        (digested-size c.args.self.now.marks c.transcribe.new.self (Some c.args.page) c.transcribe.ensures) c.requires.ready.standing.fit;
    keeps = λ told. (c.requires.ready.standing.stands told).keeps;
    below = c.requires.ready.below;
  };
}

-- it is stored
pub returns-in-Ok-clause-moments : goal.returns-in-Ok-clause-moments
returns-in-Ok-clause-moments g c = λ told.
    subst (λ (m : BlockMarks). Went (MetaStores c.args.self.now m) (g.D.Disk.history c.args.self.now.slots.disk) (g.D.Disk.history c.store_live.new.self.slots.disk))
    c.transcribe.ensures (c.store_live.ensures.moments told)

pub returns-in-Ok-clause-standing : goal.returns-in-Ok-clause-standing
returns-in-Ok-clause-standing g c = record {
  fit = c.store_live.ensures.fit;
  stands = λ told.
      stored-stands c.args.self.now c.store_live.new.self c.transcribe.new.self (g.D.Disk.history c.args.self.now.slots.disk).now
      (g.D.Disk.history c.store_live.new.self.slots.disk).now (c.in-Ok.ensures.ok.stored told) c.store_live.ensures.memory.marks
      (c.store_live.ensures.memory.unstored ∙ c.requires.ready.stored) c.store_live.ensures.same.snapshot (c.requires.ready.standing.stands told).held;
}

pub returns-in-Ok-clause-ok : goal.returns-in-Ok-clause-ok
returns-in-Ok-clause-ok g c =
    let old = c.args.self.now in
    let new = c.store_live.new.self in
    record {
      stored = commits-as g.D.Disk old new c.transcribe.new.self _ new.marks old.unstored new.unstored c.transcribe.ensures c.in-Ok.ensures.ok;
      memory = record {
        marks = c.store_live.ensures.memory.marks ∙ c.transcribe.ensures;
        unstored = c.store_live.ensures.memory.unstored ∙ c.requires.ready.stored;
      };
    }

-- it is undone
pub put_back-requires : goal.put_back-requires
put_back-requires g c = (
  c.args.self.now.marks,
  record {
    era = c.requires.step.0;
    valid = c.are_valid.ensures;
    step = c.requires.step.1;
    is = c.store_live.ensures.memory.marks ∙ c.transcribe.ensures;
    entries = c.copy_page-count.ensures.copied;
  },
)

pub returns-in-Err-clause-moments : goal.returns-in-Err-clause-moments
returns-in-Err-clause-moments g c = λ told.
    subst (λ (m : BlockMarks). Went (MetaStores c.args.self.now m) (g.D.Disk.history c.args.self.now.slots.disk) (g.D.Disk.history c.store_live.new.self.slots.disk))
    c.transcribe.ensures (c.store_live.ensures.moments told)

pub returns-in-Err-clause-standing : goal.returns-in-Err-clause-standing
returns-in-Err-clause-standing g c =
    let old = c.args.self.now in
    let new = c.store_live.new.self in
    let back : c.put_back.new.self ≡ old.marks = c.put_back.ensures old.marks (record {
      era = c.requires.step.0;
      valid = c.are_valid.ensures;
      step = c.requires.step.1;
      is = c.store_live.ensures.memory.marks ∙ c.transcribe.ensures;
      entries = c.copy_page-count.ensures.copied;
    }) in
    let sectors : c.put_back.new.self.sectors ≡ new.marks.sectors
    = ap (λ (m : BlockMarks). m.sectors) back ∙ sym (digested-sectors old.marks new.marks (Some c.args.page) (c.store_live.ensures.memory.marks ∙ c.transcribe.ensures)) in
    let size : c.put_back.new.self.block_sectors ≡ new.marks.block_sectors
    = ap (λ (m : BlockMarks). m.block_sectors) back ∙ sym (digested-size old.marks new.marks (Some c.args.page) (c.store_live.ensures.memory.marks ∙ c.transcribe.ensures)) in
    record {
      fit = fit-with g.D.Disk new c.put_back.new.self new.unstored sectors size c.store_live.ensures.fit;
      stands = λ told.
          let was = c.requires.ready.standing.stands told in
          let before = (g.D.Disk.history old.slots.disk).now in
          let still = c.in-Err.ensures.err.still told in
          still-stands old (record new { marks = c.put_back.new.self }) c.transcribe.new.self before (g.D.Disk.history new.slots.disk).now
          (record { keeps = still.keeps; says = still.says; left = still.left })
          (subst (λ (flag : Bool). IsAheadOf flag c.put_back.new.self (meaning_in before old).marks) (sym c.store_live.ensures.memory.unstored)
          (subst (λ (m : BlockMarks). IsAheadOf old.unstored m (meaning_in before old).marks) (sym back) was.says))
          c.store_live.ensures.same.snapshot was.held;
    }

pub returns-in-Err-clause-err : goal.returns-in-Err-clause-err
returns-in-Err-clause-err g c =
    let old = c.args.self.now in
    let new = c.store_live.new.self in
    record {
      failed = fails-as g.D.Disk old new c.transcribe.new.self _ c.put_back.new.self old.unstored new.unstored c.transcribe.ensures c.in-Err.ensures.err;
      memory = record {
        marks = c.put_back.ensures old.marks (record {
          era = c.requires.step.0;
          valid = c.are_valid.ensures;
          step = c.requires.step.1;
          is = c.store_live.ensures.memory.marks ∙ c.transcribe.ensures;
          entries = c.copy_page-count.ensures.copied;
        });
        unstored = c.store_live.ensures.memory.unstored ∙ c.requires.ready.stored;
      };
    }
