use Rattle.std.proofs.Common.{List, ◌++◌, length, refl, sym, ap, ap₂, ◌∙◌, subst, arith}
use Rattle.std.proofs.lemmas.List.{length-append, take_all}
use Rattle.era_gate.specs.Passes.{no_write}
use Rattle.era_gate.specs.Receipts.{entries_in}
use Rattle.era_meta.specs.declared.metadata.Meta.{Meta}
use Rattle.era_model.specs.declared.entry.Entry.{Entry}
use Rattle.era_session.specs.AtStripes.{IsKeeperAdmitted}
use Rattle.era_session.specs.Checkpoints.{AreCheckpointsEnd}
use Rattle.era_session.specs.Chunks.{stripes_trail}
use Rattle.era_session.proofs.CheckpointEnds.{end-drew}
use Rattle.era_session.proofs.KeeperAlone.{admitted-cause, admitted-same, admitted-stands, alone-fits, alone-stands}
use Rattle.era_session.proofs.Receipts.{keeper-trail, last-first, own-trail, trail-both}
use Rattle.era_session.proofs.Requested.{ask-end, drew-asked}
use Rattle.era_session.proofs.session.Session.checkpoint.Goals as goal

pub returns-clause-fits : goal.returns-clause-fits
returns-clause-fits g c =
    let settled = c.settle_all.new.self in
    let admitted : IsKeeperAdmitted g.D.Disk settled.keeper c.admit.new.self = record { view = c.admit.ensures.view; meta = c.admit.ensures.same.0; seat = c.admit.ensures.same.1; notes = c.admit.ensures.same.2 } in
    let ends = end-drew g.D.Disk c.args.id c.checkpoint.result c.admit.new.self c.checkpoint.new.self settled.pass c.checkpoint.new.pass c.checkpoint.ensures.did in
    alone-fits g.D.Disk (length ends.end) no_write settled _ c.settle_all.ensures.fits
    (record { gate = refl; geometry = refl; each = refl; seats = refl; parts = refl }) refl c.checkpoint.ensures.fits
    (admitted-same g.D.Disk settled.keeper c.admit.new.self c.checkpoint.new.self admitted c.checkpoint.ensures.same) ends.drew.keeps
    (drew-asked ends.end no_write settled.pass c.checkpoint.new.pass (ask-end c.args.id c.admit.new.self.meta.marks.era c.checkpoint.result ends.end ends.ends)
    (keeper-trail ends.end c.admit.new.self c.checkpoint.new.self settled.pass c.checkpoint.new.pass ends.drew).drew c.settle_all.ensures.fits.asked)

pub returns-clause-stands : goal.returns-clause-stands
returns-clause-stands g c = λ opening stands.
    let settled = c.settle_all.new.self in
    let between = c.settle_all.ensures.stands opening stands in
    let admitted : IsKeeperAdmitted g.D.Disk settled.keeper c.admit.new.self = record { view = c.admit.ensures.view; meta = c.admit.ensures.same.0; seat = c.admit.ensures.same.1; notes = c.admit.ensures.same.2 } in
    alone-stands g.D.Disk opening settled _ between (record { gate = refl; geometry = refl; each = refl; seats = refl; parts = refl }) refl
    (c.checkpoint.ensures.stands opening (admitted-stands g.D.Disk opening settled.keeper c.admit.new.self admitted between.keeper))

pub returns-clause-did : goal.returns-clause-did
returns-clause-did g c =
    let settled = c.settle_all.new.self in
    let admitted : IsKeeperAdmitted g.D.Disk settled.keeper c.admit.new.self = record { view = c.admit.ensures.view; meta = c.admit.ensures.same.0; seat = c.admit.ensures.same.1; notes = c.admit.ensures.same.2 } in
    let ends = end-drew g.D.Disk c.args.id c.checkpoint.result c.admit.new.self c.checkpoint.new.self settled.pass c.checkpoint.new.pass c.checkpoint.ensures.did in
    let did = c.settle_all.ensures.did in
    let all = trail-both did.events ends.end (entries_in did.drew.receipts) ends.drew.kept.entries no_write no_write no_write c.args.self.now.pass settled.pass c.checkpoint.new.pass (λ id none. (none, none))
    (own-trail did.events no_write c.args.self.now.pass settled.pass did.drew) (keeper-trail ends.end c.admit.new.self c.checkpoint.new.self settled.pass c.checkpoint.new.pass ends.drew) in
    record {
      settled = settled;
      settling = c.settle_all.ensures.did;
      keeper = record {
        before = c.admit.new.self;
        admitted = admitted;
        undrawn = c.admit.ensures.last;
        did = c.checkpoint.ensures.did;
        stripes = refl;
        plan = record { gate = refl; geometry = refl; each = refl; seats = refl; parts = refl };
        same = admitted-same g.D.Disk settled.keeper c.admit.new.self c.checkpoint.new.self admitted c.checkpoint.ensures.same;
        cause = admitted-cause g.D.Disk settled.keeper c.admit.new.self (g.D.Disk.faults c.checkpoint.new.self.meta.slots.disk) c.checkpoint.result admitted c.checkpoint.ensures.cause;
      };
      end = ends.end;
      ends = subst (λ (m : Meta g.row.D.Denot). AreCheckpointsEnd c.args.id m.marks.era c.checkpoint.result ends.end) admitted.meta ends.ends;
      drew = all.drew;
      trail = all.are ∙ ap₂ (λ (one two : List Entry). one ++ two)
          (did.trail ∙ ap stripes_trail (take_all (length c.args.self.now.stripes.items) settled.stripes.items (omega (arith, c.settle_all.ensures.same.count))))
          (sym (last-first c.admit.new.self.entries c.checkpoint.new.self.entries ends.drew.kept.entries c.admit.ensures.last ends.drew.kept.last));
    }

pub returns-clause-keeps : goal.returns-clause-keeps
returns-clause-keeps g c =
    let settled = c.settle_all.new.self in
    let did = c.settle_all.ensures.did in
    let shared = c.requires.may.fits.shared in
    let ends = end-drew g.D.Disk c.args.id c.checkpoint.result c.admit.new.self c.checkpoint.new.self settled.pass c.checkpoint.new.pass c.checkpoint.ensures.did in
    let all = trail-both did.events ends.end (entries_in did.drew.receipts) ends.drew.kept.entries no_write no_write no_write c.args.self.now.pass settled.pass c.checkpoint.new.pass (λ id none. (none, none))
    (own-trail did.events no_write c.args.self.now.pass settled.pass did.drew) (keeper-trail ends.end c.admit.new.self c.checkpoint.new.self settled.pass c.checkpoint.new.pass ends.drew) in
    record {
      drawn = length (did.events ++ ends.end);
      few = rw (length-append did.events ends.end) (omega (arith, did.few, ends.few, shared.few, shared.stripes));
      keeps = all.drew.keeps;
    }
