use Rattle.std.proofs.Common.{length, refl, sym}
use Rattle.era_gate.specs.Passes.{no_write}
use Rattle.era_session.specs.AtStripes.{IsKeeperAdmitted}
use Rattle.era_session.specs.Requests.{request_events}
use Rattle.era_session.proofs.KeeperAlone.{admitted-cause, admitted-same, admitted-stands, alone-fits, alone-stands}
use Rattle.era_session.proofs.Receipts.{last-first}
use Rattle.era_session.proofs.Requested.{ask-request, drew-asked}
use Rattle.era_session.proofs.session.Session.ask.Goals as goal

pub returns-clause-fits : goal.returns-clause-fits
returns-clause-fits g c =
    let admitted : IsKeeperAdmitted g.D.Disk c.args.self.now.keeper c.admit.new.self = record { view = c.admit.ensures.view; meta = c.admit.ensures.same.0; seat = c.admit.ensures.same.1; notes = c.admit.ensures.same.2 } in
    alone-fits g.D.Disk (length (request_events c.args.id c.args.request c.ask_keeper.result)) no_write c.args.self.now _ c.requires.may.fits
    (record { gate = refl; geometry = refl; each = refl; seats = refl; parts = refl }) refl c.ask_keeper.ensures.fits
    (admitted-same g.D.Disk c.args.self.now.keeper c.admit.new.self c.ask_keeper.new.keeper admitted c.ask_keeper.ensures.same) c.ask_keeper.ensures.drew.drew.keeps
    (drew-asked (request_events c.args.id c.args.request c.ask_keeper.result) no_write c.args.self.now.pass c.ask_keeper.new.pass (ask-request c.args.id c.args.request c.ask_keeper.result) c.ask_keeper.ensures.drew.drew c.requires.may.fits.asked)

pub returns-clause-stands : goal.returns-clause-stands
returns-clause-stands g c = λ opening stands.
    let admitted : IsKeeperAdmitted g.D.Disk c.args.self.now.keeper c.admit.new.self = record { view = c.admit.ensures.view; meta = c.admit.ensures.same.0; seat = c.admit.ensures.same.1; notes = c.admit.ensures.same.2 } in
    alone-stands g.D.Disk opening c.args.self.now _ stands (record { gate = refl; geometry = refl; each = refl; seats = refl; parts = refl }) refl
    (c.ask_keeper.ensures.stands opening (admitted-stands g.D.Disk opening c.args.self.now.keeper c.admit.new.self admitted stands.keeper))

pub returns-clause-did : goal.returns-clause-did
returns-clause-did g c =
    let admitted : IsKeeperAdmitted g.D.Disk c.args.self.now.keeper c.admit.new.self = record { view = c.admit.ensures.view; meta = c.admit.ensures.same.0; seat = c.admit.ensures.same.1; notes = c.admit.ensures.same.2 } in
    record {
      before = c.admit.new.self;
      admitted = admitted;
      undrawn = c.admit.ensures.last;
      did = c.ask_keeper.ensures.went;
      stripes = refl;
      plan = record { gate = refl; geometry = refl; each = refl; seats = refl; parts = refl };
      same = admitted-same g.D.Disk c.args.self.now.keeper c.admit.new.self c.ask_keeper.new.keeper admitted c.ask_keeper.ensures.same;
      cause = admitted-cause g.D.Disk c.args.self.now.keeper c.admit.new.self (g.D.Disk.faults c.ask_keeper.new.keeper.meta.slots.disk) c.ask_keeper.result admitted c.ask_keeper.ensures.cause;
    }

pub returns-clause-drew : goal.returns-clause-drew
returns-clause-drew g c = record {
  drew = c.ask_keeper.ensures.drew.drew;
  trail = sym (last-first c.admit.new.self.entries c.ask_keeper.new.keeper.entries _ c.admit.ensures.last c.ask_keeper.ensures.drew.last);
}
