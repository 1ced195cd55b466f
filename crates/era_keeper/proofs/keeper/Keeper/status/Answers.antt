use Rattle.std.proofs.Common.{[], ◌∷◌, sym, subst}
use Rattle.era_meta.specs.declared.metadata.Meta.{Meta}
use Rattle.era_model.specs.declared.event.Event.TheVariants.{Status}
use Rattle.era_keeper.specs.Answers.{IsStatus}
use Rattle.era_keeper.specs.Storing.{HasStoredEra}
use Rattle.era_keeper.proofs.Begun.{drew-begun, may-begun}
use Rattle.era_keeper.proofs.Drawn.{same-rest, same-then}
use Rattle.era_keeper.proofs.keeper.Keeper.status.Goals as goal

pub returns-in-Err-clause-fits : goal.returns-in-Err-clause-fits
returns-in-Err-clause-fits g c = c.in-Err.ensures.did.0

pub returns-in-Err-clause-did : goal.returns-in-Err-clause-did
returns-in-Err-clause-did g c = c.in-Err.ensures.did.1

pub status_stored-used-requires-clause-may : goal.status_stored-used-requires-clause-may
status_stored-used-requires-clause-may g c =
    may-begun g.D.Disk c.args.gate.now c.args.self.now c.begin.new.self c.args.pass.now c.begin.new.pass c.args.id 1 c.in-Ok.ensures.did c.requires.may

pub returns-in-Ok-clause-stands : goal.returns-in-Ok-clause-stands
returns-in-Ok-clause-stands g c = λ opening stands. c.status_stored-used.ensures.stands opening (c.begin.ensures.stands opening stands)

pub returns-in-Ok-clause-did : goal.returns-in-Ok-clause-did
returns-in-Ok-clause-did g c =
    let r = c.status_stored-used.result in
    let same = sym c.status_stored-used.ensures.same.meta in
    record {
      first = subst (HasStoredEra g.D.Disk c.args.self.now.meta) same c.in-Ok.ensures.did.stored;
      is = subst (λ (m : Meta g.row.D.Denot). IsStatus g.D.Disk m r.0 r.1 r.2 r.3) same c.status_stored-used.ensures.status;
      drew = drew-begun g.D.Disk c.args.self.now c.begin.new.self c.status_stored-used.new.self c.args.pass.now c.begin.new.pass c.status_stored-used.new.pass (Status c.args.id r.0 r.1 r.2 r.3 ∷ [])
          c.in-Ok.ensures.did c.status_stored-used.ensures.drew;
    }

pub returns-in-Ok-clause-same : goal.returns-in-Ok-clause-same
returns-in-Ok-clause-same g c =
    same-then g.D.Disk c.args.self.now c.begin.new.self c.status_stored-used.new.self c.begin.ensures.same (same-rest g.D.Disk c.begin.new.self c.status_stored-used.new.self c.status_stored-used.ensures.same)
