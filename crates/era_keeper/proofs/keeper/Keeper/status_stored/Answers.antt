use Rattle.std.proofs.Common.{sym, subst}
use Rattle.era_meta.specs.Status.{TellsUsage}
use Rattle.era_model.specs.declared.event.Event.TheVariants.{Status}
use Rattle.era_keeper.specs.Answers.{IsStatus}
use Rattle.era_keeper.proofs.Drawn.{drew-one}
use Rattle.era_keeper.proofs.Told.{may-tell}
use Rattle.era_keeper.proofs.keeper.Keeper.status_stored.Goals as goal

pub returns-clause-stands : goal.returns-clause-stands
returns-clause-stands g c = λ opening stands.
    let meta = c.args.self.now.meta in
    let told = c.status-counted in
    let is : IsStatus g.D.Disk meta c.usage_within-used.result told.result.1 told.result.2 told.result.3 = record {
      usage = c.usage_within-used.ensures.usage;
      counted = λ tells. let all = told.ensures.used tells in subst (TellsUsage meta) (sym (c.usage_within-used.ensures.same all.usage)) all;
      size = told.ensures.total;
      present = told.ensures.era;
      block = told.ensures.held;
    } in
    c.tell.ensures.stands opening (may-tell g.D.Disk opening c.args.self.now _ _ _ _ is stands) tt stands

pub returns-clause-status : goal.returns-clause-status
returns-clause-status g c =
    let meta = c.args.self.now.meta in
    let told = c.status-counted in
    record {
      usage = c.usage_within-used.ensures.usage;
      counted = λ tells. let all = told.ensures.used tells in subst (TellsUsage meta) (sym (c.usage_within-used.ensures.same all.usage)) all;
      size = told.ensures.total;
      present = told.ensures.era;
      block = told.ensures.held;
    }

pub returns-clause-drew : goal.returns-clause-drew
returns-clause-drew g c =
    drew-one c.args.self.now c.tell.new.self c.args.pass.now c.tell.new.pass (Status c.args.id c.usage_within-used.result c.status-counted.result.1 c.status-counted.result.2 c.status-counted.result.3)
    c.tell.ensures.drew.0 c.tell.ensures.drew.1
