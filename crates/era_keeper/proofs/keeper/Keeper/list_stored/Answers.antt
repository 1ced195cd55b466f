use Rattle.std.proofs.Common.{ℕ, List, [], ◌∷◌, sym, subst}
use Rattle.era_model.specs.declared.event.Event.TheVariants.{List as ListEvent}
use Rattle.era_keeper.specs.Answers.{ListsSince}
use Rattle.era_keeper.specs.Calls.{Drew}
use Rattle.era_keeper.proofs.Drawn.{drew-one}
use Rattle.era_keeper.proofs.Listed.{may-list}
use Rattle.era_keeper.proofs.keeper.Keeper.list_stored.Goals as goal

pub returns-in-Ok-clause-stands : goal.returns-in-Ok-clause-stands
returns-in-Ok-clause-stands g c = λ opening stands.
    let old = c.args.self.now in
    let lists = subst (λ (runs : List (ℕ × ℕ)). ListsSince old c.args.since c.args.snap runs) (sym c.in-Ok.ensures.0) c.in-Ok.ensures.1 in
    c.tell.ensures.stands opening (may-list g.D.Disk opening old c.args.since c.args.snap _ lists stands) tt stands

pub returns-in-Ok-clause-went : goal.returns-in-Ok-clause-went
returns-in-Ok-clause-went g c = (
  c.tell.ensures.same.meta,
  c.in-Ok.ensures.1,
  subst (λ (runs : List (ℕ × ℕ)). Drew (ListEvent c.args.id c.args.since c.args.snap runs ∷ []) c.args.self.now c.tell.new.self c.args.pass.now c.tell.new.pass) c.in-Ok.ensures.0
      (drew-one c.args.self.now c.tell.new.self c.args.pass.now c.tell.new.pass _ c.tell.ensures.drew.0 c.tell.ensures.drew.1),
)

pub returns-in-Err-clause-went : goal.returns-in-Err-clause-went
returns-in-Err-clause-went g c = (
  c.tell-in-Err.ensures.same.meta,
  drew-one c.args.self.now c.tell-in-Err.new.self c.args.pass.now c.tell-in-Err.new.pass _ c.tell-in-Err.ensures.drew.0 c.tell-in-Err.ensures.drew.1,
)
