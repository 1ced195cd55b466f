use Rattle.std.proofs.Common.{sym, ◌∙◌}
use Rattle.std.proofs.lemmas.Bool.{false≢true}
use Rattle.era_keeper.specs.Answers.{CanList}
use Rattle.era_keeper.proofs.Drawn.{drew-one}
use Rattle.era_keeper.proofs.Went.{list-did}
use Rattle.era_keeper.proofs.keeper.Keeper.list.Goals as goal
use Rattle.era_keeper.proofs.keeper.Keeper.list.Goals.{else-snap-via-then-snap+else-not-held, else-snap-via-else-snap}

pub returns-then-not-held-clause-did : goal.returns-then-not-held-clause-did
returns-then-not-held-clause-did g c = record {
  asked = c.if-snap.true;
  none = sym c.held.ensures ∙ c.if-not-held.true;
  same = c.tell.ensures.same.meta;
  drew = drew-one c.args.self.now c.tell.new.self c.args.pass.now c.tell.new.pass _ c.tell.ensures.drew.0 c.tell.ensures.drew.1;
}

pub returns-in-Ok-clause-did : goal.returns-in-Ok-clause-did
returns-in-Ok-clause-did g c =
    let can : CanList c.args.snap c.args.self.now = elim c.else-snap.branch [
      | else-snap-via-then-snap+else-not-held w ↦ λ is. sym w.held.ensures ∙ w.if-not-held.false
      | else-snap-via-else-snap w ↦ λ is. absurd (false≢true (sym w.if-snap.false ∙ is))
    ] in
    list-did g.D.Disk c.args.id c.args.since c.args.snap c.list_stored.result c.args.self.now c.begin.new.self c.list_stored.new.self c.args.pass.now c.begin.new.pass c.list_stored.new.pass
    can c.in-Ok.ensures.did c.list_stored.ensures.went
