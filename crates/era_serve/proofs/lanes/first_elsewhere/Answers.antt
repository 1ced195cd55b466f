use Rattle.std.proofs.Common.{◌∷◌, ◌++◌, ◌+◌, take, drop, All, refl, ap, sym, ◌∙◌, subst}
use Rattle.std.proofs.lemmas.List.{drop_more, take-append-drop, take_all}
use Rattle.std.proofs.lemmas.List.Elements.{All-more, All-nil}
use Rattle.era_model.specs.declared.command.Command.{Command}
use Rattle.era_serve.specs.Lanes.{IsOfLane}
use Rattle.era_serve.proofs.lanes.first_elsewhere.Goals as goal

-- none was seen yet
pub loop-command-init : goal.loop-command-init
loop-command-init c = All-nil (IsOfLane c.args.lane)

-- this one is of another lane
pub returns-then-not-is_of_lane-clause-some : goal.returns-then-not-is_of_lane-clause-some
returns-then-not-is_of_lane-clause-some c =
    let commands = c.args.commands.now in
    let i = c.loop-command.command-index in
    record {
      before = take i commands;
      command = c.command-item.result;
      after = drop (i + 1) commands;
      split = sym (take-append-drop i commands)
          ∙ ap (λ rest. take i commands ++ rest)
          (drop_more commands i c.command-item.result c.loop-command-test.true ∙ ap (λ (one : Command). one ∷ drop (i + 1) commands) (sym c.command-item.is));
      same = c.loop-command.invariant;
      elsewhere = λ same. absurd (let e = c.is_of_lane.ensures.1 same in let f = c.if-not-is_of_lane.true in cc);
      is = refl;
    }

-- one more of the lane
pub loop-command-preserved : goal.loop-command-preserved
loop-command-preserved c =
    All-more (IsOfLane c.args.lane) c.args.commands.now c.loop-command.command-index c.command-item.result c.loop-command-test.true c.loop-command.invariant
    (subst (IsOfLane c.args.lane) c.command-item.is (c.is_of_lane.ensures.0 c.if-not-is_of_lane.false))

-- all are of it
pub returns-clause-none : goal.returns-clause-none
returns-clause-none c =
    subst (All (IsOfLane c.args.lane)) (take_all c.loop-command.command-index c.args.commands.now c.loop-command-test.false) c.loop-command.invariant
