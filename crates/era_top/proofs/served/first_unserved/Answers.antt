use Rattle.std.proofs.Common.{◌∷◌, ◌++◌, ◌+◌, take, drop, All, refl, ap, sym, ◌∙◌, subst}
use Rattle.std.proofs.lemmas.List.{drop_more, take-append-drop, take_all}
use Rattle.std.proofs.lemmas.List.Elements.{All-more, All-nil}
use Rattle.era_model.specs.declared.command.Command.{Command}
use Rattle.era_top.specs.Runs.{IsServedCommand}
use Rattle.era_top.proofs.served.first_unserved.Goals as goal

-- none was seen yet
pub loop-command-init : goal.loop-command-init
loop-command-init c = All-nil IsServedCommand

-- this one isn't served
pub returns-then-not-is_served-clause-some : goal.returns-then-not-is_served-clause-some
returns-then-not-is_served-clause-some c =
    let commands = c.args.commands.now in
    let i = c.loop-command.command-index in
    record {
      before = take i commands;
      command = c.command-item.result;
      after = drop (i + 1) commands;
      split = sym (take-append-drop i commands)
          ∙ ap (λ rest. take i commands ++ rest)
          (drop_more commands i c.command-item.result c.loop-command-test.true ∙ ap (λ (one : Command). one ∷ drop (i + 1) commands) (sym c.command-item.is));
      served = c.loop-command.invariant;
      unserved = λ served. absurd (let e = c.is_served.ensures.1 served in let f = c.if-not-is_served.true in cc);
      is = refl;
    }

-- one more is served
pub loop-command-preserved : goal.loop-command-preserved
loop-command-preserved c =
    All-more IsServedCommand c.args.commands.now c.loop-command.command-index c.command-item.result c.loop-command-test.true c.loop-command.invariant
    (subst IsServedCommand c.command-item.is (c.is_served.ensures.0 c.if-not-is_served.false))

-- all are served
pub returns-clause-none : goal.returns-clause-none
returns-clause-none c =
    subst (All IsServedCommand) (take_all c.loop-command.command-index c.args.commands.now c.loop-command-test.false) c.loop-command.invariant
