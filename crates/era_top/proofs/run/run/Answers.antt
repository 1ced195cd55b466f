use Rattle.std.proofs.Common.{◌≡◌, ◌+◌, ◌*◌, true, [], ◌∷◌, ◌++◌, length, refl, ap, sym, ◌∙◌, subst, arith}
use Rattle.era_base.specs.Faults.{Rose}
use Rattle.era_model.specs.declared.command.Command.{Command}
use Rattle.era_top.specs.Runs.{IsServedTask}
use Rattle.era_top.specs.Runs.{some_cut}
use Rattle.era_top.proofs.RunBehind.{behind-none, behind-on, behind-cut, behind-end, cut-rose, uncut-kept}
use Rattle.era_top.proofs.RunLoop.{some_cut-push}
use Rattle.era_top.proofs.run.run.Goals as goal

-- nothing was run yet
pub loop-command-init : goal.loop-command-init
loop-command-init g c = (
  (λ contents before done at_first first h few run. (h, behind-none c.args.geometry.now contents before done _ c.args.marks.now g.D.Disk.tells _ _ _ _ h c.requires.room.none run)),
  c.requires.fit.0,
  refl,
  omega (arith, c.args.outcomes.now.ok.0, ap length c.requires.room.none),
  c.requires.room.enough,
  ap some_cut c.requires.room.none,
  refl,
  c.requires.fit.1,
  refl,
  refl,
)

-- a write was cut, and the run ends
pub returns-then-cut-clause-run : goal.returns-then-cut-clause-run
returns-then-cut-clause-run g c = λ contents before done at_first first h few run.
    let served = subst (λ (command : Command). IsServedTask command.task) (sym c.command-item.is) (c.requires.served c.loop-command.command-index c.command-item.result c.loop-command-test.true) in
    let so_far = c.loop-command.invariant.0 contents before done at_first first h few run in
    rw c.push_reserved.ensures.items
    (behind-cut c.args.geometry.now contents before c.args.commands.now c.loop-command.command-index c.command-item.result done c.loop-command.outcomes.items _ _ g.D.Disk.tells _ _ _ _ _ _ so_far.0 _
    c.loop-command-test.true c.command-item.is so_far.1 served c.run_task-outcome.ensures.went (sym c.is_cut-cut.ensures ∙ c.if-cut.true))

-- it stopped at the cut
pub returns-then-cut-clause-stopped : goal.returns-then-cut-clause-stopped
returns-then-cut-clause-stopped g c =
    let inv = c.loop-command.invariant in
    let cut : some_cut (c.loop-command.outcomes.items ++ c.run_task-outcome.result ∷ []) ≡ true =
    some_cut-push c.loop-command.outcomes.items c.run_task-outcome.result inv.5 ∙ sym c.is_cut-cut.ensures ∙ c.if-cut.true in
    record {
      few = omega (arith, c.push_reserved.ensures.len, inv.3, c.loop-command-test.true);
      whole = λ none. absurd (let e = cut in let f = c.push_reserved.ensures.items in cc);
      rose = λ _. subst (λ before. Rose before (g.D.Disk.faults c.run_task-outcome.new.disk)) inv.6
          (cut-rose c.args.geometry.now c.command-item.result.task g.D.Disk.tells _ _ _ _ _ _ _ c.run_task-outcome.ensures.went (sym c.is_cut-cut.ensures ∙ c.if-cut.true));
      kept = λ none. absurd (let e = cut in let f = c.push_reserved.ensures.items in cc);
    }

-- one task more was run
pub loop-command-preserved : goal.loop-command-preserved
loop-command-preserved g c =
    let inv = c.loop-command.invariant in
    let uncut = sym c.is_cut-cut.ensures ∙ c.if-cut.false in
    let served = subst (λ (command : Command). IsServedTask command.task) (sym c.command-item.is) (c.requires.served c.loop-command.command-index c.command-item.result c.loop-command-test.true) in (
      (λ contents before done at_first first h few run.
          let so_far = inv.0 contents before done at_first first h few run in
          rw c.push_reserved.ensures.items
          (behind-on c.args.geometry.now contents before c.args.commands.now c.loop-command.command-index c.command-item.result done c.loop-command.outcomes.items _ _ g.D.Disk.tells _ _ _ _ _ _ so_far.0 _
          c.loop-command-test.true c.command-item.is few so_far.1 served (λ told. (g.met.D.Disk.whole c.loop-command.disk told).bytes ∙ ap (λ n. n * 512) inv.7)
          c.run_task-outcome.ensures.went uncut)),
      c.run_task-outcome.ensures.marks ∙ inv.1,
      c.run_task-outcome.ensures.marks ∙ inv.2,
      c.push_reserved.ensures.len ∙ ap (λ n. n + 1) inv.3,
      rw c.push_reserved.ensures.capacity inv.4,
      ap some_cut c.push_reserved.ensures.items ∙ some_cut-push c.loop-command.outcomes.items c.run_task-outcome.result inv.5 ∙ uncut,
      uncut-kept c.args.geometry.now c.command-item.result.task g.D.Disk.tells _ _ _ _ _ _ _ c.run_task-outcome.ensures.went uncut ∙ inv.6,
      c.run_task-outcome.ensures.size ∙ inv.7,
      c.run_task-outcome.ensures.size ∙ inv.8,
      c.run_task-outcome.ensures.place ∙ inv.9,
    )

-- all were run
pub returns-clause-run : goal.returns-clause-run
returns-clause-run g c = λ contents before done at_first first h few run.
    let so_far = c.loop-command.invariant.0 contents before done at_first first h few run in
    behind-end c.args.geometry.now contents before c.args.commands.now c.loop-command.command-index _ _ _ _ _ _ _ so_far.0 c.loop-command-test.false so_far.1

-- none was cut
pub returns-clause-stopped : goal.returns-clause-stopped
returns-clause-stopped g c =
    let inv = c.loop-command.invariant in
    record {
      few = omega (arith, inv.3);
      whole = λ _. omega (arith, inv.3, c.loop-command-test.false);
      rose = λ cut. absurd (let none = inv.5 in cc);
      kept = λ _. inv.6;
    }
