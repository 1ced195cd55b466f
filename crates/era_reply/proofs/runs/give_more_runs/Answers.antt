use Rattle.std.proofs.Common.{[], ◌++◌, refl, ap, sym, ◌∙◌, subst}
use Rattle.std.proofs.lemmas.List.{append-nil}
use Rattle.era_line.specs.TextBuffer.{Gathers}
use Rattle.era_line.proofs.PartSteps.{HasCut, cut-then}
use Rattle.era_reply.proofs.Gives.{more_runs-next, runs_stand-end, runs_stand-next}
use Rattle.era_reply.proofs.runs.give_more_runs.Goals as goal

-- none was added at first
pub loop-run-init : goal.loop-run-init
loop-run-init g c =
    (([], refl, λ before text is. subst (λ all. Gathers before all (g.K.Sink.given c.args.sink.now) c.args.text.now) (sym (append-nil text)) is), refl)

-- the sink failed at a run
pub returns-in_default-clause-added : goal.returns-in_default-clause-added
returns-in_default-clause-added g c =
    let stand = c.loop-run.invariant.0 in
    let next = more_runs-next c.args.runs.now c.loop-run.run-index _ c.loop-run-test.true in
    subst (HasCut (g.K.Sink.given c.args.sink.now) c.args.text.now (g.K.Sink.given c.give_next_run.new.sink))
    (sym (stand.1 ∙ ap (λ bytes. stand.0 ++ bytes) next))
    (cut-then _ _ _ _ _ stand.0 _ _ stand.2 c.in_default.ensures.added)

-- one run more was added
pub loop-run-preserved : goal.loop-run-preserved
loop-run-preserved g c = (
  runs_stand-next c.args.runs.now c.loop-run.run-index _ _ _ _ _ _ _ c.loop-run-test.true c.loop-run.invariant.0 c.in-Ok.ensures.added,
  c.in-Ok.ensures.cause.kept ∙ c.loop-run.invariant.1,
)

-- all runs were added
pub returns-clause-added : goal.returns-clause-added
returns-clause-added g c = runs_stand-end c.args.runs.now c.loop-run.run-index _ c.loop-run-test.false c.loop-run.invariant.0
