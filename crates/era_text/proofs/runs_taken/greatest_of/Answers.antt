use Rattle.std.proofs.Common.{ℕ, get_or, take, ◌∙◌, sym, ap}
use Rattle.std.proofs.lemmas.List.{take_more}
use Rattle.std.specs.Prelude.{max}
use Rattle.era_text.specs.FirstLine.{greatest_era}
use Rattle.era_text.proofs.PushedRuns.{greatest-pushed}
use Rattle.era_text.proofs.runs_taken.greatest_of.Goals as goal

-- one run more was looked at
pub loop-run-preserved : goal.loop-run-preserved
loop-run-preserved c =
    let i = c.loop-run.run-index in
    let runs = c.args.runs.now in
    let run : ℕ × ℕ × ℕ = get_or runs i (0, 0, 0) in
    c.max-greatest.ensures ∙ ap (max run.2) c.loop-run.invariant ∙ sym (greatest-pushed (take i runs) run)
    ∙ ap greatest_era (sym (take_more runs i (0, 0, 0) c.loop-run-test.true))
