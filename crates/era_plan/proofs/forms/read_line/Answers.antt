use Rattle.std.proofs.Common.{◌∷◌, ap, ◌∙◌}
use Rattle.era_plan.proofs.LineForms.{five-words}
use Rattle.era_plan.proofs.forms.read_line.Goals as goal

-- a fifth word stands behind the fourth one
pub returns-in-Some-split_word-3 : goal.returns-in-Some-split_word-3
returns-in-Some-split_word-3 c =
    let lane = c.in-Some.lane.now in
    let name = c.in-Some-split_word.name.now in
    let first = c.in-Some-split_word-2.first.now in
    five-words c.args.line.now lane name first c.in-Some-split_word-3._last.now c.in-Some-split_word-3._more.now c.requires
    (c.in-Some.ensures.some ∙ ap (λ l. lane ∷ l) c.in-Some-split_word.ensures.some ∙ ap (λ l. lane ∷ name ∷ l) c.in-Some-split_word-2.ensures.some
    ∙ ap (λ l. lane ∷ name ∷ first ∷ l) c.in-Some-split_word-3.ensures.some)
