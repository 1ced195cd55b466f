use Rattle.std.proofs.Common.{◌≡◌, [], ◌++◌, ◌+◌, ◌<◌, length, get_or, ap, sym, ◌∙◌, refl, subst, arith}
use Rattle.std.proofs.lemmas.List.{append-nil}
use Rattle.era_line.specs.TextBuffer.{Gathers}
use Rattle.era_model.specs.declared.command.Command.{Command}
use Rattle.era_line.proofs.PartSteps.{HasCut, cut-then}
use Rattle.era_top.proofs.Gives.{answers_text-next, stand_before-next, stand_before-end}
use Rattle.era_top.proofs.replies.give_replies.Goals as goal

-- none was added at first
pub loop-outcome-init : goal.loop-outcome-init
loop-outcome-init g c = (
  ([], refl, λ before text is. subst (λ all. Gathers before all (g.K.Sink.given c.args.sink.now) c.args.text.now) (sym (append-nil text)) is),
  refl,
  omega arith,
  refl,
)

-- the sink failed at a reply
pub returns-in_default-clause-added : goal.returns-in_default-clause-added
returns-in_default-clause-added g c =
    let inv = c.loop-outcome.invariant in
    let stand = inv.0 in
    let i = c.loop-outcome.outcome-index in
    let command = c.index-commands-index.result in
    let at = subst (λ n. command ≡ get_or c.args.commands.now n command) inv.3 c.index-commands-index.is in
    let line = c.from-line.ensures ∙ ap (λ (it : Command). it.line) (sym c.index-commands-index.is) in
    let within : i < length c.args.commands.now = omega (arith, c.loop-outcome-test.true, c.requires.few) in
    let next = answers_text-next c.args.commands.now c.args.outcomes.now i c.loop-outcome.place command c.outcome-item.result c.loop-outcome-test.true within c.outcome-item.is at in
    subst (HasCut (g.K.Sink.given c.args.sink.now) c.args.text.now (g.K.Sink.given c.give_reply.new.sink))
    (sym (stand.1 ∙ ap (λ bytes. stand.0 ++ bytes) next))
    (cut-then _ _ _ _ _ stand.0 _ _ stand.2 (rw line at c.in_default.ensures.added))

-- one reply more was added
pub loop-outcome-preserved : goal.loop-outcome-preserved
loop-outcome-preserved g c =
    let inv = c.loop-outcome.invariant in
    let i = c.loop-outcome.outcome-index in
    let command = c.index-commands-index.result in
    let at = subst (λ n. command ≡ get_or c.args.commands.now n command) inv.3 c.index-commands-index.is in
    let line = c.from-line.ensures ∙ ap (λ (it : Command). it.line) (sym c.index-commands-index.is) in
    let within : i < length c.args.commands.now = omega (arith, c.loop-outcome-test.true, c.requires.few) in (
      stand_before-next c.args.first c.args.commands.now c.args.outcomes.now i c.loop-outcome.place _ command c.outcome-item.result _ _ _ _ _ _
          c.loop-outcome-test.true within c.outcome-item.is at inv.0 (rw line at c.in-Ok.ensures.added) c.count_events-place.ensures.value,
      c.in-Ok.ensures.cause.kept ∙ inv.1,
      omega (arith, inv.2, c.count_events-place.ensures.few),
      ap (λ n. n + 1) inv.3,
    )

-- all replies were added
pub returns-clause-added : goal.returns-clause-added
returns-clause-added g c =
    stand_before-end c.args.first c.args.commands.now c.args.outcomes.now c.loop-outcome.outcome-index c.loop-outcome.place _ c.loop-outcome-test.false c.loop-outcome.invariant.0
