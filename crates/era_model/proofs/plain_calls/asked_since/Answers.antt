use Rattle.std.proofs.Common.{◌≡◌, length, arith}
use Rattle.era_model.specs.History.{blocks_at}
use Rattle.era_model.specs.Journal.{history_at}
use Rattle.era_model.specs.Marking.{asked_since}
use Rattle.era_model.proofs.RunsOfFlags.{if_ok-map, lists-by_test}
use Rattle.era_model.proofs.plain_calls.asked_since.Goals as goal

-- the runs are those of the flags
pub returns : goal.returns
returns c =
    let journal = c.args.journal.now in
    let l = c.loop-block in
    let blocks = blocks_at journal.opening in
    let at_end : l.block ≡ blocks = omega (arith, c.blocks-block-end.ensures.value) in
    let size : length l.flags.items ≡ blocks = omega (arith, l.flags.ok.0, l.invariant.size) in
    if_ok-map c.runs_of_flags.result _ _
    (λ runs lists. lists-by_test blocks l.flags.items (asked_since (history_at journal.opening journal.entries c.args.place) c.args.era) runs size
    (rw at_end at l.invariant.flags) lists)
    (rw c.as_slice.ensures.value at c.runs_of_flags.ensures)
