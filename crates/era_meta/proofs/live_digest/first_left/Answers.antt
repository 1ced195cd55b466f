use Rattle.std.proofs.Common.{◌<◌, ◌≤◌, length, ap, sym, ◌∙◌, arith}
use Rattle.era_meta.proofs.LiveDigests.{left-passed, left-found, none-left}
use Rattle.era_meta.proofs.live_digest.first_left.Goals as goal

pub is_left-requires : goal.is_left-requires
is_left-requires c = omega (arith, c.len-block-end.ensures, ap length c.blocks-2.ensures, c.requires)

pub returns-then-is_left : goal.returns-then-is_left
returns-then-is_left c =
    let set = c.args.set.now in
    let within : c.loop-block.block < length set.blocks = omega (arith, c.len-block-end.ensures, ap length c.blocks-2.ensures) in
    sym (c.loop-block.invariant ∙ left-found set.era set.blocks c.args.array.now c.loop-block.block within (sym c.is_left.ensures ∙ c.if-is_left.true))

pub loop-block-preserved : goal.loop-block-preserved
loop-block-preserved c =
    let set = c.args.set.now in
    let within : c.loop-block.block < length set.blocks = omega (arith, c.len-block-end.ensures, ap length c.blocks-2.ensures) in
    c.loop-block.invariant ∙ left-passed set.era set.blocks c.args.array.now c.loop-block.block within (sym c.is_left.ensures ∙ c.if-is_left.false)

pub returns : goal.returns
returns c =
    let set = c.args.set.now in
    let past : length set.blocks ≤ c.loop-block.block = omega (arith, c.len-block-end.ensures, ap length c.blocks-2.ensures) in
    sym (c.loop-block.invariant ∙ none-left set.era set.blocks c.args.array.now c.loop-block.block past)
