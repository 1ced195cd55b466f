use Rattle.std.proofs.Common.{◌≡◌, ◌<◌, ap, ◌∙◌, subst, arith, ℕ}
use Rattle.std.specs.Int.{div_ceil}
use Rattle.era_session.specs.Openings.{origin_blocks}
use Rattle.era_opening.proofs.SplitParts.{is-split}
use Rattle.era_opening.proofs.splitting.split_origin.Goals as goal

pub returns : goal.returns
returns c =
    let g = c.args.geometry.now in
    let blocks : c.blocks-blocks.result ≡ origin_blocks g = c.blocks-blocks.ensures.value in
    let least = g.block_size.least in
    is-split g c.args.stripes _ (omega (arith, least)) (subst (λ (n : ℕ). 0 < n) blocks c.blocks-blocks.ensures.range.0) c.requires.0 c.requires.1
    (c.div_ceil-each.ensures ∙ ap (λ (n : ℕ). div_ceil n c.args.stripes) blocks)
    (c.div_ceil.ensures ∙ ap (λ (n : ℕ). div_ceil n c.div_ceil-each.result) blocks)
