use Rattle.std.proofs.Common.{◌/◌, ◌<◌, true, ap, ◌∙◌, arith}
use Rattle.std.specs.Prelude.{slice_set}
use Rattle.std.proofs.lemmas.List.{get_or_read}
use Rattle.era_sets.proofs.Flags.{blocks-of, changed-flags, changed-packed, word-within}
use Rattle.era_sets.proofs.ChangedWords.{marks-bit}
use Rattle.era_sets.proofs.bit_set.BitSet.mark.Goals as goal

pub index_mut-requires : goal.index_mut-requires
index_mut-requires c =
    let inside = c.self.inside in
    let size = blocks-of inside.blocks inside.words.items c.args.self.now c.self.view_is in
    omega (arith, word-within inside.blocks inside.words.items c.args.block c.self.invariant (omega arith), inside.words.ok.0)

pub invariant_of-self : goal.invariant_of-self
invariant_of-self c =
    let inside = c.self.inside in
    let size = blocks-of inside.blocks inside.words.items c.args.self.now c.self.view_is in
    let within : c.args.block < inside.blocks = omega arith in
    let there = word-within inside.blocks inside.words.items c.args.block c.self.invariant within in
    let word = get_or_read inside.words.items (c.args.block / 64) c.index_mut.result.now there c.index_mut.ensures.value 0 in
    changed-packed inside.blocks inside.words.items _ c.args.block true c.self.invariant
    (marks-bit inside.words.items c.index_mut.result.now c.args.block word there) within

pub returns : goal.returns
returns c =
    let inside = c.self.inside in
    let size = blocks-of inside.blocks inside.words.items c.args.self.now c.self.view_is in
    let within : c.args.block < inside.blocks = omega arith in
    let there = word-within inside.blocks inside.words.items c.args.block c.self.invariant within in
    let word = get_or_read inside.words.items (c.args.block / 64) c.index_mut.result.now there c.index_mut.ensures.value 0 in
    changed-flags inside.blocks inside.words.items _ c.args.block true
    (marks-bit inside.words.items c.index_mut.result.now c.args.block word there) within
    ∙ ap (λ flags. slice_set flags c.args.block true) c.self.view_is
