use Rattle.std.proofs.Common.{◌≡◌, ◌<◌, ◌||◌, length, sym, ap, ◌∙◌, arith}
use Rattle.std.proofs.lemmas.List.{get_or_read}
use Rattle.era_base.specs.Flags.{has}
use Rattle.era_sets.proofs.Flags.{blocks-of, length-flags, flags_of, same-words}
use Rattle.era_sets.proofs.ChangedWords.{taken-more, taken-packed, taken-flags}
use Rattle.era_sets.proofs.bit_set.BitSet.union.Goals as goal

pub index-requires : goal.index-requires
index-requires c =
    let packed = same-words c.self.inside.blocks c.other.inside.blocks c.self.inside.words.items c.other.inside.words.items _ _ c.self.view_is c.other.view_is c.requires
    c.self.invariant c.other.invariant in
    omega (arith, packed.size, c.self.invariant.size, c.self.inside.words.ok.0, c.other.inside.words.ok.0)

-- one word more
pub loop-at-preserved : goal.loop-at-preserved
loop-at-preserved c =
    let before = c.self.inside.words.items in
    let other = c.other.inside.words.items in
    let now = c.loop-at.self-inside.words.items in
    let packed = same-words c.self.inside.blocks c.other.inside.blocks before other _ _ c.self.view_is c.other.view_is c.requires c.self.invariant c.other.invariant in
    let size = c.loop-at.invariant.words.size in
    let within : c.loop-at.at < length before = omega (arith, c.self.inside.words.ok.0) in
    let within' : c.loop-at.at < length other = omega (arith, packed.size, c.self.invariant.size) in
    let word = get_or_read now c.loop-at.at c.index_mut.result.now (omega arith) c.index_mut.ensures.value 0 in
    let more = get_or_read other c.loop-at.at c.index.result.now within' c.index.ensures 0 in
    record {
      blocks = c.loop-at.invariant.blocks;
      words = taken-more before other now c.loop-at.at c.index_mut.result.now c.index.result.now c.loop-at.invariant.words within word more;
    }

pub invariant_of-self : goal.invariant_of-self
invariant_of-self c =
    let before = c.self.inside.words.items in
    let other = c.other.inside.words.items in
    let packed = same-words c.self.inside.blocks c.other.inside.blocks before other _ _ c.self.view_is c.other.view_is c.requires c.self.invariant c.other.invariant in
    rw c.loop-at.invariant.blocks
    (taken-packed c.self.inside.blocks before other c.loop-at.self-inside.words.items c.loop-at.at c.self.invariant packed c.loop-at.invariant.words
    (omega (arith, c.self.inside.words.ok.0)))

pub returns-clause-size : goal.returns-clause-size
returns-clause-size c =
    length-flags c.loop-at.self-inside.blocks c.loop-at.self-inside.words.items ∙ c.loop-at.invariant.blocks
    ∙ blocks-of c.self.inside.blocks c.self.inside.words.items c.args.self.now c.self.view_is

pub returns-clause-flags : goal.returns-clause-flags
returns-clause-flags c = λ block.
    let blocks = c.self.inside.blocks in
    let before = c.self.inside.words.items in
    let other = c.other.inside.words.items in
    let now = c.loop-at.self-inside.words.items in
    let packed = same-words blocks c.other.inside.blocks before other _ _ c.self.view_is c.other.view_is c.requires c.self.invariant c.other.invariant in
    let same : blocks ≡ c.other.inside.blocks =
    blocks-of blocks before _ c.self.view_is ∙ sym c.requires ∙ sym (blocks-of c.other.inside.blocks other _ c.other.view_is) in
    ap (λ n. has (flags_of n now) block) c.loop-at.invariant.blocks
    ∙ taken-flags blocks before other now c.loop-at.at c.self.invariant packed c.loop-at.invariant.words (omega (arith, c.self.inside.words.ok.0)) block
    ∙ ap (λ flags. has flags block || has (flags_of blocks other) block) c.self.view_is
    ∙ ap (λ flags. has c.args.self.now block || has flags block) (ap (λ n. flags_of n other) same ∙ c.other.view_is)
