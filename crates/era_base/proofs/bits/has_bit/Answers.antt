use Rattle.std.proofs.Common.{◌≡◌, ℕ, ◌/◌, ◌%◌, ◌==◌, get_or, sym, ap, ◌∙◌, arith}
use Rattle.std.proofs.lemmas.Nat.Bits.{shr_and_one, bit_at-zero}
use Rattle.std.specs.Int.{bit_at}
use Rattle.era_base.specs.Bits.{bit_of}
use Rattle.era_base.proofs.bits.has_bit.Goals as goal

pub returns-in-Some : goal.returns-in-Some
unfolding bit_of
returns-in-Some c =
    let word : c.in-Some.word.now ≡ get_or c.args.words.now (c.args.index / 64) 0 = c.in-Some.ensures.lookup.4 (omega arith) 0 in
    ap (λ bit. bit == 1) (shr_and_one _ (c.args.index % 64)) ∙ ap (λ word. bit_at word (c.args.index % 64) == 1) word

-- a word that is lacking counts as 0
pub returns-in-None : goal.returns-in-None
unfolding bit_of
returns-in-None c =
    let word : 0 ≡ get_or c.args.words.now (c.args.index / 64) 0 = c.in-None.ensures.lookup.4 (omega arith) 0 in
    sym (ap (λ bit. bit == 1) (bit_at-zero (c.args.index % 64))) ∙ ap (λ word. bit_at word (c.args.index % 64) == 1) word
