-- Items, and bits of words, in a part of a list.
use Rattle.std.proofs.Common.{◌≡◌, ℕ, ◌+◌, ◌*◌, ◌/◌, ◌%◌, ◌<◌, List, get_or, take, drop, refl, ap, ◌∙◌, arith}
use Rattle.std.proofs.lemmas.List.{get_or-take, get_or-drop}
use Rattle.era_base.specs.Bits.{bit_of, bit_of_words}

pub item-of-part : (items : List ℕ) (from count index : ℕ) → index < count → get_or (take count (drop from items)) index 0 ≡ get_or items (from + index) 0
item-of-part items from count index lt = get_or-take count (drop from items) index 0 lt ∙ get_or-drop from items index 0

pub bit-of-part : (words : List ℕ) (page bit : ℕ) → bit < 32768 → bit_of_words (take 512 (drop (512 * page) words)) bit ≡ bit_of_words words (32768 * page + bit)
bit-of-part words page bit lt =
    let word : (32768 * page + bit) / 64 ≡ 512 * page + bit / 64 = omega arith in
    let rest : (32768 * page + bit) % 64 ≡ bit % 64 = omega arith in
    ap (λ n. bit_of n (bit % 64)) (item-of-part words (512 * page) 512 (bit / 64) (omega arith)) ∙ rw (word, rest) refl
