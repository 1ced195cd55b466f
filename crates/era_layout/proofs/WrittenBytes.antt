-- Bytes that were written from front to back, with zeros behind them.
use Rattle.std.proofs.Common.{◌≡◌, ℕ, ◌-◌, ◌≤◌, List, ◌++◌, length, take, replicate, refl, sym, ap, ◌∙◌, append_assoc}
use Rattle.std.proofs.lemmas.List.{length-take-le}
use Rattle.era_layout.specs.Numbers.{padded}

-- zeros behind what was written make it up to the whole size
pub padded_written : (into now bytes : List ℕ) (behind : ℕ) → now ≡ take behind into ++ replicate (length into - behind) 0 → take behind into ≡ bytes → behind ≤ length into → now ≡ padded (length into) bytes
padded_written into now bytes behind is front le =
    let len : length bytes ≡ behind = sym (ap length front) ∙ length-take-le behind into le in
    rw (is, front, len) refl

-- four pieces, joined from the left or the last three first
pub joined : (a b c d : List ℕ) → a ++ b ++ c ++ d ≡ a ++ (b ++ c ++ d)
joined a b c d = simp append_assoc
