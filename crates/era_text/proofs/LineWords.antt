-- Words of lines that were counted, and numbers that words are or aren't.
use Rattle.std.proofs.Common.{ℕ, ◌<◌, ◌==◌, List, [], ◌∷◌, length, refl, arith}
use Rattle.std.specs.Prelude.{true, false, if◌then◌else◌}
use Rattle.era_line.specs.Words.{letter_before, words_of}
use Rattle.era_text.specs.FirstLine.{Step, with_number}
use Rattle.era_text.specs.Numbers.{number_of}
use Rattle.era_text.specs.Taking.{Faults, IsNoNumber}
use Rattle.era_text.specs.declared.line_fault.LineFault.{LineFault}

some-before : (byte : ℕ) (words : List (List ℕ)) → 0 < length (letter_before byte words)
some-before byte [] = omega arith
some-before byte (word ∷ words) =
    elim (byte == 32) as (λ space. 0 < length (if space then [] ∷ word ∷ words else (byte ∷ word) ∷ words)) [
      | true ↦ omega arith
      | false ↦ omega arith
    ]

-- every line has a word
pub some-word : (line : List ℕ) → 0 < length (words_of line)
some-word [] = omega arith
some-word (byte ∷ line) = some-before byte (words_of line)

-- a line is refused where a number that it needs is none
pub fault-number : {A : Type 0} (limit : ℕ) (word : List ℕ) (fault : LineFault) (next : ℕ → Step A) → IsNoNumber limit word fault
    → Faults (with_number (number_of limit word) next) fault
fault-number limit word fault next is = rw (is.refused, is.none) refl
