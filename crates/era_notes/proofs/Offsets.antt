-- Where the bytes of blocks stand on a part's disk, and which of them a write touches.
use Rattle.std.proofs.Common.{◌≡◌, ℕ, ◌+◌, ◌-◌, ◌*◌, ◌<◌, ◌≤◌, min, true, false, List, [], ◌∷◌, length, get_or, drop, arith, sym, ap, ◌∙◌, inl, inr}
use Rattle.std.specs.Prelude.{slice_index}
use Rattle.std.proofs.lemmas.List.{length-take, length-drop, get_or-take, get_or-drop}
use Rattle.std.proofs.lemmas.Bool.{cases_lt, false≢true}
use Rattle.std.proofs.Math.Nat.{mul-le-mul_right}
use Rattle.std.proofs.lemmas.Bool.Decides.{nat_tests}
use Rattle.era_model.specs.Writes.{is_written_at}
use Rattle.era_model.specs.declared.flight.FlightWrite.{FlightWrite}
use Rattle.era_notes.specs.Parts.{Part, IsIn, offset_in, sector_in, bytes_in}

-- a smaller number of blocks ends before
pub blocks-apart : (a b size : ℕ) → a < b → a * size + size ≤ b * size
blocks-apart a b size less = let more : (a + 1) * size ≤ b * size = mul-le-mul_right size (omega arith) in omega (arith, more)

pub length-bytes_in : (part : Part) (bytes : List ℕ) (block : ℕ) → length (bytes_in part bytes block) ≡ min (part.size * 512) (length bytes - (block - part.first) * part.size * 512)
length-bytes_in part bytes block = length-take (part.size * 512) (drop ((block - part.first) * part.size * 512) bytes) ∙ ap (min (part.size * 512)) (length-drop ((block - part.first) * part.size * 512) bytes)

-- a byte of a block is within the block's size, and on the disk
pub byte-within : (part : Part) (bytes : List ℕ) (block offset : ℕ) → offset < length (bytes_in part bytes block) → offset < part.size * 512
byte-within part bytes block offset within = let size = length-bytes_in part bytes block in omega (arith, size, within)

pub byte-on_disk : (part : Part) (bytes : List ℕ) (block offset : ℕ) → offset < length (bytes_in part bytes block) → offset_in part block offset < length bytes
byte-on_disk part bytes block offset within = let size = length-bytes_in part bytes block in omega (arith, size, within)

-- and the other way round
pub byte-in_block : (part : Part) (bytes : List ℕ) (block offset : ℕ) → offset < part.size * 512 → offset_in part block offset < length bytes → offset < length (bytes_in part bytes block)
byte-in_block part bytes block offset small there = let size = length-bytes_in part bytes block in omega (arith, size, small, there)

pub byte-at : (part : Part) (bytes : List ℕ) (block offset : ℕ) → offset < part.size * 512 → slice_index (bytes_in part bytes block) offset ≡ slice_index bytes (offset_in part block offset)
byte-at part bytes block offset small =
    let same : (block - part.first) * part.size * 512 + offset ≡ offset_in part block offset = omega arith in
    get_or-take (part.size * 512) (drop ((block - part.first) * part.size * 512) bytes) offset 0 small
    ∙ get_or-drop ((block - part.first) * part.size * 512) bytes offset 0
    ∙ ap (λ n. get_or bytes n 0) same

-- the first byte of a sector of a block
pub sector-at : (part : Part) (block first : ℕ) → sector_in part block first * 512 ≡ offset_in part block (first * 512)
sector-at part block first = omega arith

-- a write is of a block of the part, and within the block
pub record FitsIn (part : Part) (block first count : ℕ) : Type 0 where
  pub of_part : IsIn part block
  pub small : first * 512 + count ≤ part.size * 512

-- a byte of the written block that isn't among the written ones is before or behind them
same-outside : (write : FlightWrite) (block offset : ℕ) → write.block ≡ block → is_written_at (write ∷ []) block offset ≡ false
    → write.first * 512 ≤ offset → write.first * 512 + length write.bytes ≤ offset
same-outside write block offset same clear low = elim (cases_lt offset (write.first * 512 + length write.bytes)) [
  | inl inside ↦
      let here : is_written_at (write ∷ []) block offset ≡ true = grind (arith, nat_tests) in
      absurd (false≢true (sym clear ∙ here))
  | inr behind ↦ behind
]

-- a byte that isn't written stands outside of the written range of the disk
pub written-outside : (part : Part) (write : FlightWrite) (block offset : ℕ) → FitsIn part write.block write.first (length write.bytes) → IsIn part block → offset < part.size * 512
    → is_written_at (write ∷ []) block offset ≡ false
    → offset_in part write.block (write.first * 512) ≤ offset_in part block offset
    → offset_in part write.block (write.first * 512) + length write.bytes ≤ offset_in part block offset
written-outside part write block offset fits is small clear low = elim (cases_lt block write.block) [
  | inl before ↦
      let apart = blocks-apart (block - part.first) (write.block - part.first) (part.size * 512) (omega (arith, is.low)) in
      absurd (omega (arith, apart, small, low))
  | inr behind ↦ elim (cases_lt write.block block) [
    | inl after ↦
        let apart = blocks-apart (write.block - part.first) (block - part.first) (part.size * 512) (omega (arith, fits.of_part.low)) in
        omega (arith, apart, fits.small)
    | inr other ↦
        let same : write.block ≡ block = omega (arith, behind, other) in
        let out = same-outside write block offset same clear in
        let here = ap (λ (b : ℕ). (b - part.first) * (part.size * 512)) same in
        let more = out (omega (arith, here, low)) in
        omega (arith, here, more)
  ]
]
