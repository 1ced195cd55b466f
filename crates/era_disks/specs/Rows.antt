-- Rows: the bytes of a sparse disk, one list for each sector, which is empty where nothing was written.
use Rattle.std.specs.Prelude.{◌≡◌, ◌==◌, ℕ, ◌*◌, List, [], ◌∷◌, ◌++◌, length, replicate, if◌then◌else◌, refl}
use Rattle.std.proofs.Common.{arith, length-append, ap, sym, ◌∙◌, inl, inr}
use Rattle.std.proofs.lemmas.List.{length-replicate}
use Rattle.std.proofs.lemmas.Bool.{eq-eqb, ne_eqb}
use Rattle.std.proofs.lemmas.Bool.Decides.{eqb_tells}

-- What a sector reads as: the 512 bytes of its row, or zeros where the row has no 512 bytes.
unfoldable pub sector_bytes : List ℕ → List ℕ
sector_bytes row = if length row == 512 then row else replicate 512 0

-- What all sectors read as, one after another.
abbrev pub bytes_of : List (List ℕ) → List ℕ
bytes_of [] = []
bytes_of (row ∷ rows) = sector_bytes row ++ bytes_of rows

-- A row of 512 bytes reads as it stands.
pub sector_bytes-full : (row : List ℕ) → length row ≡ 512 → sector_bytes row ≡ row
unfolding sector_bytes
sector_bytes-full row full = ap (λ test. if test then row else replicate 512 0) (eq-eqb (length row) 512 full)

-- A row of another length reads as zeros.
pub sector_bytes-other : (row : List ℕ) (n : ℕ) → n ≡ 512 → (length row ≡ 512 → ⊥) → sector_bytes row ≡ replicate n 0
unfolding sector_bytes
sector_bytes-other row n size other =
    ap (λ test. if test then row else replicate 512 0) (ne_eqb (length row) 512 other) ∙ ap (λ k. replicate k 0) (sym size)

-- A sector has 512 bytes.
pub length-sector_bytes : (row : List ℕ) → length (sector_bytes row) ≡ 512
length-sector_bytes row =
    elim (eqb_tells (length row) 512) [
      | inl is ↦ ap length (sector_bytes-full row is.1) ∙ is.1
      | inr is ↦ ap length (sector_bytes-other row 512 refl is.1) ∙ length-replicate {A = ℕ} 512 0
    ]

-- So many sectors have 512 times as many bytes.
pub length-bytes_of : (rows : List (List ℕ)) → length (bytes_of rows) ≡ length rows * 512
length-bytes_of [] = refl
length-bytes_of (row ∷ rows) = omega (arith, length-append (sector_bytes row) (bytes_of rows), length-sector_bytes row, length-bytes_of rows)
