-- The line that says how a target is made: its length, its two devices and its block size.
use Rattle.std.specs.Prelude.{◌≡◌, ℕ, ◌<◌, ◌^◌, List, ◌∷◌, ◌++◌, length, codes, decimal}
use Rattle.era_line.specs.Lines.{HasNo}

-- No byte is a space.
abbrev pub HasNoSpace : List ℕ → Type 0
HasNoSpace bytes = HasNo 32 bytes

-- A device's name in a line has at least one byte, and no space.
pub record IsName (name : List ℕ) : Type 0 where
  pub some : 0 < length name
  pub no_space : HasNoSpace name

-- A text is a table line: a 0, the length, the word `era`, the metadata device's name, the origin's name
-- and the block size, with single spaces between them.
pub record IsTableLine (text : List ℕ) (sectors : ℕ) (meta origin : List ℕ) (block_sectors : ℕ) : Type 0 where
  pub spelled : text ≡ codes "0 " ++ (decimal sectors
      ++ (codes " era " ++ (meta ++ 32 ∷ (origin ++ 32 ∷ decimal block_sectors))))
  pub sectors_fit : sectors < 2 ^ 64
  pub block_fits : block_sectors < 2 ^ 64
  pub meta_name : IsName meta
  pub origin_name : IsName origin

-- A text is no table line, whatever its parts would be.
abbrev pub IsNoTableLine : List ℕ → Type 0
IsNoTableLine text =
    (sectors : ℕ) (meta origin : List ℕ) (block_sectors : ℕ)
    → IsTableLine text sectors meta origin block_sectors → ⊥

-- Two table lines of the same text have the same length, the same names and the same block size.
abbrev pub AtMostOneLine : Type 0
AtMostOneLine =
    (text : List ℕ) (sectors sectors' : ℕ) (meta origin meta' origin' : List ℕ) (size size' : ℕ)
    → IsTableLine text sectors meta origin size → IsTableLine text sectors' meta' origin' size'
    → (sectors ≡ sectors') × (meta ≡ meta') × (origin ≡ origin') × (size ≡ size')
