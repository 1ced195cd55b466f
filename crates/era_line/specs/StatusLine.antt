-- The line that tells the state of a target: the used and all metadata blocks, the era, and the block of the snapshot.
use Rattle.std.specs.Prelude.{◌≡◌, ℕ, ◌<◌, ◌^◌, List, ◌∷◌, ◌++◌, decimal, Option, IfSome}
use Rattle.era_model.specs.Transcript.{number_or_dash, status_text}

-- A text is the block of a snapshot, or a dash where none is held.
pub record IsHeld (text : List ℕ) (held : Option ℕ) : Type 0 where
  pub spelled : text ≡ number_or_dash held
  pub fits : IfSome held (λ block. block < 2 ^ 32)

-- A text is a status line with these numbers: the used blocks, the era and the block of the snapshot have 32 bits, the count of all blocks has 64.
pub record IsStatusLine (text : List ℕ) (used total era : ℕ) (held : Option ℕ) : Type 0 where
  pub spelled : text ≡ status_text used total era held
  pub used_fits : used < 2 ^ 32
  pub total_fits : total < 2 ^ 64
  pub era_fits : era < 2 ^ 32
  pub held_fits : IfSome held (λ block. block < 2 ^ 32)

-- A text is no status line, whatever its numbers would be.
abbrev pub IsNoStatusLine : List ℕ → Type 0
IsNoStatusLine text = (used total era : ℕ) (held : Option ℕ) → IsStatusLine text used total era held → ⊥

-- Two status lines of the same text have the same numbers.
abbrev pub AtMostOneStatus : Type 0
AtMostOneStatus =
    (text : List ℕ) (used total era used' total' era' : ℕ) (held held' : Option ℕ)
    → IsStatusLine text used total era held → IsStatusLine text used' total' era' held'
    → (used ≡ used') × (total ≡ total') × (era ≡ era') × (held ≡ held')

-- What a status line has behind the used blocks.
pub record IsBehindUsed (text : List ℕ) (total era : ℕ) (held : Option ℕ) : Type 0 where
  pub spelled : text ≡ decimal total ++ 32 ∷ (decimal era ++ 32 ∷ number_or_dash held)
  pub total_fits : total < 2 ^ 64
  pub era_fits : era < 2 ^ 32
  pub held_fits : IfSome held (λ block. block < 2 ^ 32)
