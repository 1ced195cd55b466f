-- What a journal's plain calls ask for and answer.
use Rattle.std.specs.Prelude.{◌≡◌, ℕ, ◌*◌, Bool, not, false, List, length, Option, Some, None}
use Rattle.std.specs.Str.{bytes_eq}
use Rattle.era_model.specs.declared.history.Happening.{Happening}
use Rattle.era_model.specs.declared.opening.Opening.{Opening}
use Rattle.era_model.specs.History.{content}
use Rattle.era_model.specs.Marking.{era_start}

-- The opening tells all bytes of its origin.
pub record TellsAllBytes (opening : Opening) : Type 0 where
  pub bytes : List ℕ
  pub known : opening.contents.bytes ≡ Some bytes
  pub whole : length bytes ≡ opening.geometry.sectors * 512

-- Whether the block's content is another one than at the moment, where there is one.
abbrev pub differs_from : Option (List Happening) → List Happening → ℕ → Bool
differs_from None h block = false
differs_from (Some start) h block = not (bytes_eq (content h block) (content start block))

-- Whether the era has begun and the block's content is another one than it was then.
abbrev pub has_changed_since : List Happening → ℕ → ℕ → Bool
has_changed_since h era block = differs_from (era_start era h) h block
