-- The states of a disk that never fails.
use Rattle.std.specs.Prelude.{◌≡◌, ℕ, ◌*◌, ◌/◌, false, List, [], ◌∷◌, ◌++◌, length, replicate}
use Rattle.std.proofs.Common.{arith, ◌∙◌}
use Rattle.std.proofs.lemmas.List.{length-replicate}
use Rattle.era_base.specs.CrashModel.{State, IsWhole}
use Rattle.era_disks.specs.declared.plain_past.PlainPast.{PlainPast}
use Rattle.era_disks.specs.declared.plain_past.PlainPast.TheVariants.{Start, After'}

-- The state of bytes of which no sector is pending.
abbrev pub plain_state : List ℕ → State
plain_state bytes = record { seen = bytes; pending = replicate (length bytes / 512) false }

-- The past states of a disk that never fails, the first one first.
abbrev pub plain_past : PlainPast → List State
plain_past Start = []
plain_past (After' now marker before) = plain_past before ++ plain_state now.value.items ∷ []

-- A state of whole sectors has a flag for each.
pub plain-whole : (sectors : ℕ) (bytes : List ℕ) → length bytes ≡ sectors * 512 → IsWhole sectors (plain_state bytes)
plain-whole sectors bytes size = record {
  bytes = size;
  flags = length-replicate (length bytes / 512) false ∙ omega (arith, size);
}
