use Rattle.std.proofs.Common.{sym}
use Rattle.era_layout.specs.Damage.{fields_at}
use Rattle.era_layout.proofs.RootRead.{is_valid, bytes_again}
use Rattle.era_layout.proofs.RootWritten.{stands}
use Rattle.era_layout.proofs.HeldRoot.{held_passes, none_held, passes_held}
use Rattle.era_layout.proofs.laws.undamaged_bytes_are_a_held_root.Goals as goal

pub returns : goal.returns
returns c = λ bytes size fits. (
  λ none. (fields_at bytes, is_valid bytes fits (held_passes bytes none), none_held bytes none, bytes_again bytes size fits (held_passes bytes none)),
  λ root. passes_held root.0 bytes root.1 root.2 (stands root.0 bytes _ root.1 (sym root.3)),
)
