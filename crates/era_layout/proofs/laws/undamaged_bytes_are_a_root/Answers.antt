use Rattle.std.proofs.Common.{sym}
use Rattle.era_layout.specs.Damage.{fields_at}
use Rattle.era_layout.proofs.RootRead.{is_valid, bytes_again}
use Rattle.era_layout.proofs.RootWritten.{stands, none_applies}
use Rattle.era_layout.proofs.laws.undamaged_bytes_are_a_root.Goals as goal

pub returns : goal.returns
returns c = λ bytes size fits. (
  λ none. (fields_at bytes, is_valid bytes fits none, bytes_again bytes size fits none),
  λ root. none_applies root.0 bytes root.1 (stands root.0 bytes _ root.1 (sym root.2)),
)
