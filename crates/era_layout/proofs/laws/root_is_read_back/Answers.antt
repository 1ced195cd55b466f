use Rattle.std.proofs.Common.{refl}
use Rattle.era_layout.specs.Root.{root_bytes}
use Rattle.era_layout.proofs.RootWritten.{stands, read_back, none_applies}
use Rattle.era_layout.proofs.HeldRoot.{passes_held}
use Rattle.era_layout.proofs.laws.root_is_read_back.Goals as goal

pub returns-clause-fields : goal.returns-clause-fields
returns-clause-fields c = λ root valid. read_back root (root_bytes root) valid (stands root (root_bytes root) _ valid refl)

pub returns-clause-none : goal.returns-clause-none
returns-clause-none c = λ root valid. none_applies root (root_bytes root) valid (stands root (root_bytes root) _ valid refl)

pub returns-clause-held : goal.returns-clause-held
returns-clause-held c = λ root valid free. passes_held root (root_bytes root) valid free (stands root (root_bytes root) _ valid refl)
