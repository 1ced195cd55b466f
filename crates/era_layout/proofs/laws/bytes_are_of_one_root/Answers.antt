use Rattle.std.proofs.Common.{◌∙◌, sym, ap, refl}
use Rattle.era_layout.specs.Root.{root_bytes}
use Rattle.era_layout.specs.Damage.{fields_at}
use Rattle.era_layout.proofs.RootWritten.{stands, read_back}
use Rattle.era_layout.proofs.laws.bytes_are_of_one_root.Goals as goal

pub returns : goal.returns
returns c = λ one other valid valid' same.
    sym (read_back one (root_bytes one) valid (stands one (root_bytes one) _ valid refl))
    ∙ ap fields_at same
    ∙ read_back other (root_bytes other) valid' (stands other (root_bytes other) _ valid' refl)
