-- The held root holds no snapshot itself.
use Rattle.std.proofs.Common.{◌≡◌, ℕ, false, eqb, List, ap, ◌∙◌, inl}
use Rattle.era_layout.specs.Numbers.{u32_at}
use Rattle.era_layout.specs.Root.{RootFields, held_number, IsValidRoot}
use Rattle.era_layout.specs.Damage.{Passes, HeldPasses, fields_at, root_kinds, NoneApplies, NoneAppliesOf}
use Rattle.era_layout.proofs.RootWritten.{Stands, none_applies}

-- what passes as the held root passes as a root
pub held_passes : (bytes : List ℕ) → NoneAppliesOf (HeldPasses bytes) root_kinds → NoneApplies bytes root_kinds
unfolding Passes
held_passes bytes none = (none.0, (none.1.0, (none.1.1.0, (none.1.1.1.0, (inl none.1.1.1.1.0, none.1.1.1.1.1)))))

-- what passes as the held root says that no snapshot is held
pub none_held : (bytes : List ℕ) → NoneAppliesOf (HeldPasses bytes) root_kinds → (fields_at bytes).held ≡ false
none_held bytes none = ap (λ (n : ℕ). eqb n 2) none.1.1.1.1.0

-- a valid root that holds no snapshot passes as the held root
pub passes_held : (root : RootFields) (bytes : List ℕ) → IsValidRoot root → root.held ≡ false → Stands root bytes → NoneAppliesOf (HeldPasses bytes) root_kinds
passes_held root bytes valid free s =
    let none = none_applies root bytes valid s in
    let field : u32_at bytes 28 ≡ 0 = s.held ∙ ap held_number free in
    (none.0, (none.1.0, (none.1.1.0, (none.1.1.1.0, (field, none.1.1.1.1.1)))))
