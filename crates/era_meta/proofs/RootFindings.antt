-- What is found in bytes that are no root, and the tests that they pass where they are one.
use Rattle.std.proofs.Common.{◌≡◌, ◌≢◌, ℕ, false, List, ◌∷◌, Option, Some, None, refl, sym, ap, ◌∙◌, subst, inl, inr}
use Rattle.std.specs.Prelude.{MatchOption, IfSome}
use Rattle.era_layout.specs.declared.damage.DamageKind.{DamageKind}
use Rattle.era_layout.specs.declared.damage.RootError.{RootError}
use Rattle.era_layout.specs.declared.damage.RootError.TheVariants.{Memory}
use Rattle.era_layout.specs.Damage.{fields_at, HeldPasses, Passes as RootPasses, root_kinds, IsFirstOf}
use Rattle.era_layout.specs.Kinds.{damage_of_root}
use Rattle.era_layout.specs.Root.{RootFields, root_bytes, IsValidRoot}
use Rattle.era_slots.specs.Opening.{IsOther}
use Rattle.era_slots.specs.Slot.{SlotIsOpen, body_of}
use Rattle.era_meta.specs.declared.finding.Finding.{Finding}
use Rattle.era_meta.specs.declared.finding.Finding.TheVariants as finding
use Rattle.era_meta.specs.Damage.{Test, SlotRoot, HeldRoot, Passes, IsRootDamage, held_body}
use Rattle.era_meta.specs.Meaning.{IsRootBody}
use Rattle.era_meta.specs.Walks.{IsDamageOrMemory, IsNoFault, IsRootFinding, IsFoundIn}

found-at : (Test : RootError → Type 0) (error : RootError) (block : ℕ) (f : Finding) (damage : Option DamageKind) → damage_of_root error ≡ damage
    → (error ≢ Memory → IsFirstOf Test root_kinds error) → MatchOption damage (f ≡ finding.Memory) (λ k. f ≡ finding.Damage k block)
    → IsDamageOrMemory block (IsRootDamage Test) f
found-at Test error block f None is first same = subst (IsDamageOrMemory block (IsRootDamage Test)) (sym same) tt
found-at Test error block f (Some k) is first same =
    subst (IsDamageOrMemory block (IsRootDamage Test)) (sym same)
    ((error, first (λ none. let e : None ≡ Some k = sym (ap damage_of_root none) ∙ is in cc e), is), refl)

-- a refused root's first kind
pub root-found : (Test : RootError → Type 0) (error : RootError) (block : ℕ) (f : Finding) → (error ≢ Memory → IsFirstOf Test root_kinds error)
    → IsRootFinding block error f → IsDamageOrMemory block (IsRootDamage Test) f
root-found Test error block f first found = found-at Test error block f (damage_of_root error) refl first found

pub root-no-fault : (block : ℕ) (Is : DamageKind → Type 0) (f : Finding) → IsDamageOrMemory block Is f → IsNoFault f
root-no-fault block Is (finding.Fault count) is = is
root-no-fault block Is (finding.Damage k at) is = tt
root-no-fault block Is finding.Memory is = tt

-- the first of some tests ends them, or a later one does
pub slot-found : (seen body : List ℕ) (slot : ℕ) (later : List Test) (f : Finding) → SlotIsOpen slot seen → body ≡ body_of slot seen
    → IsDamageOrMemory slot (IsRootDamage (RootPasses body)) f → IsFoundIn seen (SlotRoot slot ∷ later) f
slot-found seen body slot later (finding.Fault count) opened is found = found
slot-found seen body slot later (finding.Damage k at) opened is found =
    inl (opened, subst (λ (bytes : List ℕ). IsRootDamage (RootPasses bytes) k) is found.0, found.1)
slot-found seen body slot later finding.Memory opened is found = tt

pub then-found : (seen : List ℕ) (test : Test) (later : List Test) (f : Finding) → Passes seen test → IsFoundIn seen later f → IsFoundIn seen (test ∷ later) f
then-found seen test later (finding.Fault count) pass found = found
then-found seen test later (finding.Damage k at) pass found = inr (pass, found)
then-found seen test later finding.Memory pass found = tt

pub beside-found : (seen : List ℕ) (slot : ℕ) (beside : Option (List ℕ)) (later : List Test) (f : Finding) → IsOther slot seen beside
    → MatchOption beside ⊥ (λ bytes. IsDamageOrMemory slot (IsRootDamage (RootPasses bytes)) f) → IsFoundIn seen (SlotRoot slot ∷ later) f
beside-found seen slot None later f is found = absurd found
beside-found seen slot (Some bytes) later f is found = slot-found seen bytes slot later f is.0 is.1 found

pub beside-no-fault : (slot : ℕ) (beside : Option (List ℕ)) (f : Finding) → MatchOption beside ⊥ (λ bytes. IsDamageOrMemory slot (IsRootDamage (RootPasses bytes)) f)
    → IsNoFault f
beside-no-fault slot None f found = absurd found
beside-no-fault slot (Some bytes) f found = root-no-fault slot (IsRootDamage (RootPasses bytes)) f found

pub beside-passes : (seen : List ℕ) (slot : ℕ) (beside : Option (List ℕ)) → IsOther slot seen beside → IfSome beside IsRootBody → Passes seen (SlotRoot slot)
beside-passes seen slot None is root opened = absurd (is opened)
beside-passes seen slot (Some bytes) is root opened = subst IsRootBody is.1 root

pub slot-passes : (seen body : List ℕ) (slot : ℕ) (root : RootFields) → body ≡ body_of slot seen → IsValidRoot root → root_bytes root ≡ body → Passes seen (SlotRoot slot)
slot-passes seen body slot root is valid spelled opened = (root, valid, sym is ∙ sym spelled)

-- the held root
pub held-found : (seen body : List ℕ) (later : List Test) (f : Finding) → body ≡ held_body seen
    → IsDamageOrMemory 2 (IsRootDamage (HeldPasses body)) f → IsFoundIn seen (HeldRoot ∷ later) f
held-found seen body later (finding.Fault count) is found = found
held-found seen body later (finding.Damage k at) is found = inl (subst (λ (bytes : List ℕ). IsRootDamage (HeldPasses bytes) k) is found.0, found.1)
held-found seen body later finding.Memory is found = tt

pub held-passes : (seen body : List ℕ) (held : RootFields) → body ≡ held_body seen → IsValidRoot held → held.held ≡ false → root_bytes held ≡ body
    → Passes seen HeldRoot
held-passes seen body held is valid none spelled = (held, valid, none, sym is ∙ sym spelled)

-- the held root's place says the held root
pub held-says : ((root : RootFields) → IsValidRoot root → fields_at (root_bytes root) ≡ root) → (seen body : List ℕ) (held : RootFields) → body ≡ held_body seen
    → IsValidRoot held → root_bytes held ≡ body → fields_at (held_body seen) ≡ held
held-says back seen body held is valid spelled = ap fields_at (sym is ∙ sym spelled) ∙ back held valid
