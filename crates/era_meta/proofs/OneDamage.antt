-- The first damage: there is one at most, and none where all tests pass.
use Rattle.std.proofs.Common.{◌≡◌, ℕ, false, List, [], ◌∷◌, Some, sym, ap, ◌∙◌, subst, arith, inl, inr}
use Rattle.std.proofs.lemmas.Bool.{false≢true}
use Rattle.era_layout.specs.declared.damage.DamageKind.{DamageKind}
use Rattle.era_layout.specs.declared.damage.RootError.{RootError}
use Rattle.era_layout.specs.Damage.{HeldPasses, Passes as RootPasses, root_kinds, IsFirstOf, NoneApplies, NoneAppliesOf}
use Rattle.era_layout.specs.Kinds.{damage_of_root}
use Rattle.era_layout.specs.Pages.{IsArrayPage, FlagsEndAt}
use Rattle.era_layout.specs.Root.{RootFields, root_bytes, IsValidRoot}
use Rattle.era_layout.proofs.FirstKind.{not_first}
use Rattle.era_slots.specs.Slot.{body_of, page_of}
use Rattle.era_meta.specs.Damage.{Damage, Test, SlotNumber, SlotNumbers, SlotRoot, ArrayPage, BitsPage, HeldRoot, HeldSize, Passes, Finds, PassAll, FindsFirst, IsRootDamage, IsArrayDamage, IsBitsDamage, held_body}

-- the laws of roots that the lemmas below take
abbrev pub NoneOfRoot : Type 0
NoneOfRoot = (root : RootFields) → IsValidRoot root → NoneApplies (root_bytes root) root_kinds

abbrev pub NoneOfHeld : Type 0
NoneOfHeld = (root : RootFields) → IsValidRoot root → root.held ≡ false → NoneAppliesOf (HeldPasses (root_bytes root)) root_kinds

no-array-damage : (page : List ℕ) (entries limit : ℕ) (found : DamageKind) → IsArrayPage page entries limit → IsArrayDamage page entries limit found → ⊥
no-array-damage page entries limit found whole (inl end) =
    let above = end.1 in
    let none = whole.end above.0 above.1 above.2 in
    let more = above.3 in
    omega arith
no-array-damage page entries limit found whole (inr future) =
    let above = future.2 in
    let none = whole.limited above.0 above.1 above.2 in
    let more = above.3 in
    omega arith

no-bits-damage : (page : List ℕ) (bits : ℕ) (found : DamageKind) → FlagsEndAt page bits → IsBitsDamage page bits found → ⊥
no-bits-damage page bits found end damage =
    let flag = damage.1 in
    false≢true (sym (end flag.0 flag.1 flag.2) ∙ flag.3)

-- a test that passes finds nothing
pub pass-or-find : NoneOfRoot → NoneOfHeld → (seen : List ℕ) (test : Test) (found : Damage) → Passes seen test → Finds seen test found → ⊥
pass-or-find none held seen (SlotNumber slot) found pass finds = pass finds.0
pass-or-find none held seen SlotNumbers found pass finds = pass finds.0
pass-or-find none held seen (SlotRoot slot) found pass finds =
    let root = pass finds.0 in
    let damage = finds.1 in
    not_first (RootPasses (body_of slot seen)) damage.0 root_kinds
    (subst (λ (bytes : List ℕ). NoneApplies bytes root_kinds) (sym root.2) (none root.0 root.1)) damage.1
pass-or-find none held seen (ArrayPage block entries limit) found pass finds = no-array-damage (page_of block seen) entries limit found.kind pass finds.0
pass-or-find none held seen (BitsPage block bits) found pass finds = no-bits-damage (page_of block seen) bits found.kind pass finds.0
pass-or-find none held seen HeldRoot found pass finds =
    let damage = finds.0 in
    not_first (HeldPasses (held_body seen)) damage.0 root_kinds
    (subst (λ (bytes : List ℕ). NoneAppliesOf (HeldPasses bytes) root_kinds) (sym pass.3) (held pass.0 pass.1 pass.2)) damage.1
pass-or-find none held seen (HeldSize sectors block_sectors) found pass finds = finds.0 pass

same-damage : (one two : Damage) → one.kind ≡ two.kind → one.block ≡ two.block → one ≡ two
same-damage one two kinds blocks = λ i. record { kind = kinds i; block = blocks i }

-- two first kinds of a root are one
one_first : (Test : RootError → Type 0) (one other : RootError) (kinds : List RootError) → IsFirstOf Test kinds one → IsFirstOf Test kinds other → one ≡ other
one_first Test one other [] first first' = absurd first
one_first Test one other (kind ∷ kinds) (inl here) (inl here') = sym here.0 ∙ here'.0
one_first Test one other (kind ∷ kinds) (inl here) (inr later) = absurd (here.1 later.0)
one_first Test one other (kind ∷ kinds) (inr later) (inl here) = absurd (here.1 later.0)
one_first Test one other (kind ∷ kinds) (inr later) (inr later') = one_first Test one other kinds later.1 later'.1

one-root-damage : (Test : RootError → Type 0) (one two : DamageKind) → IsRootDamage Test one → IsRootDamage Test two → one ≡ two
one-root-damage Test one two first second =
    let errors = one_first Test first.0 second.0 root_kinds first.1 second.1 in
    let same : Some one ≡ Some two = sym first.2 ∙ (ap damage_of_root errors ∙ second.2) in
    cc same

one-array-damage : (page : List ℕ) (entries limit : ℕ) (one two : DamageKind) → IsArrayDamage page entries limit one → IsArrayDamage page entries limit two → one ≡ two
one-array-damage page entries limit one two (inl first) (inl second) = first.0 ∙ sym second.0
one-array-damage page entries limit one two (inl first) (inr second) =
    let above = first.1 in
    let none = second.1 above.0 above.1 above.2 in
    let more = above.3 in
    absurd (omega arith)
one-array-damage page entries limit one two (inr first) (inl second) =
    let above = second.1 in
    let none = first.1 above.0 above.1 above.2 in
    let more = above.3 in
    absurd (omega arith)
one-array-damage page entries limit one two (inr first) (inr second) = first.0 ∙ sym second.0

-- a test finds one damage
pub finds-one : (seen : List ℕ) (test : Test) (one two : Damage) → Finds seen test one → Finds seen test two → one ≡ two
finds-one seen (SlotNumber slot) one two first second = first.1 ∙ sym second.1
finds-one seen SlotNumbers one two first second = first.1 ∙ sym second.1
finds-one seen (SlotRoot slot) one two first second =
    same-damage one two (one-root-damage (RootPasses (body_of slot seen)) one.kind two.kind first.1 second.1) (first.2 ∙ sym second.2)
finds-one seen (ArrayPage block entries limit) one two first second =
    same-damage one two (one-array-damage (page_of block seen) entries limit one.kind two.kind first.0 second.0) (first.1 ∙ sym second.1)
finds-one seen (BitsPage block bits) one two first second = same-damage one two (first.0.0 ∙ sym second.0.0) (first.1 ∙ sym second.1)
finds-one seen HeldRoot one two first second =
    same-damage one two (one-root-damage (HeldPasses (held_body seen)) one.kind two.kind first.0 second.0) (first.1 ∙ sym second.1)
finds-one seen (HeldSize sectors block_sectors) one two first second = first.1 ∙ sym second.1

pub first-is-one : NoneOfRoot → NoneOfHeld → (seen : List ℕ) (tests : List Test) (one two : Damage) → FindsFirst seen tests one → FindsFirst seen tests two → one ≡ two
first-is-one none held seen [] one two first second = absurd first
first-is-one none held seen (test ∷ tests) one two (inl here) (inl here') = finds-one seen test one two here here'
first-is-one none held seen (test ∷ tests) one two (inl here) (inr later) = absurd (pass-or-find none held seen test one later.0 here)
first-is-one none held seen (test ∷ tests) one two (inr later) (inl here) = absurd (pass-or-find none held seen test two later.0 here)
first-is-one none held seen (test ∷ tests) one two (inr later) (inr later') = first-is-one none held seen tests one two later.1 later'.1

pub first-or-none : NoneOfRoot → NoneOfHeld → (seen : List ℕ) (tests : List Test) (found : Damage) → FindsFirst seen tests found → PassAll seen tests → ⊥
first-or-none none held seen [] found first pass = first
first-or-none none held seen (test ∷ tests) found (inl here) pass = pass-or-find none held seen test found pass.0 here
first-or-none none held seen (test ∷ tests) found (inr later) pass = first-or-none none held seen tests found later.1 pass.1
