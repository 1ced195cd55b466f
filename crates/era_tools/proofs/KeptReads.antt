-- A device that was lent, only read, and put back reads as before.
use Rattle.std.proofs.Common.{◌≡◌, ℕ, ◌+◌, ◌*◌, ◌<◌, ◌≤◌, ◌⊎◌, Bool, true, false, List, refl, ap, sym, ◌∙◌, subst, arith, inl, inr}
use Rattle.std.specs.Prelude.{Option, Some, bytes_eq}
use Rattle.std.proofs.lemmas.Bool.{cases_lt}
use Rattle.std.proofs.lemmas.List.{ext_get_or}
use Rattle.std.proofs.lemmas.Slice.Eq.{bytes_eq-Decides}
use Rattle.era_base.specs.Bay.{NowReadsAs, ReadsAs, SameReads, SameReadsBut}
use Rattle.era_base.specs.Bytes.{part}
use Rattle.era_base.specs.CrashModel.{History, State, SameBut, Went}
use Rattle.era_base.proofs.Moments.{went-now}
use Rattle.era_tools.specs.Around.{KeepsReads}

-- nothing has changed of what is read
seen-same : (before now : State) → SameBut 0 0 before now → now.seen ≡ before.seen
seen-same before now same = ext_get_or 0 now.seen before.seen same.bytes (λ i lt. same.seen i (λ above. above))

pub seen-went : (old new : History) → Went (SameBut 0 0) old new → new.now.seen ≡ old.now.seen
seen-went old new went = seen-same old.now new.now (went-now (SameBut 0 0) old new went)

-- a name is another one, or it isn't
cases_name : (one other : List ℕ) → (one ≡ other) ⊎ (one ≡ other → ⊥)
cases_name one other = go (bytes_eq one other) refl
  where
    go : (b : Bool) → bytes_eq one other ≡ b → (one ≡ other) ⊎ (one ≡ other → ⊥)
    go true is = inl ((bytes_eq-Decides one other).0 is)
    go false is = inr (λ same. let yes = (bytes_eq-Decides one other).1 same in cc)

-- a sector lies in what was lent, or it doesn't
cases_lent : (name : List ℕ) (sectors : ℕ) (device : List ℕ) (sector : ℕ) → ((device ≡ name) × (sector < sectors)) ⊎ (device ≡ name → 0 ≤ sector → 0 + sectors ≤ sector)
cases_lent name sectors device sector = elim (cases_name device name) [
  | inl same ↦ elim (cases_lt sector sectors) [
    | inl less ↦ inl (same, less)
    | inr more ↦ inr (λ is above. omega (arith, more))
  ]
  | inr other ↦ inr (λ is. absurd (other is))
]

pub keeps-reads : (name : List ℕ) (sectors : ℕ) (first mid last : List ℕ → ℕ → Option (List ℕ)) (lent back : State)
    → SameReads first mid → ReadsAs first name 0 sectors lent → back.seen ≡ lent.seen → NowReadsAs last name 0 sectors back → SameReadsBut name 0 sectors mid last
    → KeepsReads first last
keeps-reads name sectors first mid last lent back same reads seen now others = λ device sector bytes told.
    elim (cases_lent name sectors device sector) [
      | inl within ↦
          let from : sector ≡ 0 + sector = omega arith in
          let here : first name (0 + sector) ≡ Some bytes = subst (λ (n : ℕ). first name n ≡ Some bytes) from (subst (λ d. first d sector ≡ Some bytes) within.0 told) in
          let was : part (sector * 512) 512 lent.seen ≡ bytes = reads sector within.1 bytes here in
          subst (λ d. last d sector ≡ Some bytes) (sym within.0)
          (subst (λ (n : ℕ). last name n ≡ Some (part (sector * 512) 512 back.seen)) (sym from) (now sector within.1) ∙ ap (λ s. Some (part (sector * 512) 512 s)) seen ∙ ap (λ b. Some b) was)
      | inr outside ↦ others device sector outside ∙ same device sector ∙ told
    ]

-- and another device too
pub others-kept : (name : List ℕ) (sectors : ℕ) (first mid last : List ℕ → ℕ → Option (List ℕ)) → SameReads first mid → SameReadsBut name 0 sectors mid last → SameReadsBut name 0 sectors first last
others-kept name sectors first mid last same others = λ device sector out. others device sector out ∙ same device sector
