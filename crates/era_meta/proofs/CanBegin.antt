-- Why no era begins: another geometry, the last era, and the last numbers.
use Rattle.std.proofs.Common.{◌≡◌, ℕ, ◌^◌, ◌<◌, ◌≤◌, List, refl, sym, ap, ◌∙◌, subst, arith, inl, inr}
use Rattle.era_base.specs.declared.geometry.Geometry.{Geometry}
use Rattle.era_base.specs.declared.limits.TheConstants.{LAST_ERA}
use Rattle.era_layout.specs.Root.{RootFields}
use Rattle.era_slots.specs.Slot.{commit_number}
use Rattle.era_meta.specs.declared.refusal.MetaError.TheVariants.{WrongGeometry, EraEnd, SequenceEnd}
use Rattle.era_meta.specs.Damage.{HasSize, newest_slot, root_in}
use Rattle.era_meta.specs.Trials.{HoldAll, EndsOpening, begin_trials}

pub other-geometry : (have : ℕ) (seen : List ℕ) (kept asked : Geometry) (root : RootFields) → root_in seen ≡ root → HasSize root kept.sectors kept.block_sectors
    → ¬ HasSize root asked.sectors asked.block_sectors → EndsOpening have seen (begin_trials asked) 0 (WrongGeometry kept asked)
other-geometry have seen kept asked root is own differs = inl (
  (λ size. differs (subst (λ (r : RootFields). HasSize r asked.sectors asked.block_sectors) is size)),
  (kept, subst (λ (r : RootFields). HasSize r kept.sectors kept.block_sectors) (sym is) own, refl),
)

pub last-era : (have era : ℕ) (seen : List ℕ) (asked : Geometry) (root : RootFields) → root_in seen ≡ root → HasSize root asked.sectors asked.block_sectors
    → (root_in seen).era ≡ era → era ≡ LAST_ERA → EndsOpening have seen (begin_trials asked) 0 EraEnd
last-era have era seen asked root is same own last =
    inr (subst (λ (r : RootFields). HasSize r asked.sectors asked.block_sectors) (sym is) same, inl (own ∙ last, refl))

pub last-numbers : (have era number : ℕ) (seen : List ℕ) (asked : Geometry) (root : RootFields) → root_in seen ≡ root → HasSize root asked.sectors asked.block_sectors
    → (root_in seen).era ≡ era → era < LAST_ERA → commit_number (newest_slot seen) seen ≡ number → 2 ^ 62 ≤ number
    → EndsOpening have seen (begin_trials asked) 0 (SequenceEnd number)
last-numbers have era number seen asked root is same own below numbered great =
    inr (
      subst (λ (r : RootFields). HasSize r asked.sectors asked.block_sectors) (sym is) same,
      inr (
        (λ last. let e : era ≡ LAST_ERA = sym own ∙ last in omega arith),
        inl (subst (λ (n : ℕ). 2 ^ 62 ≤ n) (sym numbered) great, ap SequenceEnd (sym numbered)),
      ),
    )

pub era-may-begin : (have era number : ℕ) (seen : List ℕ) (asked : Geometry) (root : RootFields) → root_in seen ≡ root → HasSize root asked.sectors asked.block_sectors
    → (root_in seen).era ≡ era → era < LAST_ERA → commit_number (newest_slot seen) seen ≡ number → number < 2 ^ 62 → HoldAll have seen (begin_trials asked)
era-may-begin have era number seen asked root is same own below numbered few = (
  subst (λ (r : RootFields). HasSize r asked.sectors asked.block_sectors) (sym is) same,
  (
    (λ last. let e : era ≡ LAST_ERA = sym own ∙ last in omega arith),
    (subst (λ (n : ℕ). n < 2 ^ 62) (sym numbered) few, tt),
  ),
)
