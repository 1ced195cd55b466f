-- The first kind of damage, and what a decoder answers where its test of the bytes answered so.
use Rattle.std.proofs.Common.{◌≡◌, ◌≢◌, ◌↔◌, ◌∙◌, ℕ, List, [], ◌∷◌, Result, Ok, Err, sym, ap, subst, inl, inr}
use Rattle.std.specs.Prelude.{OnOk, IfOk, IfErr, IsErrOf, MatchResult}
use Rattle.era_base.specs.declared.geometry.Geometry.{Geometry}
use Rattle.era_layout.specs.declared.root.Root.{Root}
use Rattle.era_layout.specs.declared.damage.RootError.{RootError}
use Rattle.era_layout.specs.declared.damage.RootError.TheVariants.{Memory}
use Rattle.era_layout.specs.Root.{RootFields, fields_of}
use Rattle.era_layout.specs.Damage.{fields_at, root_kinds, IsFirstOf, NoneAppliesOf}

-- where no kind applies, none is the first one
pub not_first : (Test : RootError → Type 0) (kind : RootError) (kinds : List RootError) → NoneAppliesOf Test kinds → IsFirstOf Test kinds kind → ⊥
not_first Test kind [] none first = first
not_first Test kind (other ∷ kinds) none (inl here) = here.1 none.0
not_first Test kind (other ∷ kinds) none (inr later) = not_first Test kind kinds none.1 later.1

-- two first kinds are one
one_first : (Test : RootError → Type 0) (one other : RootError) (kinds : List RootError) → IsFirstOf Test kinds one → IsFirstOf Test kinds other → one ≡ other
one_first Test one other [] first first' = absurd first
one_first Test one other (kind ∷ kinds) (inl here) (inl here') = sym here.0 ∙ here'.0
one_first Test one other (kind ∷ kinds) (inl here) (inr later) = absurd (here.1 later.0)
one_first Test one other (kind ∷ kinds) (inr later) (inl here) = absurd (here.1 later.0)
one_first Test one other (kind ∷ kinds) (inr later) (inr later') = one_first Test one other kinds later.1 later'.1

-- the error in an answer
abbrev error_or : RootError → Result Root RootError → RootError
error_or none (Ok root) = none
error_or none (Err error) = error

abbrev err_of : RootError → Result Root RootError
err_of kind = Err kind

-- bytes were tested, and read where the test found nothing
pub record Decoded (bytes : List ℕ) (Test : RootError → Type 0) (tested : Result Geometry RootError) (result : Result Root RootError) : Type 0 where
  pub none : OnOk tested (NoneAppliesOf Test root_kinds)
  pub first : IfErr tested (IsFirstOf Test root_kinds)
  pub read : MatchResult tested (λ _. MatchResult result (λ root. fields_of root ≡ fields_at bytes) (λ error. error ≡ Memory)) (λ kind. result ≡ Err kind)

-- what is decoded has what follows from no kind's applying
pub decoded_has : (bytes : List ℕ) (Test : RootError → Type 0) (P : RootFields → Type 0) (tested : Result Geometry RootError) (result : Result Root RootError)
    → (NoneAppliesOf Test root_kinds → P (fields_at bytes)) → Decoded bytes Test tested result → IfOk result (λ root. P (fields_of root))
decoded_has bytes Test P (Ok geometry) (Ok root) follows d = subst P (sym d.read) (follows d.none)
decoded_has bytes Test P (Err kind) (Ok root) follows d = cc d.read
decoded_has bytes Test P tested (Err error) follows d = tt

-- a root to which no kind applies is decoded
pub decoded_is : (bytes : List ℕ) (Test : RootError → Type 0) (root : RootFields) (tested : Result Geometry RootError) (result : Result Root RootError)
    → NoneAppliesOf Test root_kinds → fields_at bytes ≡ root → Decoded bytes Test tested result → MatchResult result (λ found. fields_of found ≡ root) (λ error. error ≡ Memory)
decoded_is bytes Test root (Ok geometry) (Ok found) none same d = d.read ∙ same
decoded_is bytes Test root (Ok geometry) (Err error) none same d = d.read
decoded_is bytes Test root (Err kind) result none same d = absurd (not_first Test kind root_kinds none d.first)

-- a kind of damage is answered exactly where it is the first one
pub refused_by : (bytes : List ℕ) (Test : RootError → Type 0) (tested : Result Geometry RootError) (result : Result Root RootError)
    → Decoded bytes Test tested result → (kind : RootError) → kind ≢ Memory → IsErrOf result kind ↔ IsFirstOf Test root_kinds kind
refused_by bytes Test (Err found) result d kind damage = (
  λ told. subst (λ (k : RootError). IsFirstOf Test root_kinds k) (ap (error_or Memory) (sym d.read ∙ told)) d.first,
  λ first. d.read ∙ ap err_of (one_first Test found kind root_kinds d.first first),
)
refused_by bytes Test (Ok geometry) (Ok root) d kind damage = (λ told. cc told, λ first. absurd (not_first Test kind root_kinds d.none first))
refused_by bytes Test (Ok geometry) (Err error) d kind damage = (
  λ told. absurd (damage (sym (ap (error_or Memory) told) ∙ d.read)),
  λ first. absurd (not_first Test kind root_kinds d.none first),
)
