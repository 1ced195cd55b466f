-- A core at the opening of its first session.
use Rattle.std.proofs.Common.{◌≡◌, ℕ, zero, suc, ◌≤◌, List, [], ◌∷◌, length, refl, lit<, arith, Option, Some, None, IfSome, sym}
use Rattle.std.specs.Prelude.{Any}
use Rattle.era_model.specs.declared.history.Happening.{Happening}
use Rattle.era_model.specs.declared.history.Happening.TheVariants.{Opened}
use Rattle.era_model.specs.declared.opening.Opening.{Opening}
use Rattle.era_model.specs.Marks.{BlockMarks}
use Rattle.era_model.specs.Validity.{IsValidSnapshot}
use Rattle.era_core.specs.KeptState.{KeepsUp}
use Rattle.era_core.specs.Present.{HaveContents, HavePast, HaveStripes}

-- the marks of the opening are the only ones
first-past : (h : List Happening) (opening : Opening) → HavePast (Opened opening ∷ h) (opening.marks ∷ [])
first-past h opening m = (λ same. (0, opening.marks, lit< tt, refl, sym same), λ any. only any)
  where
    only : Any (λ were. were ≡ m) (opening.marks ∷ []) → m ≡ opening.marks
    only (zero, x, lt, at, is) = cc
    only (suc k, x, lt, at, is) = absurd (omega arith)

-- a snapshot that is valid has few sets
pub few_held : (held : Option BlockMarks) → IsValidSnapshot held → IfSome held (λ m. length m.archive ≤ 16)
few_held None valid = tt
few_held (Some m) valid = valid.few_sets

-- all of it is as the history says
pub keeps-first : (h : List Happening) (opening : Opening) (contents : List (List ℕ)) → 1 ≤ opening.stripes → HaveStripes h → length opening.marks.archive ≤ 16
    → IfSome opening.held (λ m. length m.archive ≤ 16) → HaveContents (Opened opening ∷ []) contents
    → KeepsUp (Opened opening ∷ h) [] contents opening.marks (opening.marks ∷ []) opening.held
keeps-first h opening contents some have_stripes few few_in_held have = record {
  stripes = (some, have_stripes);
  flight = refl;
  content = record { size = have.size; blocks = have.blocks };
  marking = refl;
  earlier = first-past h opening;
  snapshot = refl;
  few_sets = few;
  few_held = few_in_held;
}
