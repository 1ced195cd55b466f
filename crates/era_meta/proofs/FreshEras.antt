-- No block has a mark of an era that has just begun.
use Rattle.std.proofs.Common.{◌≡◌, ℕ, ◌+◌, ◌<◌, Bool, true, false, List, [], ◌∷◌, length, refl, sym, ap, ◌∙◌, subst, arith}
use Rattle.std.specs.Prelude.{max, nat_lt, if◌then◌else◌}
use Rattle.era_base.specs.Flags.{has}
use Rattle.era_base.specs.Geometry.{blocks_of}
use Rattle.era_base.specs.declared.limits.TheConstants.{MOST_SETS}
use Rattle.era_model.specs.MarkLaws.{LastsAreBounded, SwitchKeepsMarks}
use Rattle.era_model.specs.Marks.{ArchivedSet, BlockMarks, marks_last_era, no_marks, rolled, with_oldest_merged}
use Rattle.era_model.proofs.SmallOpening.{entry_of-zeros, has-none}

merged-era : (m : BlockMarks) (sets : List ArchivedSet) → (with_oldest_merged m sets).era ≡ m.era
merged-era m [] = refl
merged-era m (oldest ∷ sets) = refl

either-era : (flag : Bool) (m other : BlockMarks) → other.era ≡ m.era → (if flag then m else other).era + 1 ≡ m.era + 1
either-era true m other same = refl
either-era false m other same = ap (λ (n : ℕ). n + 1) same

pub rolled-era : (m : BlockMarks) → (rolled m).era ≡ m.era + 1
rolled-era m = either-era (nat_lt (length m.archive) MOST_SETS) m (with_oldest_merged m m.archive) (merged-era m m.archive)

-- an era switch
pub rolled-fresh : (m marks : BlockMarks) (block : ℕ) → SwitchKeepsMarks m → LastsAreBounded m → marks ≡ rolled m → marks_last_era marks block < marks.era
rolled-fresh m marks block keeps bounded is =
    let last = keeps.lasts block in
    let low = bounded.bounded block in
    subst (λ (now : BlockMarks). marks_last_era now block < now.era) (sym is) (omega (arith, last, low, rolled-era m))

-- no marks
none-last : (sectors size era block : ℕ) → marks_last_era (no_marks sectors size era) block ≡ 0
none-last sectors size era block =
    let count = blocks_of sectors size in
    ap (λ (n : ℕ). max n (max 0 (if has (no_marks sectors size era).current block then era else 0))) (entry_of-zeros count block)
    ∙ ap (λ is. max 0 (max 0 (if is then era else 0))) (has-none count block)

pub first-fresh : (sectors size : ℕ) (marks : BlockMarks) (block : ℕ) → marks ≡ no_marks sectors size 1 → marks_last_era marks block < marks.era
first-fresh sectors size marks block is =
    subst (λ (now : BlockMarks). marks_last_era now block < now.era) (sym is) (omega (arith, none-last sectors size 1 block))
