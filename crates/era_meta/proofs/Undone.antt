-- A mark that is undone, and marks that are as far ahead of what is stored as they were.
use Rattle.std.proofs.Common.{◌≡◌, ℕ, Bool, true, false, List, sym, ap, ◌∙◌, subst}
use Rattle.std.specs.Prelude.{slice_set}
use Rattle.std.proofs.lemmas.List.{set-set, set-get_or}
use Rattle.era_base.specs.Flags.{has}
use Rattle.era_model.specs.Marks.{BlockMarks, with_block}
use Rattle.era_meta.specs.InMemory.{IsAheadOf}

abbrev pub with_flag : BlockMarks → ℕ → Bool → BlockMarks
with_flag m block flag = record m { current = slice_set m.current block flag }

mark-undone : (m : BlockMarks) (block : ℕ) → with_flag (with_block m block) block (has m.current block) ≡ m
mark-undone m block =
    ap (λ (flags : List Bool). record m { current = flags })
    (set-set m.current block true (has m.current block) ∙ set-get_or m.current block false)

pub restored : (m marked now : BlockMarks) (block : ℕ) (flag : Bool) → flag ≡ has m.current block → marked ≡ with_block m block
    → now ≡ with_flag marked block flag → now ≡ m
restored m marked now block flag was mark is =
    is ∙ (ap (λ (n : BlockMarks). with_flag n block flag) mark ∙ (ap (with_flag (with_block m block) block) was ∙ mark-undone m block))

pub ahead-same : (flag flag' : Bool) (marks marks' stored stored' : BlockMarks) → flag' ≡ flag → marks' ≡ marks → stored' ≡ stored
    → IsAheadOf flag marks stored → IsAheadOf flag' marks' stored'
ahead-same flag flag' marks marks' stored stored' one two three holds =
    subst (λ (f : Bool). IsAheadOf f marks' stored') (sym one)
    (subst (λ (m : BlockMarks). IsAheadOf flag m stored') (sym two) (subst (λ (m : BlockMarks). IsAheadOf flag marks m) (sym three) holds))
