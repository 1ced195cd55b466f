-- A status line is one thing: each of its parts ends at the first separator behind it.
use Rattle.std.proofs.Common.{◌≡◌, ◌≢◌, ℕ, ◌<◌, ◌^◌, List, [], ◌∷◌, ◌++◌, Option, Some, None, sym, ◌∙◌, refl, ap, subst, arith}
use Rattle.std.specs.Prelude.{codes, decimal, IfSome}
use Rattle.std.proofs.lemmas.List.{append_assoc, append_cancel_left}
use Rattle.std.proofs.lemmas.Fmt.{decimal_injective, decimal_by_steps}
use Rattle.era_model.specs.Transcript.{number_or_dash, status_text}
use Rattle.era_line.specs.Numbers.{BeginsWith, BeginsWithNo}
use Rattle.era_line.specs.StatusLine.{IsHeld, IsStatusLine, IsNoStatusLine, IsBehindUsed, AtMostOneStatus}
use Rattle.era_line.specs.Lines.{HasNo}
use Rattle.era_line.proofs.CutSteps.{begins_same, separator_within, HasNo-decimal}

-- parts with separators between them, from the first one on
regroup : (a b c d e f g h : List ℕ) → ((((((a ++ b) ++ c) ++ d) ++ e) ++ f) ++ g) ++ h ≡ a ++ (b ++ (c ++ (d ++ (e ++ (f ++ (g ++ h))))))
regroup a b c d e f g h = simp append_assoc

-- a status line from the used blocks on
abbrev pub from_era : ℕ → Option ℕ → List ℕ
from_era era held = decimal era ++ 32 ∷ number_or_dash held

abbrev pub from_total : ℕ → ℕ → Option ℕ → List ℕ
from_total total era held = decimal total ++ 32 ∷ from_era era held

abbrev pub from_used : ℕ → ℕ → ℕ → Option ℕ → List ℕ
from_used used total era held = decimal used ++ 47 ∷ from_total total era held

pub status_from_used : (used total era : ℕ) (held : Option ℕ) → status_text used total era held ≡ codes "8 " ++ from_used used total era held
status_from_used used total era held =
    regroup (codes "8 ") (decimal used) (codes "/") (decimal total) (codes " ") (decimal era) (codes " ") (number_or_dash held)

-- what stands behind the count of all blocks
pub behind_total : (text rest : List ℕ) (number total era : ℕ) (held : Option ℕ) → BeginsWith (2 ^ 64) 32 text number rest
    → IsBehindUsed text total era held → rest ≡ from_era era held
behind_total text rest number total era held begins is =
    (begins_same (2 ^ 64) 32 text number total rest (from_era era held) (omega arith) (omega arith) begins is.spelled is.total_fits).1

-- what stands behind the era
pub behind_era : (text rest : List ℕ) (number era : ℕ) (held : Option ℕ) → BeginsWith (2 ^ 32) 32 text number rest → text ≡ from_era era held
    → era < 2 ^ 32 → rest ≡ number_or_dash held
behind_era text rest number era held begins is fits =
    (begins_same (2 ^ 32) 32 text number era rest (number_or_dash held) (omega arith) (omega arith) begins is (omega arith)).1

-- no era
pub no_era : (text rest : List ℕ) (number : ℕ) → BeginsWith (2 ^ 64) 32 text number rest → BeginsWithNo (2 ^ 32) 32 rest
    → (total era : ℕ) (held : Option ℕ) → IsBehindUsed text total era held → ⊥
no_era text rest number begins none total era held is =
    none era (number_or_dash held) (record { spelled = behind_total text rest number total era held begins is; fits = is.era_fits })

-- neither a block nor a dash
pub no_held : (text rest back : List ℕ) (number other : ℕ) → BeginsWith (2 ^ 64) 32 text number rest → BeginsWith (2 ^ 32) 32 rest other back
    → ((held : Option ℕ) → IsHeld back held → ⊥) → (total era : ℕ) (held : Option ℕ) → IsBehindUsed text total era held → ⊥
no_held text rest back number other begins more none total era held is =
    none held (record {
      spelled = behind_era rest back other era held more (behind_total text rest number total era held begins is) is.era_fits;
      fits = is.held_fits;
    })

-- no more behind the used blocks
pub no_behind_used : (text rest back : List ℕ) (number : ℕ) → text ≡ codes "8 " ++ rest → BeginsWith (2 ^ 32) 47 rest number back
    → ((total era : ℕ) (held : Option ℕ) → IsBehindUsed back total era held → ⊥) → IsNoStatusLine text
no_behind_used text rest back number cut begins none used total era held is =
    let small = is.used_fits in
    let whole : rest ≡ from_used used total era held =
    append_cancel_left (codes "8 ") rest (from_used used total era held) (sym cut ∙ is.spelled ∙ status_from_used used total era held) in
    none total era held (record {
      spelled = (begins_same (2 ^ 32) 47 rest number used back (from_total total era held) (omega arith) (omega arith) begins whole (omega arith)).1;
      total_fits = is.total_fits;
      era_fits = is.era_fits;
      held_fits = is.held_fits;
    })

-- a dash is no decimal
dash_apart : (n : ℕ) → n < 2 ^ 64 → codes "-" ≢ decimal n
dash_apart n small same = separator_within 45 [] [] (subst (λ (word : List ℕ). HasNo 45 word) (sym same) (HasNo-decimal 45 n (omega arith) small))

-- a text is one block, or a dash
held_same : (one other : Option ℕ) → IfSome one (λ block. block < 2 ^ 32) → IfSome other (λ block. block < 2 ^ 32)
    → number_or_dash one ≡ number_or_dash other → one ≡ other
held_same None None fits small same = refl
held_same None (Some n) fits small same = absurd (dash_apart n (omega (arith, small)) same)
held_same (Some n) None fits small same = absurd (dash_apart n (omega (arith, fits)) (sym same))
held_same (Some n) (Some m) fits small same = ap (λ block. Some block) (decimal_injective n m (omega (arith, fits)) (omega (arith, small)) same)

-- a text is at most one status line
pub one_status : AtMostOneStatus
one_status text used total era used' total' era' held held' s t =
    let whole : from_used used total era held ≡ from_used used' total' era' held' =
    append_cancel_left (codes "8 ") (from_used used total era held) (from_used used' total' era' held')
    (sym (status_from_used used total era held) ∙ sym s.spelled ∙ t.spelled ∙ status_from_used used' total' era' held') in
    let fits = t.used_fits in
    let small = t.era_fits in
    let first = begins_same (2 ^ 32) 47 (from_used used total era held) used used' (from_total total era held) (from_total total' era' held')
    (omega arith) (omega arith) (record { spelled = refl; fits = s.used_fits }) whole (omega arith) in
    let second = begins_same (2 ^ 64) 32 (from_total total era held) total total' (from_era era held) (from_era era' held')
    (omega arith) (omega arith) (record { spelled = refl; fits = s.total_fits }) first.1 t.total_fits in
    let third = begins_same (2 ^ 32) 32 (from_era era held) era era' (number_or_dash held) (number_or_dash held')
    (omega arith) (omega arith) (record { spelled = refl; fits = s.era_fits }) second.1 (omega arith) in
    (first.0, second.0, third.0, held_same held held' s.held_fits t.held_fits third.1)
