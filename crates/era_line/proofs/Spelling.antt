-- What a table line spells is one thing: each part ends at the first space behind it.
use Rattle.std.proofs.Common.{◌≡◌, ◌≢◌, ℕ, ◌+◌, ◌<◌, ◌^◌, List, [], ◌∷◌, ◌++◌, length, get_or, drop, ap, Option, Some, None, IfSome, IfNone, Bor, sym, ◌∙◌, refl, arith}
use Rattle.std.specs.Prelude.{codes, decimal}
use Rattle.std.proofs.lemmas.List.{append_cancel_left}
use Rattle.std.proofs.lemmas.List.Elements.{All-from_get_or}
use Rattle.std.proofs.lemmas.Fmt.{decimal_injective}
use Rattle.std.specs.Str.Pattern.{FindsTextPrefix}
use Rattle.std.proofs.lemmas.Str.Pattern.{IsSplitOnceResult, split_parts}
use Rattle.era_line.specs.TableLine.{HasNoSpace, IsTableLine, AtMostOneLine}
use Rattle.era_line.proofs.CutSteps.{cut_same, split_same, HasNo-decimal}

abbrev NotSpace : ℕ → Type 0
NotSpace byte = byte ≢ 32

-- no index has a space
pub none_at : (text : List ℕ) → ((i : ℕ) → i < length text → get_or text i 0 ≢ 32) → HasNoSpace text
none_at text h = All-from_get_or NotSpace text 0 h

-- a table line from each of its parts on
abbrev pub from_origin : List ℕ → ℕ → List ℕ
from_origin origin size = origin ++ 32 ∷ decimal size

abbrev pub from_meta : List ℕ → List ℕ → ℕ → List ℕ
from_meta meta origin size = meta ++ 32 ∷ from_origin origin size

abbrev pub from_era : List ℕ → List ℕ → ℕ → List ℕ
from_era meta origin size = codes "era " ++ from_meta meta origin size

abbrev pub from_length : ℕ → List ℕ → List ℕ → ℕ → List ℕ
from_length sectors meta origin size = decimal sectors ++ 32 ∷ from_era meta origin size

-- what stands behind the first sector
pub behind_zero : (text rest : List ℕ) (sectors : ℕ) (meta origin : List ℕ) (size : ℕ)
    → IsTableLine text sectors meta origin size → text ≡ codes "0 " ++ rest → rest ≡ from_length sectors meta origin size
behind_zero text rest sectors meta origin size t e =
    append_cancel_left (codes "0 ") rest (from_length sectors meta origin size) (sym e ∙ t.spelled)

-- what stands behind the length
pub behind_length : (text rest back : List ℕ) (number sectors : ℕ) (meta origin : List ℕ) (size : ℕ)
    → IsTableLine text sectors meta origin size → text ≡ codes "0 " ++ rest → rest ≡ decimal number ++ 32 ∷ back → number < 2 ^ 64
    → (decimal number ≡ decimal sectors) × (back ≡ from_era meta origin size)
behind_length text rest back number sectors meta origin size t e cut small =
    cut_same 32 rest (decimal number) (decimal sectors) back (from_era meta origin size)
    (HasNo-decimal 32 number (omega arith) small) (HasNo-decimal 32 sectors (omega arith) t.sectors_fit) cut (behind_zero text rest sectors meta origin size t e)

-- what stands behind the word
pub behind_era : (text back : List ℕ) (meta origin : List ℕ) (size : ℕ) → text ≡ from_era meta origin size
    → text ≡ codes "era " ++ back → back ≡ from_meta meta origin size
behind_era text back meta origin size e cut = append_cancel_left (codes "era ") back (from_meta meta origin size) (sym cut ∙ e)

pub behind_word : (text rest era back : List ℕ) (number sectors : ℕ) (meta origin : List ℕ) (size : ℕ)
    → IsTableLine text sectors meta origin size → text ≡ codes "0 " ++ rest → rest ≡ decimal number ++ 32 ∷ era → number < 2 ^ 64
    → era ≡ codes "era " ++ back → back ≡ from_meta meta origin size
behind_word text rest era back number sectors meta origin size t e cut small word =
    behind_era era back meta origin size (behind_length text rest era number sectors meta origin size t e cut small).1 word

-- a text is at most one table line
pub one_line : AtMostOneLine
one_line text sectors sectors' meta origin meta' origin' size size' s t =
    let first = behind_length text (from_length sectors meta origin size) (from_era meta origin size) sectors sectors'
    meta' origin' size' t s.spelled refl s.sectors_fit in
    let era = behind_era (from_era meta origin size) (from_meta meta origin size) meta' origin' size' first.1 refl in
    let second = split_same 32 meta meta' (from_origin origin size) (from_origin origin' size') s.meta_name.no_space t.meta_name.no_space era in
    let third = split_same 32 origin origin' (decimal size) (decimal size') s.origin_name.no_space t.origin_name.no_space second.1 in (
      decimal_injective sectors sectors' s.sectors_fit t.sectors_fit first.0,
      second.0,
      third.0,
      decimal_injective size size' s.block_fits t.block_fits third.1,
    )

-- what `strip_prefix` at a text leaves
pub stripped : (front text rest : List ℕ) → (k : ℕ) × FindsTextPrefix front text (Some k) × (rest ≡ drop k text) × (length rest + k ≡ length text)
    → text ≡ front ++ rest
stripped front text rest h = h.1.1 ∙ ap (λ back. front ++ back) (sym h.2)

-- what `split_once` at a space gives
pub cut_some : (text : List ℕ) (r : Option (Bor (List ℕ) × Bor (List ℕ))) → IsSplitOnceResult 32 text r
    → IfSome r (λ next. (text ≡ next.0.now ++ 32 ∷ next.1.now) × HasNoSpace next.0.now)
cut_some text None h = tt
cut_some text (Some next) h =
    let parts = split_parts 32 text (Some next) h (omega arith) in
    (parts.0, none_at next.0.now parts.1)

pub cut_none : (text : List ℕ) (r : Option (Bor (List ℕ) × Bor (List ℕ))) → IsSplitOnceResult 32 text r
    → IfNone r (HasNoSpace text)
cut_none text None h = none_at text (split_parts 32 text None h (omega arith))
cut_none text (Some next) h = tt
