-- A reader inside the first line of a text.
use Rattle.std.proofs.Common.{◌≡◌, ◌≢◌, ℕ, ◌<◌, ◌≤◌, List, [], ◌∷◌, ◌++◌, length, Option, Some, sym, ◌∙◌, refl, ap, subst, arith, rules, tests, ⊎_elim, Bool, true, false}
use Rattle.std.specs.Prelude.{IsTrue, ◌↔◌}
use Rattle.std.proofs.lemmas.List.{append_assoc, append-nil, length-append}
use Rattle.std.proofs.lemmas.List.Elements.{All-append, All-nil, All-head, All-tail}
use Rattle.era_line.specs.Lines.{HasNo, lines_of}
use Rattle.era_line.specs.Reading.{Gives, IsAhead, ReadsLine, BeginsLong, FailsInside, IsEnough, LeavesRest}
use Rattle.era_line.specs.declared.next.ReadError.{ReadError}
use Rattle.era_line.specs.declared.next.ReadError.TheVariants.{Source, Memory}
use Rattle.era_line.specs.declared.next.Next.{Next}
use Rattle.era_line.specs.declared.next.Next.TheVariants.{Line, Long, End}
use Rattle.era_line.specs.Moving.{EndsLine, ExceedsLine, TakesAll, Fills, IsLast}
use Rattle.era_line.proofs.Lines.{lines_of-ended, lines_of-last, BeginsLong-front}

abbrev NotLf : ℕ → Type 0
NotLf byte = byte ≢ 10

-- these bytes of the first line were read, and the rest of the text is ahead
pub record IsInside (text line taken : List ℕ) (left : Option (List ℕ)) : Type 0 where
  pub rest : List ℕ
  pub ahead : IsAhead taken left rest
  pub joined : line ++ rest ≡ text
  pub inside : HasNo 10 line

-- nothing was read
pub IsInside-start : (text taken : List ℕ) (left : Option (List ℕ)) → IsAhead taken left text → IsInside text [] taken left
IsInside-start text taken left ahead = record { rest = text; ahead = ahead; joined = refl; inside = All-nil NotLf }

-- the line has ended
pub ReadsLine-ended : (text line taken line' taken' : List ℕ) (left : Option (List ℕ)) → IsInside text line taken left → EndsLine line taken line' taken'
    → ReadsLine text line' taken' left
ReadsLine-ended text line taken line' taken' left here ends =
    let front = ends.part in
    let back = here.ahead.rest in
    let whole : (line ++ front) ++ 10 ∷ (taken' ++ back) ≡ text =
    append_assoc line front (10 ∷ (taken' ++ back))
    ∙ ap (λ l. line ++ l) (sym (append_assoc front (10 ∷ taken') back))
    ∙ ap (λ l. line ++ (l ++ back)) (sym ends.cut.joined)
    ∙ ap (λ l. line ++ l) here.ahead.joined
    ∙ here.joined in
    record {
      rest = taken' ++ back;
      ahead = record { rest = back; told = here.ahead.told; joined = refl };
      first = ap lines_of (sym whole)
          ∙ lines_of-ended (line ++ front) (taken' ++ back) (All-append NotLf line front here.inside ends.cut.first)
          ∙ ap (λ l. l ∷ lines_of (taken' ++ back)) (sym ends.joined);
    }

-- the line is too long
pub BeginsLong-exceeds : (most : ℕ) (text line taken : List ℕ) (left : Option (List ℕ)) → IsInside text line taken left → ExceedsLine most line taken → BeginsLong most text
BeginsLong-exceeds most text line taken left here exceeds =
    let front = exceeds.part in
    let back = exceeds.rest ++ here.ahead.rest in
    let whole : (line ++ front) ++ back ≡ text =
    append_assoc line front back
    ∙ ap (λ l. line ++ l) (sym (append_assoc front exceeds.rest here.ahead.rest))
    ∙ ap (λ l. line ++ (l ++ here.ahead.rest)) (sym exceeds.joined)
    ∙ ap (λ l. line ++ l) here.ahead.joined
    ∙ here.joined in
    let size = length-append line front in
    subst (λ all. BeginsLong most all) whole
    (BeginsLong-front most (line ++ front) back (All-append NotLf line front here.inside exceeds.inside) (omega (arith, exceeds.long)))

-- all that was taken belongs to the line
pub IsInside-all : (text line taken line' taken' : List ℕ) (left : Option (List ℕ)) → IsInside text line taken left → TakesAll line taken line' taken'
    → IsInside text line' taken' left
IsInside-all text line taken line' taken' left here all =
    record {
      rest = here.ahead.rest;
      ahead = record { rest = here.ahead.rest; told = here.ahead.told; joined = ap (λ l. l ++ here.ahead.rest) all.empty };
      joined = ap (λ l. l ++ here.ahead.rest) all.joined ∙ append_assoc line taken here.ahead.rest
          ∙ ap (λ l. line ++ l) here.ahead.joined ∙ here.joined;
      inside = subst (λ l. HasNo 10 l) (sym all.joined) (All-append NotLf line taken here.inside all.inside);
    }

-- where nothing is held, what the source has left is what is ahead
pub left_inside : (text line taken : List ℕ) (left : Option (List ℕ)) (here : IsInside text line taken left) → taken ≡ [] → left ≡ Some here.rest
left_inside text line taken left here none =
    here.ahead.told ∙ ap (λ l. Some l) (ap (λ front. front ++ here.ahead.rest) (sym none) ∙ here.ahead.joined)

-- more was taken
pub IsInside-filled : (text line taken : List ℕ) (left : Option (List ℕ)) (rest : List ℕ) → line ++ rest ≡ text → HasNo 10 line → Fills rest taken left
    → IsInside text line taken left
IsInside-filled text line taken left rest joined inside fills =
    record { rest = rest; ahead = fills.ahead; joined = joined; inside = inside }

-- the source failed
pub FailsInside-failed : (most : ℕ) (text line rest : List ℕ) (left : Option (List ℕ)) (error : ReadError) → line ++ rest ≡ text → HasNo 10 line
    → left ≡ Some rest → length line ≤ most → FailsInside most text left error
FailsInside-failed most text line rest left (Source count) joined inside told short =
    record { front = line; rest = rest; told = told; joined = joined; inside = inside; short = short }
FailsInside-failed most text line rest left Memory joined inside told short = tt

-- a source leaves a rest of what it had left
pub LeavesRest-none : (left : Option (List ℕ)) → LeavesRest left left
LeavesRest-none left = λ bytes told. record { front = []; rest = bytes; told = told; joined = refl }

pub LeavesRest-kept : (before left left' : Option (List ℕ)) → LeavesRest before left → ((text : List ℕ) → left ≡ Some text → left' ≡ Some text)
    → LeavesRest before left'
LeavesRest-kept before left left' leaves kept = λ bytes told.
    let rest = leaves bytes told in
    record { front = rest.front; rest = rest.rest; told = kept rest.rest rest.told; joined = rest.joined }

pub LeavesRest-filled : (before left left' : Option (List ℕ)) (taken : List ℕ) → LeavesRest before left
    → ((text : List ℕ) → left ≡ Some text → Fills text taken left') → LeavesRest before left'
LeavesRest-filled before left left' taken leaves fills = λ bytes told.
    let rest = leaves bytes told in
    let more = (fills rest.rest rest.told).ahead in
    record {
      front = rest.front ++ taken;
      rest = more.rest;
      told = more.told;
      joined = append_assoc rest.front taken more.rest ∙ ap (λ back. rest.front ++ back) more.joined ∙ rest.joined;
    }

-- a text with an LF has one
lf_within : (front back : List ℕ) → HasNo 10 (front ++ 10 ∷ back) → ⊥
lf_within [] back h = All-head NotLf 10 back h refl
lf_within (byte ∷ front) back h = lf_within front back (All-tail NotLf byte (front ++ 10 ∷ back) h)

-- where all that was taken belongs to a line that was empty, and isn't too long, it didn't tell the line
pub not_enough : (most : ℕ) (first taken line line' taken' : List ℕ) → IsEnough most first → taken ≡ first → line ≡ [] → TakesAll line taken line' taken'
    → length line' ≤ most → ⊥
not_enough most first taken line line' taken' enough same empty all short =
    ⊎_elim
    (λ cut. lf_within cut.0 cut.1 (subst (λ l. HasNo 10 l) (same ∙ cut.2.joined) all.inside))
    (λ long. let size = ap length (all.joined ∙ ap (λ front. front ++ taken) empty ∙ same) in omega arith)
    enough

-- nothing was taken
pub none_taken : (taken : List ℕ) (some : Bool) → (IsTrue some ↔ (0 < length taken)) → some ≡ false → taken ≡ []
none_taken [] some is e = refl
none_taken (byte ∷ taken) true is e = absurd (cc)
none_taken (byte ∷ taken) false is e = let yes : IsTrue false = is.1 (omega arith) in absurd (search (rules, tests))

-- the text has ended, with a line or without one
pub Gives-last : (most : ℕ) (text line taken : List ℕ) (left : Option (List ℕ)) (next : Next) (rest : List ℕ) → line ++ rest ≡ text → HasNo 10 line
    → Fills rest taken left → taken ≡ [] → IsLast line next → Gives most text line taken left next
Gives-last most text line taken left Line rest joined inside fills empty last =
    let none = fills.none empty in
    let whole : line ≡ text = sym (append-nil line) ∙ ap (λ back. line ++ back) (sym none) ∙ joined in
    record {
      rest = [];
      ahead = subst (λ l. IsAhead taken left l) none fills.ahead;
      first = ap lines_of (sym whole) ∙ lines_of-last line inside last;
    }
Gives-last most text line taken left Long rest joined inside fills empty last = absurd last
Gives-last most text line taken left End rest joined inside fills empty last = (
  sym joined ∙ ap (λ front. front ++ rest) last ∙ fills.none empty,
  subst (λ l. IsAhead taken left l) (fills.none empty) fills.ahead,
)
