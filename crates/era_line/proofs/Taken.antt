-- The bytes that a reader holds of its buffer, as they are moved and taken anew.
use Rattle.std.proofs.Common.{◌≡◌, ℕ, zero, suc, ◌+◌, ◌-◌, ◌<◌, ◌≤◌, List, ◌∷◌, ◌++◌, length, take, drop, length-drop, Option, sym, ◌∙◌, refl, ap, arith}
use Rattle.std.specs.Prelude.{slice_range}
use Rattle.std.proofs.lemmas.List.{drop-take, length-append, length-take, drop-drop, take-append-drop, nil_from_length, append-nil, take_all}
use Rattle.std.proofs.Math.Seq.{drop-append-add}
use Rattle.std.proofs.Math.ListN.{drop_of_length-le}
use Rattle.era_base.specs.Streams.{Takes}
use Rattle.era_line.specs.Cuts.{IsCut}
use Rattle.era_line.specs.Moving.{EndsLine, Fills}

-- what a piece holds behind its first LF
behind_lf : (items : List ℕ) (start end : ℕ) (front rest : List ℕ) → end ≤ length items
    → slice_range items start end ≡ front ++ 10 ∷ rest → slice_range items (start + (length front + 1)) end ≡ rest
behind_lf items start end front rest within held =
    let size = ap length held in
    let part = length-take (end - start) (drop start items) in
    let whole = length-append front (10 ∷ rest) in
    let after : end - start ≡ (length front + 1) + (end - (start + (length front + 1))) = omega (arith, length-drop start items) in
    ap (take (end - (start + (length front + 1)))) (sym (drop-drop (length front + 1) start items))
    ∙ sym (drop-take (length front + 1) (end - (start + (length front + 1))) (drop start items))
    ∙ ap (λ count. drop (length front + 1) (take count (drop start items))) (sym after)
    ∙ ap (drop (length front + 1)) held
    ∙ drop-append-add front (10 ∷ rest) 1

pub EndsLine-cut : (items : List ℕ) (start end count : ℕ) (line line' held taken front rest : List ℕ) → end ≤ length items
    → slice_range items start end ≡ held → taken ≡ held → count ≡ length front → IsCut 10 taken front rest → line' ≡ line ++ front
    → EndsLine line held line' (slice_range items (start + (count + 1)) end)
EndsLine-cut items start end count line line' held taken front rest within view same counted cut joined =
    let whole : slice_range items start end ≡ front ++ 10 ∷ rest = view ∙ sym same ∙ cut.joined in
    let left = behind_lf items start end front rest within whole in
    record {
      part = front;
      cut = record {
        joined = rw counted (sym same ∙ cut.joined ∙ ap (λ back. front ++ 10 ∷ back) (sym left));
        first = cut.first;
      };
      joined = joined;
    }

-- what stands in a buffer that was written whole
pub written_back : (new old : List ℕ) (len : ℕ) → length new ≡ len → length old ≡ len → take len (new ++ drop (length new) old) ≡ new
written_back new old len a b =
    ap (λ back. take len (new ++ back)) (drop_of_length-le old {i = length new} (omega arith))
    ∙ ap (take len) (append-nil new) ∙ take_all len new (omega arith)

-- where none was taken though there was room, none was left
none_left : (left count : ℕ) → count ≡ 0 → (0 < left → 0 < count) → left ≡ 0
none_left zero count none some = refl
none_left (suc left) count none some = let one : 0 < count = some (omega arith) in absurd (omega arith)

-- a take makes its bytes the ones that are ahead
pub Fills-taken : (text buffer : List ℕ) (left : Option (List ℕ)) (count : ℕ) → 0 < length buffer → Takes text left buffer count
    → Fills text (slice_range buffer 0 count) left
Fills-taken text buffer left count room takes =
    let same : take (count - 0) buffer ≡ take count buffer = ap (λ n. take n buffer) (omega arith) in
    record {
      ahead = record {
        rest = drop count text;
        told = takes.rest;
        joined = ap (λ front. front ++ drop count text) (same ∙ takes.taken) ∙ take-append-drop count text;
      };
      none = λ empty. nil_from_length text (none_left (length text) count
          (let size = length-take count buffer in let nothing = ap length (sym same ∙ empty) in omega (arith, takes.fits)) (takes.some room));
    }
