-- Text that is gathered in a buffer and given in pieces.
use Rattle.std.proofs.Common.{◌≡◌, ℕ, ◌+◌, List, [], ◌++◌, length, take, drop, ap, sym, ◌∙◌, subst, append_assoc, length-append, arith}
use Rattle.std.specs.Prelude.{Option, Some, Result, Ok, Err, MatchResult}
use Rattle.std.proofs.Math.Seq.{take-append-add}
use Rattle.std.proofs.lemmas.List.{take-append-drop, take-append-le, append-nil, length-drop, drop_all}
use borrow.Rule.Slice.PartMut.{put_mid}
use Rattle.era_base.specs.Streams.{GivesFront, GivesTo}
use Rattle.era_line.specs.declared.text_buffer.TextBuffer.{TextBuffer}
use Rattle.era_line.specs.TextBuffer.{Gathers, IsEmpty, held_by}

-- What was given, a piece of what is held and more bytes, is the text and these bytes.
whole : (before text bytes piece : List ℕ) (given : Option (List ℕ)) (buffer : TextBuffer) (was : Gathers before text given buffer)
    → piece ≡ held_by buffer ++ bytes → was.front ++ piece ≡ text ++ bytes
whole before text bytes piece given buffer was is =
    ap (λ p. was.front ++ p) is ∙ sym (append_assoc was.front (held_by buffer) bytes) ∙ ap (λ t. t ++ bytes) was.rest

-- The buffer holds more bytes.
pub gathers-held : (before text bytes : List ℕ) (given : Option (List ℕ)) (old new : TextBuffer) → held_by new ≡ held_by old ++ bytes
    → Gathers before text given old → Gathers before (text ++ bytes) given new
gathers-held before text bytes given old new holds was = record {
  front = was.front;
  told = was.told;
  rest = whole before text bytes (held_by new) given old was holds;
}

-- A piece of what was held and of more bytes was given.
pub gathers-given : (before text bytes piece : List ℕ) (given given' : Option (List ℕ)) (old new : TextBuffer)
    → piece ≡ held_by old ++ bytes → held_by new ≡ [] → ((first : List ℕ) → given ≡ Some first → given' ≡ Some (first ++ piece))
    → Gathers before text given old → Gathers before (text ++ bytes) given' new
gathers-given before text bytes piece given given' old new is none gives was = record {
  front = was.front ++ piece;
  told = gives (before ++ was.front) was.told ∙ ap (λ all. Some all) (append_assoc before was.front piece);
  rest = ap (λ rest. (was.front ++ piece) ++ rest) none ∙ append-nil (was.front ++ piece) ∙ whole before text bytes piece given old was is;
}

-- A front of such a piece was given.
pub front-given : (before text bytes piece : List ℕ) (given given' : Option (List ℕ)) (old : TextBuffer)
    → piece ≡ held_by old ++ bytes → ((first : List ℕ) → given ≡ Some first → GivesFront first piece given')
    → Gathers before text given old → GivesFront before (text ++ bytes) given'
front-given before text bytes piece given given' old is gives was =
    let front = gives (before ++ was.front) was.told in
    let all = whole before text bytes piece given old was is in
    record {
      count = length was.front + front.count;
      enough = omega (arith, front.enough, ap length all, length-append was.front piece);
      given = front.given
          ∙ ap (λ bs. Some bs) (append_assoc before was.front (take front.count piece)
          ∙ ap (λ bs. before ++ bs) (sym (take-append-add was.front piece front.count) ∙ ap (take (length was.front + front.count)) all));
    }

-- A front of a text is one of a longer text.
pub front-longer : (before text more : List ℕ) (given : Option (List ℕ)) → GivesFront before text given → GivesFront before (text ++ more) given
front-longer before text more given front = record {
  count = front.count;
  enough = omega (arith, front.enough, length-append text more);
  given = front.given ∙ ap (λ bs. Some (before ++ bs)) (sym (take-append-le front.count text more front.enough));
}

-- What was held was given, and with it the whole text.
pub flushed-whole : (before text : List ℕ) (given given' : Option (List ℕ)) (old : TextBuffer)
    → ((first : List ℕ) → given ≡ Some first → given' ≡ Some (first ++ held_by old)) → Gathers before text given old → given' ≡ Some (before ++ text)
flushed-whole before text given given' old gives was =
    gives (before ++ was.front) was.told
    ∙ ap (λ all. Some all) (append_assoc before was.front (held_by old) ∙ ap (λ t. before ++ t) was.rest)

-- A buffer that holds nothing is behind a whole text.
pub empty-gathers : (buffer : TextBuffer) → held_by buffer ≡ [] → IsEmpty buffer
empty-gathers buffer none = λ before given is. record {
  front = [];
  told = is ∙ ap (λ bs. Some bs) (sym (append-nil before));
  rest = none;
}

-- Bytes that fill a list up to its end stand behind its front.
pub filled-up : (held count : ℕ) (old bytes now : List ℕ) → now ≡ bytes → count ≡ length bytes → held + length bytes ≡ length old
    → put_mid held count old now ≡ take held old ++ bytes
filled-up held count old bytes now is counted full =
    ap (λ rest. take held old ++ (now ++ rest)) (drop_all count (drop held old) (omega (arith, length-drop held old, counted, full)))
    ∙ ap (λ rest. take held old ++ rest) (append-nil now ∙ is)

-- What a give of a piece of what was held and of more bytes leaves.
pub piece-given : {T E : Type 0} (before text bytes piece : List ℕ) (given given' : Option (List ℕ)) (old new : TextBuffer) (result : Result T E)
    → piece ≡ held_by old ++ bytes → held_by new ≡ [] → GivesTo given given' piece result → Gathers before text given old
    → MatchResult result (λ _. Gathers before (text ++ bytes) given' new) (λ _. GivesFront before (text ++ bytes) given')
piece-given before text bytes piece given given' old new (Ok value) is none gives was = gathers-given before text bytes piece given given' old new is none gives was
piece-given before text bytes piece given given' old new (Err error) is none gives was = front-given before text bytes piece given given' old is gives was

-- What a give of all that was held leaves.
pub rest-given : {T E : Type 0} (before text piece : List ℕ) (given given' : Option (List ℕ)) (old : TextBuffer) (result : Result T E)
    → piece ≡ held_by old → GivesTo given given' piece result → Gathers before text given old
    → MatchResult result (λ _. given' ≡ Some (before ++ text)) (λ _. GivesFront before text given')
rest-given before text piece given given' old (Ok value) is gives was =
    flushed-whole before text given given' old (λ first told. gives first told ∙ ap (λ p. Some (first ++ p)) is) was
rest-given before text piece given given' old (Err error) is gives was =
    subst (λ t. GivesFront before t given') (append-nil text)
    (front-given before text [] piece given given' old (is ∙ sym (append-nil (held_by old))) gives was)

-- Bytes are their front and the rest.
pub halves : (count : ℕ) (bytes front rest : List ℕ) → front ≡ take count bytes → rest ≡ drop count bytes → bytes ≡ front ++ rest
halves count bytes front rest is others =
    sym (ap (λ (f : List ℕ). f ++ rest) is ∙ ap (λ (r : List ℕ). take count bytes ++ r) others ∙ take-append-drop count bytes)
