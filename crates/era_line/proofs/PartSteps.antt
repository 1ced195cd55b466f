-- What is gathered and given of a text after several parts of it.
use Rattle.std.proofs.Common.{◌≡◌, ℕ, zero, suc, ◌+◌, ◌*◌, ◌<◌, List, [], ◌∷◌, ◌++◌, length, get_or, take, drop, refl, ap, sym, ◌∙◌, subst, append_assoc, arith}
use Rattle.std.specs.Prelude.{Option, Result, Ok, Err}
use Rattle.std.proofs.lemmas.List.{take_more, append-nil, flat_map_more}
use Rattle.hex.specs.Hex.{encode_with, encode_lower, lower_digits}
use Rattle.hex.proofs.HexLemmas.{length-encode_with}
use Rattle.std.proofs.Math.Seq.{take-append_seam}
use Rattle.era_base.specs.Streams.{GivesFront}
use Rattle.era_line.specs.declared.parts.Part.{Part}
use Rattle.era_line.specs.declared.text_buffer.TextBuffer.{TextBuffer}
use Rattle.era_line.specs.Parts.{part_text, parts_text}
use Rattle.era_line.specs.TextBuffer.{Gathers, Adds}
use Rattle.era_line.proofs.Gathering.{front-longer}

-- the parts before an index, the part there, and the rest
pub parts_text-split : (parts : List Part) (i : ℕ) (d : Part) → i < length parts
    → parts_text parts ≡ parts_text (take i parts) ++ (part_text (get_or parts i d) ++ parts_text (drop (suc i) parts))
parts_text-split [] i d h = absurd (omega arith)
parts_text-split (p ∷ ps) zero d h = refl
parts_text-split (p ∷ ps) (suc i) d h =
    ap (λ bytes. part_text p ++ bytes) (parts_text-split ps i d (omega arith))
    ∙ sym (append_assoc (part_text p) (parts_text (take i ps)) (part_text (get_or ps i d) ++ parts_text (drop (suc i) ps)))

-- one part more
pub parts_text-more : (parts : List Part) (i : ℕ) (d : Part) → i < length parts → parts_text (take (i + 1) parts) ≡ parts_text (take i parts) ++ part_text (get_or parts i d)
parts_text-more parts i d h = ap parts_text (take_more parts i d h) ∙ sym (flat_map_more part_text [] (take i parts) (get_or parts i d))

-- what was gathered of a text has grown by these bytes
abbrev pub HasAdded : Option (List ℕ) → TextBuffer → Option (List ℕ) → TextBuffer → List ℕ → Type 0
HasAdded given buffer given' buffer' bytes =
    (before text : List ℕ) → Gathers before text given buffer → Gathers before (text ++ bytes) given' buffer'

-- of what was gathered of a text and of these bytes a front was given
abbrev pub HasCut : Option (List ℕ) → TextBuffer → Option (List ℕ) → List ℕ → Type 0
HasCut given buffer given' bytes =
    (before text : List ℕ) → Gathers before text given buffer → GivesFront before (text ++ bytes) given'

-- nothing was added
pub added-none : (given : Option (List ℕ)) (buffer : TextBuffer) → HasAdded given buffer given buffer []
added-none given buffer = λ before text is. subst (λ all. Gathers before all given buffer) (sym (append-nil text)) is

-- bytes and more bytes
pub added-then : (given given' given'' : Option (List ℕ)) (buffer buffer' buffer'' : TextBuffer) (first rest : List ℕ)
    → HasAdded given buffer given' buffer' first → HasAdded given' buffer' given'' buffer'' rest → HasAdded given buffer given'' buffer'' (first ++ rest)
added-then given given' given'' buffer buffer' buffer'' first rest one more = λ before text is.
    subst (λ all. Gathers before all given'' buffer'') (append_assoc text first rest) (more before (text ++ first) (one before text is))

-- bytes, and a piece of which a front was given
pub cut-then : (given given' given'' : Option (List ℕ)) (buffer buffer' : TextBuffer) (first piece rest : List ℕ)
    → HasAdded given buffer given' buffer' first → HasCut given' buffer' given'' piece → HasCut given buffer given'' (first ++ (piece ++ rest))
cut-then given given' given'' buffer buffer' first piece rest one cut = λ before text is.
    subst (λ all. GivesFront before all given'')
    (append_assoc (text ++ first) piece rest ∙ append_assoc text first (piece ++ rest))
    (front-longer before ((text ++ first) ++ piece) rest given'' (cut before (text ++ first) (one before text is)))

-- the digits of bytes and more bytes
pub hex-append : (front back : List ℕ) → encode_lower (front ++ back) ≡ encode_lower front ++ encode_lower back
unfolding encode_with
hex-append [] back = refl
hex-append (byte ∷ front) back = ap (λ digits. encode_lower (byte ∷ []) ++ digits) (hex-append front back)

pub hex-none : encode_lower [] ≡ []
unfolding encode_with
hex-none = refl

-- what was spelled stands at the front of the digits
pub spelled_front : (count : ℕ) (digits rest expected : List ℕ) → digits ≡ expected → length expected ≡ count → take count (digits ++ rest) ≡ expected
spelled_front count digits rest expected is size =
    ap (λ front. take count (front ++ rest)) is
    ∙ ap (λ n. take n (expected ++ rest)) (sym size)
    ∙ take-append_seam expected rest

pub hex-length : (bytes : List ℕ) → length (encode_lower bytes) ≡ 2 * length bytes
hex-length bytes = length-encode_with lower_digits bytes
