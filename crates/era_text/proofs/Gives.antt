-- What is gathered and given of a text of several parts.
use Rattle.std.proofs.Common.{◌≡◌, ℕ, zero, suc, ◌+◌, ◌<◌, List, [], ◌∷◌, ◌++◌, length, get_or, take, drop, refl, ap, sym, ◌∙◌, subst, append_assoc, arith}
use Rattle.std.specs.Prelude.{Option, Result, Ok, Err}
use Rattle.std.specs.List.{flat_map}
use Rattle.std.proofs.lemmas.List.{take_more, flat_map_more}
use Rattle.era_base.specs.Streams.{GivesFront}
use Rattle.era_line.specs.TextBuffer.{Adds}
use Rattle.era_line.specs.declared.text_buffer.TextBuffer.{TextBuffer}
use Rattle.era_line.proofs.Gathering.{front-longer}
use Rattle.era_line.proofs.PartSteps.{HasAdded, HasCut, added-then}

-- bytes, of which a front was given
pub cut-first : (given given' : Option (List ℕ)) (buffer : TextBuffer) (first rest : List ℕ) → HasCut given buffer given' first → HasCut given buffer given' (first ++ rest)
cut-first given given' buffer first rest cut = λ before text is.
    subst (λ all. GivesFront before all given') (append_assoc text first rest) (front-longer before (text ++ first) rest given' (cut before text is))

-- bytes, and others of which a front was given
pub cut-then : (given given' given'' : Option (List ℕ)) (buffer buffer' : TextBuffer) (first rest : List ℕ)
    → HasAdded given buffer given' buffer' first → HasCut given' buffer' given'' rest → HasCut given buffer given'' (first ++ rest)
cut-then given given' given'' buffer buffer' first rest one cut = λ before text is.
    subst (λ all. GivesFront before all given'') (append_assoc text first rest) (cut before (text ++ first) (one before text is))

-- a text behind another one
pub adds-then : {T E : Type 0} (given given' given'' : Option (List ℕ)) (buffer buffer' buffer'' : TextBuffer) (first rest : List ℕ) (result : Result T E)
    → HasAdded given buffer given' buffer' first → Adds given' buffer' given'' buffer'' rest result → Adds given buffer given'' buffer'' (first ++ rest) result
adds-then given given' given'' buffer buffer' buffer'' first rest (Ok value) one adds = added-then given given' given'' buffer buffer' buffer'' first rest one adds
adds-then given given' given'' buffer buffer' buffer'' first rest (Err error) one adds = cut-then given given' given'' buffer buffer' first rest one adds

-- the text of some items, of the next one and of the rest
flat-split : {A : Type 0} (text : A → List ℕ) (items : List A) (i : ℕ) (d : A) → i < length items
    → flat_map text items ≡ flat_map text (take i items) ++ (text (get_or items i d) ++ flat_map text (drop (suc i) items))
flat-split text [] i d h = absurd (omega arith)
flat-split text (item ∷ items) zero d h = refl
flat-split text (item ∷ items) (suc i) d h =
    ap (λ bytes. text item ++ bytes) (flat-split text items i d (omega arith))
    ∙ sym (append_assoc (text item) (flat_map text (take i items)) (text (get_or items i d) ++ flat_map text (drop (suc i) items)))

-- one item's text more
pub items-added : {A : Type 0} (text : A → List ℕ) (items : List A) (i : ℕ) (d : A) (given given' given'' : Option (List ℕ)) (buffer buffer' buffer'' : TextBuffer)
    → i < length items → HasAdded given buffer given' buffer' (flat_map text (take i items)) → HasAdded given' buffer' given'' buffer'' (text (get_or items i d))
    → HasAdded given buffer given'' buffer'' (flat_map text (take (i + 1) items))
items-added text items i d given given' given'' buffer buffer' buffer'' lt one more =
    subst (HasAdded given buffer given'' buffer'') (flat_map_more text [] (take i items) (get_or items i d) ∙ ap (flat_map text) (sym (take_more items i d lt)))
    (added-then given given' given'' buffer buffer' buffer'' (flat_map text (take i items)) (text (get_or items i d)) one more)

-- the sink failed at an item
pub items-cut : {A : Type 0} (text : A → List ℕ) (items : List A) (i : ℕ) (d : A) (given given' given'' : Option (List ℕ)) (buffer buffer' : TextBuffer)
    → i < length items → HasAdded given buffer given' buffer' (flat_map text (take i items)) → HasCut given' buffer' given'' (text (get_or items i d))
    → HasCut given buffer given'' (flat_map text items)
items-cut text items i d given given' given'' buffer buffer' lt one cut =
    subst (HasCut given buffer given'') (sym (flat-split text items i d lt))
    (cut-then given given' given'' buffer buffer' (flat_map text (take i items)) (text (get_or items i d) ++ flat_map text (drop (suc i) items)) one
    (cut-first given' given'' buffer' (text (get_or items i d)) (flat_map text (drop (suc i) items)) cut))
