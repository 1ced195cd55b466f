-- Happenings that stand earliest first, as a history.
use Rattle.std.proofs.Common.{◌≡◌, ℕ, ◌+◌, ◌-◌, ◌<◌, List, [], ◌∷◌, ◌++◌, length, take, get_or, refl, sym, ap, arith, ◌∙◌}
use Rattle.std.specs.Prelude.{reverse, slice_get, Some}
use Rattle.std.proofs.lemmas.List.{length_push, reverse-append, reverse-reverse, take_more}
use Rattle.era_model.specs.declared.history.Happening.{Happening}

-- one more happening is the latest one
pub latest-more : (happenings : List Happening) (i : ℕ) (happening : Happening) → i < length happenings → happening ≡ get_or happenings i happening
    → reverse (take (i + 1) happenings) ≡ happening ∷ reverse (take i happenings)
latest-more happenings i happening lt is =
    let more = rw (← is) at (take_more happenings i happening lt) in
    ap (λ l. reverse l) more ∙ reverse-append (take i happenings) (happening ∷ [])

-- what was pushed is the latest one
pub latest-pushed : (items items' : List Happening) (happening pushed : Happening) → items' ≡ items ++ pushed ∷ [] → pushed ≡ happening → reverse items' ≡ happening ∷ reverse items
latest-pushed items items' happening pushed more same =
    ap (λ l. reverse l) more ∙ reverse-append items (pushed ∷ []) ∙ ap (λ x. x ∷ reverse items) same

-- the last one of a list
last-at : (items : List Happening) (happening : Happening) → slice_get (items ++ happening ∷ []) (length items) ≡ Some happening
last-at [] happening = refl
last-at (first ∷ items) happening = last-at items happening

-- the last one is the latest one
pub last-is : (items : List Happening) (latest last : Happening) (earlier : List Happening) → reverse items ≡ latest ∷ earlier → Some last ≡ slice_get items (length items - 1) → last ≡ latest
last-is items latest last earlier is found =
    let back : items ≡ reverse earlier ++ latest ∷ [] = sym (reverse-reverse items) ∙ ap (λ l. reverse l) is ∙ reverse-append (latest ∷ []) earlier in
    let at : length items - 1 ≡ length (reverse earlier) = let size = ap length back ∙ length_push (reverse earlier) latest in omega (arith, size) in
    let some : Some last ≡ Some latest = found ∙ ap (λ i. slice_get items i) at ∙ ap (λ l. slice_get l (length (reverse earlier))) back ∙ last-at (reverse earlier) latest in
    cc
