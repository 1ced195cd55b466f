-- Stays that are loose for a failed exchange: there are more of them as acts go on, and one at least for each stripe inside.
use Rattle.std.proofs.Common.{◌≡◌, ℕ, zero, suc, ◌+◌, ◌<◌, ◌≤◌, Bool, true, List, [], ◌∷◌, ◌++◌, length, slice_index, arith, length-append}
use Rattle.std.specs.Prelude.{filter, nat_le}
use Rattle.std.proofs.lemmas.Bool.{and_parts, and_from, cond_both, leb-true, le-leb}
use Rattle.std.proofs.lemmas.List.Elements.{filter-append}
use Rattle.era_gate.specs.declared.stays.Stay.{Stay}
use Rattle.era_gate.specs.Acts.{count}
use Rattle.era_gate.specs.Loose.{AreStaysOf, is_loose, loose_in}

-- as places go on
pub AreStaysOf-later : (d places later number : ℕ) (stays : List Stay) → places ≤ later → AreStaysOf d places number stays → AreStaysOf d later number stays
AreStaysOf-later d places later number [] le are = tt
AreStaysOf-later d places later number (stay ∷ stays) le are =
    let floor : stay.floor ≤ places = are.2 in (are.0, are.1, omega arith, AreStaysOf-later d places later (number + 1) stays le are.3)

-- with one more
pub AreStaysOf-more : (d places number : ℕ) (stays : List Stay) (stay : Stay) → stay.stripe ≡ d → stay.number ≡ number + length stays → stay.floor ≤ places
    → AreStaysOf d places number stays → AreStaysOf d places number (stays ++ stay ∷ [])
AreStaysOf-more d places number [] stay stripe is floor are = (stripe, omega arith, floor, tt)
AreStaysOf-more d places number (first ∷ stays) stay stripe is floor are =
    (are.0, are.1, are.2, AreStaysOf-more d places (number + 1) stays stay stripe (omega arith) floor are.3)

-- a stay that is loose stays so at a later place
loose-later : (place later : ℕ) (ended : List ℕ) (stay : Stay) → place ≤ later → is_loose place ended stay ≡ true → is_loose later ended stay ≡ true
loose-later place later ended stay le is =
    let parts = and_parts (nat_le (slice_index ended stay.stripe) stay.number) (nat_le stay.floor place) is in
    let floor : stay.floor ≤ place = leb-true stay.floor place parts.1 in
    and_from (nat_le (slice_index ended stay.stripe) stay.number) (nat_le stay.floor later) parts.0 (le-leb stay.floor later (omega arith))

-- more stays are loose at a later place
more-later : (place later : ℕ) (ended : List ℕ) (stays : List Stay) → place ≤ later → length (filter (is_loose place ended) stays) ≤ length (filter (is_loose later ended) stays)
more-later place later ended [] le = omega arith
more-later place later ended (stay ∷ stays) le =
    let rest = more-later place later ended stays le in
    cond_both (is_loose place ended stay) (stay ∷ filter (is_loose place ended) stays) (filter (is_loose place ended) stays) (λ ss. length ss ≤ length (filter (is_loose later ended) (stay ∷ stays)))
    (λ on. rw (loose-later place later ended stay le on) (omega (arith, rest)))
    (λ off. cond_both (is_loose later ended stay) (stay ∷ filter (is_loose later ended) stays) (filter (is_loose later ended) stays) (λ ss. length (filter (is_loose place ended) stays) ≤ length ss)
    (λ new. omega (arith, rest)) (λ never. rest))

-- and with further stays
more-appended : (place later : ℕ) (ended : List ℕ) (stays extra : List Stay) → place ≤ later → length (filter (is_loose place ended) stays) ≤ length (filter (is_loose later ended) (stays ++ extra))
more-appended place later ended stays extra le =
    let before = more-later place later ended stays le in
    rw (filter-append (is_loose later ended) stays extra, length-append) (omega (arith, before))

-- the same over all stripes
pub loose-more : (n place later : ℕ) (ended : List ℕ) (stays longer : ℕ → List Stay) → place ≤ later → ((d : ℕ) → (extra : List Stay) × (longer d ≡ stays d ++ extra)) → loose_in n place ended stays ≤ loose_in n later ended longer
loose-more zero place later ended stays longer le grown = omega arith
loose-more (suc n) place later ended stays longer le grown =
    let rest = loose-more n place later ended stays longer le grown in
    let here = more-appended place later ended (stays n) (grown n).0 le in
    rw (grown n).1 (omega (arith, rest, here))

-- the last stay is loose where fewer are known as ended than there are
pub last-loose : (d places number : ℕ) (ended : List ℕ) (stays : List Stay) → AreStaysOf d places number stays → 0 < length stays → slice_index ended d < number + length stays
    → 1 ≤ length (filter (is_loose places ended) stays)
last-loose d places number ended [] are some few = absurd (omega arith)
last-loose d places number ended (stay ∷ []) are some few =
    let known : slice_index ended stay.stripe ≤ stay.number = rw are.0 (omega (arith, are.1, few)) in
    rw (and_from (nat_le (slice_index ended stay.stripe) stay.number) (nat_le stay.floor places) (le-leb (slice_index ended stay.stripe) stay.number known) (le-leb stay.floor places are.2)) (omega arith)
last-loose d places number ended (stay ∷ next ∷ stays) are some few =
    let rest = last-loose d places (number + 1) ended (next ∷ stays) are.3 (omega arith) (omega arith) in
    cond_both (is_loose places ended stay) (stay ∷ filter (is_loose places ended) (next ∷ stays)) (filter (is_loose places ended) (next ∷ stays)) (λ ss. 1 ≤ length ss)
    (λ on. omega arith) (λ off. rest)

-- so there are as many loose stays as stripes inside
pub count-loose : (n places : ℕ) (ended : List ℕ) (inside : ℕ → Bool) (stays : ℕ → List Stay) → ((d : ℕ) → d < n → inside d ≡ true → 1 ≤ length (filter (is_loose places ended) (stays d)))
    → count n inside ≤ loose_in n places ended stays
count-loose zero places ended inside stays each = omega arith
count-loose (suc n) places ended inside stays each =
    let rest = count-loose n places ended inside stays (λ d lt. each d (omega arith)) in
    cond_both (inside n) 1 0 (λ k. k + count n inside ≤ length (filter (is_loose places ended) (stays n)) + loose_in n places ended stays)
    (λ on. let here = each n (omega arith) on in omega (arith, rest, here)) (λ off. omega (arith, rest))
