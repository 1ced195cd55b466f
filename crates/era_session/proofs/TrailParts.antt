-- The entries of a command in a session, as they are added one part after the other.
use Rattle.std.proofs.Common.{◌≡◌, ℕ, zero, suc, ◌+◌, ◌/◌, ◌<◌, ◌≤◌, List, [], ◌∷◌, ◌++◌, length, get_or, take, Option, Some, slice_get, Bor, refl, sym, ap, ◌∙◌, subst, arith}
use Rattle.std.proofs.lemmas.List.{append_assoc, append-nil, length-append, take_more}
use Rattle.era_model.specs.declared.entry.Entry.{Entry}
use Rattle.era_notes.specs.Rooms.{last_in}
use Rattle.era_session.specs.AtStripes.{session_place}
use Rattle.era_session.specs.Chunks.{stripe_trail, stripes_trail}
use Rattle.era_session.specs.Trails.{IsBlockTrail, lent}
use Rattle.era_session.specs.declared.session.Session.{Session}
use Rattle.era_stripe.specs.declared.stripe.Stripe.{Stripe}

-- an entry more that is lent
pub lent-more : (entries : List (Bor Entry)) (e : Bor Entry) → lent (entries ++ e ∷ []) ≡ lent entries ++ e.now ∷ []
lent-more [] e = refl
lent-more (first ∷ entries) e = ap (λ (es : List Entry). first.now ∷ es) (lent-more entries e)

-- the trail of stripes, one stripe more
pub trail-joined : {D : Type 0} (a b : List (Stripe D)) → stripes_trail (a ++ b) ≡ stripes_trail a ++ stripes_trail b
trail-joined [] b = refl
trail-joined (stripe ∷ a) b =
    ap (λ (es : List Entry). last_in stripe.entries ++ es) (trail-joined a b) ∙ sym (append_assoc (last_in stripe.entries) (stripes_trail a) (stripes_trail b))

pub trail-more : {D : Type 0} (stripes : List (Stripe D)) (i : ℕ) (d : Stripe D) → i < length stripes → stripes_trail (take (i + 1) stripes) ≡ stripes_trail (take i stripes) ++ last_in (get_or stripes i d).entries
trail-more stripes i d below =
    ap stripes_trail (take_more stripes i d below)
    ∙ trail-joined (take i stripes) (get_or stripes i d ∷ [])
    ∙ ap (λ (es : List Entry). stripes_trail (take i stripes) ++ es) (append-nil (last_in (get_or stripes i d).entries))

pub trail-next : {D : Type 0} (stripes : List (Stripe D)) (i : ℕ) (stripe : Stripe D) → i < length stripes → stripe ≡ get_or stripes i stripe → stripes_trail (take (i + 1) stripes) ≡ stripes_trail (take i stripes) ++ last_in stripe.entries
trail-next {D} stripes i stripe below is = trail-more stripes i stripe below ∙ ap (λ (s : Stripe D). stripes_trail (take i stripes) ++ last_in s.entries) (sym is)

-- the trail of stripes up to one of them is no longer than that of all
pub trail-within : {D : Type 0} (stripes : List (Stripe D)) (i : ℕ) → length (stripes_trail (take i stripes)) ≤ length (stripes_trail stripes)
trail-within stripes zero = omega arith
trail-within [] (suc i) = omega arith
trail-within (stripe ∷ stripes) (suc i) =
    let rest = trail-within stripes i in
    rw (length-append (last_in stripe.entries) (stripes_trail (take i stripes)), length-append (last_in stripe.entries) (stripes_trail stripes)) (omega (arith, rest))

-- the entries at the stripe of a block
pub block-trail-there : {D : Type 0} (session : Session D) (block first sector count : ℕ) (stripe : Stripe D) (result : Bor (List Entry)) → session_place session sector count ≡ Some (block, first)
    → slice_get session.stripes.items (block / session.each) ≡ Some stripe → result.now ≡ last_in stripe.entries → IsBlockTrail (session_place session sector count) session (Some result)
block-trail-there {D} session block first sector count stripe result at found is =
    subst (λ (p : Option (ℕ × ℕ)). IsBlockTrail p session (Some result)) (sym at) (is ∙ sym (ap stripe_trail found))
