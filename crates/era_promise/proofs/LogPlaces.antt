-- The log of a session at a place: the journal's history there, and the draws of one owner.
use Rattle.std.proofs.Common.{◌≡◌, ℕ, zero, suc, ◌+◌, ◌≤◌, ◌==◌, Bool, true, false, List, [], ◌∷◌, ◌++◌, length, take, nat_lt, refl, ap, ◌∙◌, arith, inl, inr, if◌then◌else◌}
use Rattle.std.proofs.lemmas.Bool.{cases_lt, lt-ltb, le-ltb, cond_both}
use Rattle.std.proofs.lemmas.List.{take-append-le}
use Rattle.era_model.specs.declared.entry.Entry.{Entry}
use Rattle.era_model.specs.declared.history.Happening.{Happening}
use Rattle.era_model.specs.declared.history.Happening.TheVariants.{Opened, Happened}
use Rattle.era_model.specs.declared.opening.Opening.{Opening}
use Rattle.era_model.specs.History.{next_place}
use Rattle.era_model.specs.Journal.{history_after, history_at}
use Rattle.era_notes.specs.Logs.{Draw, log_below, logged_history, noted_entries, own_entries}
use Rattle.era_notes.specs.Notes.{Note, PlacesBelow}
use Rattle.era_notes.specs.OwnDraws.{StripesDraw}
use Rattle.era_promise.specs.Owners.{logged_entries}

-- one more entry behind others
after-last : (h : List Happening) (entries : List Entry) (entry : Entry) → history_after h (entries ++ entry ∷ []) ≡ Happened entry.event ∷ history_after h entries
after-last h [] entry = refl
after-last h (first ∷ entries) entry = after-last (Happened first.event ∷ h) entries entry

-- so many entries as draws
pub logged-length : (log : List Draw) → length (logged_entries log) ≡ length log
logged-length [] = refl
logged-length (draw ∷ earlier) = longer (logged_entries earlier) _ ∙ ap (λ n. suc n) (logged-length earlier)
  where
    longer : (entries : List Entry) (entry : Entry) → length (entries ++ entry ∷ []) ≡ suc (length entries)
    longer [] entry = refl
    longer (first ∷ entries) entry = ap (λ n. suc n) (longer entries entry)

pub whole-log : (opening : Opening) (log : List Draw) → history_after (Opened opening ∷ []) (logged_entries log) ≡ logged_history opening log
whole-log opening [] = refl
whole-log opening (draw ∷ earlier) = after-last (Opened opening ∷ []) (logged_entries earlier) _ ∙ ap (λ h. Happened draw.event ∷ h) (whole-log opening earlier)

-- all entries, and more
take-more : (entries : List Entry) (count : ℕ) → length entries ≤ count → take count entries ≡ entries
take-more [] zero more = refl
take-more [] (suc count) more = refl
take-more (entry ∷ entries) zero more = absurd (omega (arith, more))
take-more (entry ∷ entries) (suc count) more = ap (λ rest. entry ∷ rest) (take-more entries count (omega (arith, more)))

-- the history at a place
pub log-at : (opening : Opening) (log : List Draw) (place : ℕ) → history_at opening (logged_entries log) place ≡ logged_history opening (log_below place log)
log-at opening [] zero = refl
log-at opening [] (suc place) = refl
log-at opening (draw ∷ earlier) place = elim (cases_lt (length earlier) place) [
  | inl inside ↦
      let all : take place (logged_entries (draw ∷ earlier)) ≡ logged_entries (draw ∷ earlier)
      = take-more (logged_entries (draw ∷ earlier)) place (let size = logged-length (draw ∷ earlier) in omega (arith, size, inside)) in
      rw (lt-ltb (length earlier) place inside) (ap (history_after (Opened opening ∷ [])) all ∙ whole-log opening (draw ∷ earlier))
  | inr past ↦
      let some = take-append-le place (logged_entries earlier) (record { place = length earlier; event = draw.event } ∷ []) (let size = logged-length earlier in omega (arith, size, past)) in
      rw (le-ltb (length earlier) place past) (ap (history_after (Opened opening ∷ [])) some ∙ log-at opening earlier place)
]

-- the place of the next draw
pub next-log : (opening : Opening) (log : List Draw) → next_place (logged_history opening log) ≡ length log
next-log opening [] = refl
next-log opening (draw ∷ earlier) = rw (next-log opening earlier) (let one : length earlier + 1 ≡ suc (length earlier) = omega arith in one)

-- stripes' draws up to a place
pub stripes-below : (keeper : ℕ) (log : List Draw) (place : ℕ) → StripesDraw keeper log → StripesDraw keeper (log_below place log)
stripes-below keeper [] place draws = tt
stripes-below keeper (draw ∷ earlier) place draws = elim (nat_lt (length earlier) place) as (λ (b : Bool). StripesDraw keeper (if b then draw ∷ earlier else log_below place earlier)) [
  | true ↦ draws
  | false ↦ stripes-below keeper earlier place draws.1
]

-- places of notes are below a greater bound as well
wider : (low high : ℕ) (notes : List Note) → low ≤ high → PlacesBelow low notes → PlacesBelow high notes
wider low high [] le below = tt
wider low high (note ∷ notes) le below = (omega (arith, le, below.0), below.1)

-- the notes of an owner have places below the number of draws, that descend
mine-below : (entry : Entry) (entries : List Entry) (earlier : List Draw) (notes : List Note) → entry.place ≡ length earlier → noted_entries notes ≡ entry ∷ entries
    → ((notes : List Note) → noted_entries notes ≡ entries → PlacesBelow (length earlier) notes) → PlacesBelow (suc (length earlier)) notes
mine-below entry entries earlier [] at are rest = absurd (cc)
mine-below entry entries earlier (note ∷ notes) at are rest =
    let first : note.entry ≡ entry = cc in
    let place : note.entry.place ≡ length earlier = ap (λ (e : Entry). e.place) first ∙ at in
    (omega (arith, place), rw place (rest notes (cc)))

pub own-places : (drawer : ℕ) (log : List Draw) (notes : List Note) → noted_entries notes ≡ own_entries drawer log → PlacesBelow (length log) notes
own-places drawer [] [] are = tt
own-places drawer [] (note ∷ notes) are = absurd (cc)
own-places drawer (draw ∷ earlier) notes are =
    cond_both (draw.drawer == drawer) (record { place = length earlier; event = draw.event } ∷ own_entries drawer earlier) (own_entries drawer earlier)
    (λ (es : List Entry). noted_entries notes ≡ es → PlacesBelow (length (draw ∷ earlier)) notes)
    (λ mine same. mine-below (record { place = length earlier; event = draw.event }) (own_entries drawer earlier) earlier notes refl same (own-places drawer earlier))
    (λ other same. wider (length earlier) (length (draw ∷ earlier)) notes (omega arith) (own-places drawer earlier notes same))
    are
