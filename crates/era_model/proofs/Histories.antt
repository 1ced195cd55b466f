-- Histories of more and more entries.
use Rattle.std.proofs.Common.{◌≡◌, ℕ, ◌+◌, ◌<◌, ◌≤◌, max, nat_le, Bool, true, false, List, [], ◌∷◌, ◌++◌, length, take, get_or, Option, Some, None, IfSome, MatchOption, if◌then◌else◌, refl, ap, ◌∙◌, sym, arith}
use Rattle.std.specs.Prelude.{option_map}
use Rattle.std.proofs.lemmas.List.{take_more}
use Rattle.era_model.specs.declared.entry.Entry.{Entry}
use Rattle.era_model.specs.declared.history.Happening.{Happening}
use Rattle.era_model.specs.declared.history.Happening.TheVariants.{Happened}
use Rattle.era_model.specs.History.{era_of}
use Rattle.era_model.specs.Journal.{history_after}
use Rattle.era_model.specs.Marking.{era_start}

-- one more entry is one more event
pub history_after-push : (h : List Happening) (entries : List Entry) (entry : Entry) → history_after h (entries ++ entry ∷ []) ≡ Happened entry.event ∷ history_after h entries
history_after-push h [] entry = refl
history_after-push h (first ∷ entries) entry = history_after-push (Happened first.event ∷ h) entries entry

-- the history with one entry more of a list
pub history_after-more : (h : List Happening) (entries : List Entry) (i : ℕ) (entry : Entry) → i < length entries → entry ≡ get_or entries i entry
    → history_after h (take (i + 1) entries) ≡ Happened entry.event ∷ history_after h (take i entries)
history_after-more h entries i entry lt is =
    let more = rw (← is) at (take_more entries i entry lt) in
    ap (λ l. history_after h l) more ∙ history_after-push h (take i entries) entry

-- a choice of some place or none, at each place its history
map-if : (b : Bool) (of : ℕ → List Happening) (place : ℕ) → option_map of (if b then Some place else None) ≡ (if b then Some (of place) else None)
map-if true of place = refl
map-if false of place = refl

-- the start of an era after one more happening: the one found before, else this place if the era has begun there
pub era_start-more : (era wanted now place : ℕ) (happening : Happening) (h : List Happening) (of : ℕ → List Happening) (before next : Option ℕ)
    → now ≡ era_of (happening ∷ h) → wanted ≡ max era 1 → of place ≡ happening ∷ h → era_start era h ≡ option_map of before
    → MatchOption before (next ≡ (if nat_le wanted now then Some place else None)) (λ start. next ≡ Some start)
    → era_start era (happening ∷ h) ≡ option_map of next
era_start-more era wanted now place happening h of None next is_now is_wanted is_place start found =
    rw (start, found, is_wanted, is_now) (sym (map-if (nat_le (max era 1) (era_of (happening ∷ h))) of place ∙ rw is_place refl))
era_start-more era wanted now place happening h of (Some before) next is_now is_wanted is_place start found = rw (start, found) refl

-- it isn't past this place
pub start-within : (place : ℕ) (b : Bool) (before next : Option ℕ) → IfSome before (λ start. start ≤ place)
    → MatchOption before (next ≡ (if b then Some (place + 1) else None)) (λ start. next ≡ Some start) → IfSome next (λ start. start ≤ place + 1)
start-within place true None next within found = rw found (omega arith)
start-within place false None next within found = rw found tt
start-within place b (Some before) next within found = rw found (omega arith)
