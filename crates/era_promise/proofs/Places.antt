-- The history of a session at a place is a moment of its whole history, over the same origin.
use Rattle.std.proofs.Common.{◌≡◌, ℕ, zero, suc, List, [], ◌∷◌, take, length, refl, ap, subst, inl, inr}
use Rattle.era_model.specs.declared.entry.Entry.{Entry}
use Rattle.era_model.specs.declared.history.Happening.{Happening}
use Rattle.era_model.specs.declared.history.Happening.TheVariants.{Opened, Happened}
use Rattle.era_model.specs.declared.journal.Journal.{Journal}
use Rattle.era_model.specs.Chains.{IsMoment}
use Rattle.era_model.specs.History.{blocks_at, blocks_now}
use Rattle.era_model.specs.Journal.{history_after}
use Rattle.era_promise.specs.Sessions.{history_below, whole_history}

-- the last moment is one
pub moment-self : (h : List Happening) → IsMoment h h
moment-self [] = refl
moment-self (happening ∷ h) = inl refl

-- so is the one before a moment
moment-before : (h earlier : List Happening) (happening : Happening) → IsMoment h (happening ∷ earlier) → IsMoment h earlier
moment-before [] earlier happening is = absurd (cc)
moment-before (last ∷ h) earlier happening (inl same) = inr (subst (λ rest. IsMoment h rest) (cc) (moment-self h))
moment-before (last ∷ h) earlier happening (inr is) = inr (moment-before h earlier happening is)

-- entries go on from the moment before them
pub moment-begun : (h : List Happening) (entries : List Entry) → IsMoment (history_after h entries) h
moment-begun h [] = moment-self h
moment-begun h (entry ∷ entries) = moment-before _ h (Happened entry.event) (moment-begun (Happened entry.event ∷ h) entries)

-- the first ones of them come to a moment
pub moment-after : (h : List Happening) (entries : List Entry) (place : ℕ) → IsMoment (history_after h entries) (history_after h (take place entries))
moment-after h entries zero = moment-begun h entries
moment-after h [] (suc place) = moment-self h
moment-after h (entry ∷ entries) (suc place) = moment-after (Happened entry.event ∷ h) entries place

-- all entries are the first ones up to their number
take-all : (entries : List Entry) → take (length entries) entries ≡ entries
take-all [] = refl
take-all (entry ∷ entries) = ap (λ rest. entry ∷ rest) (take-all entries)

pub moment-below : (journal : Journal) (place : ℕ) → IsMoment (whole_history journal) (history_below journal place)
moment-below journal place =
    let first = Opened journal.opening ∷ [] in
    rw (take-all journal.entries) (moment-after first journal.entries place)

-- the blocks of the origin
pub blocks-after : (h : List Happening) (entries : List Entry) → blocks_now (history_after h entries) ≡ blocks_now h
blocks-after h [] = refl
blocks-after h (entry ∷ entries) = blocks-after (Happened entry.event ∷ h) entries

pub blocks-below : (journal : Journal) (place : ℕ) → blocks_now (history_below journal place) ≡ blocks_at journal.opening
blocks-below journal place = blocks-after (Opened journal.opening ∷ []) (take place journal.entries)
