-- The log of acts: its entries are what the acts drew, and a drawer's own entries in it are those that it drew, the latest first.
use Rattle.std.proofs.Common.{◌≡◌, ℕ, ◌+◌, ◌<◌, List, [], ◌∷◌, ◌++◌, append_assoc, length, refl, ap, sym, ◌∙◌, arith, inl, inr}
use Rattle.std.proofs.lemmas.Bool.{eq-eqb, ne_eqb}
use Rattle.std.proofs.lemmas.Bool.Decides.{eqb_tells}
use Rattle.std.proofs.lemmas.List.{append-nil}
use Rattle.era_model.specs.declared.entry.Entry.{Entry}
use Rattle.era_model.specs.declared.event.Event.{Event}
use Rattle.era_gate.specs.Acts.{Act, Account, stripe_drew, keeper_drew, stay_began, stay_ended, era_moved, exchange_failed, IsLegalFrom, after, entry}
use Rattle.era_gate.specs.Drawn.{drawn, drawn_by_stripe, drawn_by_keeper}
use Rattle.era_journal.specs.ActsLog.{log_after, log_of}
use Rattle.era_notes.specs.Logs.{Draw, noted_entries, own_entries}
use Rattle.era_notes.specs.Notes.{Note, entries_of}
use Rattle.era_promise.specs.Owners.{logged_entries}

-- the entries of the log are what was drawn
pub log-entries : (keeper : ℕ) (log : List Draw) (acts : List Act) → logged_entries (log_after keeper log acts) ≡ logged_entries log ++ drawn (length log) acts
log-entries keeper log [] = sym (append-nil (logged_entries log))
log-entries keeper log (stripe_drew k event ∷ acts) =
    let next : length log + 1 ≡ length (record { drawer = k; event = event } ∷ log) = omega arith in
    log-entries keeper (record { drawer = k; event = event } ∷ log) acts
    ∙ append_assoc (logged_entries log) (entry (length log) event ∷ []) (drawn (length (record { drawer = k; event = event } ∷ log)) acts)
    ∙ ap (λ n. logged_entries log ++ entry (length log) event ∷ drawn n acts) (sym next)
log-entries keeper log (keeper_drew event ∷ acts) =
    let next : length log + 1 ≡ length (record { drawer = keeper; event = event } ∷ log) = omega arith in
    log-entries keeper (record { drawer = keeper; event = event } ∷ log) acts
    ∙ append_assoc (logged_entries log) (entry (length log) event ∷ []) (drawn (length (record { drawer = keeper; event = event } ∷ log)) acts)
    ∙ ap (λ n. logged_entries log ++ entry (length log) event ∷ drawn n acts) (sym next)
log-entries keeper log (stay_began stay ∷ acts) = log-entries keeper log acts
log-entries keeper log (stay_ended k begun ∷ acts) = log-entries keeper log acts
log-entries keeper log (era_moved ∷ acts) = log-entries keeper log acts
log-entries keeper log (exchange_failed miss ∷ acts) = log-entries keeper log acts

-- entries, the latest first
abbrev backward : List Entry → List Entry
backward [] = []
backward (first ∷ entries) = backward entries ++ first ∷ []

backward-last : (entries : List Entry) (last : Entry) → backward (entries ++ last ∷ []) ≡ last ∷ backward entries
backward-last [] last = refl
backward-last (first ∷ entries) last = ap (λ es. es ++ first ∷ []) (backward-last entries last)

notes-backward : (notes : List Note) → noted_entries notes ≡ backward (entries_of notes)
notes-backward [] = refl
notes-backward (note ∷ earlier) = ap (λ es. note.entry ∷ es) (notes-backward earlier) ∙ sym (backward-last (entries_of earlier) note.entry)

-- one draw more of a drawer, and one of another
own-more : (d drawer : ℕ) (event : Event) (log : List Draw) (later : List Entry) → drawer ≡ d
    → backward later ++ own_entries d (record { drawer = drawer; event = event } ∷ log) ≡ backward (entry (length log) event ∷ later) ++ own_entries d log
own-more d drawer event log later same = rw (eq-eqb drawer d same) (sym (append_assoc (backward later) (entry (length log) event ∷ []) (own_entries d log)))

own-other : (d drawer : ℕ) (event : Event) (log : List Draw) → (drawer ≡ d → ⊥) → own_entries d (record { drawer = drawer; event = event } ∷ log) ≡ own_entries d log
own-other d drawer event log apart = rw (ne_eqb drawer d apart) refl

-- a stripe's own entries
pub stripe-entries : (d keeper : ℕ) (log : List Draw) (acts : List Act) → d < keeper → own_entries d (log_after keeper log acts) ≡ backward (drawn_by_stripe d (length log) acts) ++ own_entries d log
stripe-entries d keeper log [] low = refl
stripe-entries d keeper log (stripe_drew k event ∷ acts) low =
    let next : length (record { drawer = k; event = event } ∷ log) ≡ length log + 1 = omega arith in
    let rest = stripe-entries d keeper (record { drawer = k; event = event } ∷ log) acts low
    ∙ ap (λ n. backward (drawn_by_stripe d n acts) ++ own_entries d (record { drawer = k; event = event } ∷ log)) next in
    elim (eqb_tells d k) [
      | inl same ↦ rw (same.0) (rest ∙ own-more d k event log (drawn_by_stripe d (length log + 1) acts) (sym same.1))
      | inr apart ↦ rw (apart.0) (rest ∙ ap (λ es. backward (drawn_by_stripe d (length log + 1) acts) ++ es) (own-other d k event log (λ is. apart.1 (sym is))))
    ]
stripe-entries d keeper log (keeper_drew event ∷ acts) low =
    let next : length (record { drawer = keeper; event = event } ∷ log) ≡ length log + 1 = omega arith in
    stripe-entries d keeper (record { drawer = keeper; event = event } ∷ log) acts low
    ∙ ap (λ n. backward (drawn_by_stripe d n acts) ++ own_entries d (record { drawer = keeper; event = event } ∷ log)) next
    ∙ ap (λ es. backward (drawn_by_stripe d (length log + 1) acts) ++ es) (own-other d keeper event log (λ is. omega (arith, low, is)))
stripe-entries d keeper log (stay_began stay ∷ acts) low = stripe-entries d keeper log acts low
stripe-entries d keeper log (stay_ended k begun ∷ acts) low = stripe-entries d keeper log acts low
stripe-entries d keeper log (era_moved ∷ acts) low = stripe-entries d keeper log acts low
stripe-entries d keeper log (exchange_failed miss ∷ acts) low = stripe-entries d keeper log acts low

-- the keeper's own entries, where all stripes that draw are below its number
pub keeper-entries : (n : ℕ) (a : Account) (log : List Draw) (acts : List Act) → IsLegalFrom n a acts → own_entries n (log_after n log acts) ≡ backward (drawn_by_keeper (length log) acts) ++ own_entries n log
keeper-entries n a log [] legal = refl
keeper-entries n a log (stripe_drew k event ∷ acts) legal =
    let next : length (record { drawer = k; event = event } ∷ log) ≡ length log + 1 = omega arith in
    let low = legal.0.0 in
    keeper-entries n (after a (stripe_drew k event)) (record { drawer = k; event = event } ∷ log) acts legal.1
    ∙ ap (λ n'. backward (drawn_by_keeper n' acts) ++ own_entries n (record { drawer = k; event = event } ∷ log)) next
    ∙ ap (λ es. backward (drawn_by_keeper (length log + 1) acts) ++ es) (own-other n k event log (λ is. omega (arith, low, is)))
keeper-entries n a log (keeper_drew event ∷ acts) legal =
    let next : length (record { drawer = n; event = event } ∷ log) ≡ length log + 1 = omega arith in
    keeper-entries n (after a (keeper_drew event)) (record { drawer = n; event = event } ∷ log) acts legal.1
    ∙ ap (λ n'. backward (drawn_by_keeper n' acts) ++ own_entries n (record { drawer = n; event = event } ∷ log)) next
    ∙ own-more n n event log (drawn_by_keeper (length log + 1) acts) refl
keeper-entries n a log (stay_began stay ∷ acts) legal = keeper-entries n (after a (stay_began stay)) log acts legal.1
keeper-entries n a log (stay_ended k begun ∷ acts) legal = keeper-entries n (after a (stay_ended k begun)) log acts legal.1
keeper-entries n a log (era_moved ∷ acts) legal = keeper-entries n (after a era_moved) log acts legal.1
keeper-entries n a log (exchange_failed miss ∷ acts) legal = keeper-entries n (after a (exchange_failed miss)) log acts legal.1

-- notes with these entries
pub stripe-notes : (d n : ℕ) (acts : List Act) (notes : List Note) → d < n → entries_of notes ≡ drawn_by_stripe d 0 acts → noted_entries notes ≡ own_entries d (log_of n acts)
stripe-notes d n acts notes low are =
    notes-backward notes ∙ ap backward are ∙ sym (stripe-entries d n [] acts low ∙ append-nil (backward (drawn_by_stripe d 0 acts)))

pub keeper-notes : (n : ℕ) (a : Account) (acts : List Act) (notes : List Note) → IsLegalFrom n a acts → entries_of notes ≡ drawn_by_keeper 0 acts → noted_entries notes ≡ own_entries n (log_of n acts)
keeper-notes n a acts notes legal are =
    notes-backward notes ∙ ap backward are ∙ sym (keeper-entries n a [] acts legal ∙ append-nil (backward (drawn_by_keeper 0 acts)))
