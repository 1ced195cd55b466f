-- The history that entries leave: what it says of its opening, of its legality, and of a command's own writes.
use Rattle.std.proofs.Common.{◌≡◌, ℕ, Bool, true, false, List, ◌∷◌, ◌++◌, Option, Some, None, refl, sym, ap, ◌∙◌, subst, []}
use Rattle.std.specs.Prelude.{if◌then◌else◌}
use Rattle.std.proofs.Math.Seq.{take-length}
use Rattle.era_base.specs.declared.ids.CmdId.{CmdId}
use Rattle.era_gate.specs.Rule.{Each}
use Rattle.era_model.specs.CommandEvents.{written_block}
use Rattle.era_model.specs.Commands.{events_of}
use Rattle.era_model.specs.Events.{drawn_by, same_id}
use Rattle.era_model.specs.History.{at_opening, next_place}
use Rattle.era_model.specs.Journal.{history_after}
use Rattle.era_model.specs.Legal.{IsLegal, IsLegalJournal}
use Rattle.era_model.specs.SessionRun.{AreAllDrawnBy, is_among}
use Rattle.era_model.specs.declared.command.Command.{Command}
use Rattle.era_model.specs.declared.entry.Entry.{Entry}
use Rattle.era_model.specs.declared.event.Event.{Event}
use Rattle.era_model.specs.declared.event.Event.TheVariants.{Go}
use Rattle.era_model.specs.declared.history.Happening.{Happening}
use Rattle.era_model.specs.declared.history.Happening.TheVariants.{Opened, Happened}
use Rattle.era_model.specs.declared.journal.Journal.{Journal}
use Rattle.era_model.specs.declared.opening.Opening.{Opening}
use Rattle.era_served.specs.Served.{history_of}
use Rattle.era_session.specs.Receipts.{events_in}
use Rattle.era_session.specs.Trails.{with_places}

-- entries that follow one another
pub history-both : (h : List Happening) (a b : List Entry) → history_after h (a ++ b) ≡ history_after (history_after h a) b
history-both h [] b = refl
history-both h (e ∷ a) b = history-both (Happened e.event ∷ h) a b

-- the opening stays
pub opening-after : {T : Type 0} (none : T) (of : Opening → T) (h : List Happening) (entries : List Entry) → at_opening none of (history_after h entries) ≡ at_opening none of h
opening-after none of h [] = refl
opening-after none of h (e ∷ entries) = opening-after none of (Happened e.event ∷ h) entries

-- what a legal history went on from was legal
pub legal-before : (h : List Happening) (entries : List Entry) → IsLegal (history_after h entries) → IsLegal h
legal-before h [] legal = legal
legal-before h (e ∷ entries) legal = (legal-before (Happened e.event ∷ h) entries legal).2

-- the history of a legal journal is legal
pub legal-history : (journal : Journal) → IsLegalJournal journal → IsLegal (history_of journal)
legal-history journal legal =
    subst (λ (entries : List Entry). IsLegal (history_after (Opened journal.opening ∷ []) entries)) (take-length journal.entries) legal.legal

-- each event was drawn by one of the commands
pub drawn-after : (commands : List Command) (h : List Happening) (entries : List Entry) → AreAllDrawnBy commands h
    → Each (λ (e : Entry). is_among (drawn_by e.event) commands ≡ true) entries → AreAllDrawnBy commands (history_after h entries)
drawn-after commands h [] all drawn = all
drawn-after commands h (e ∷ entries) all drawn = drawn-after commands (Happened e.event ∷ h) entries (drawn.0, all) drawn.1

-- the block of the last write that events issue
abbrev pub go_found : Option ℕ → Event → Option ℕ
go_found found (Go id block era first bytes) = Some block
go_found found event = found

abbrev pub go_after : Option ℕ → List Event → Option ℕ
go_after found [] = found
go_after found (event ∷ events) = go_after (go_found found event) events

abbrev placed : List (ℕ × Event) → List Event
placed [] = []
placed (event ∷ events) = event.1 ∷ placed events

placed-both : (a b : List (ℕ × Event)) → placed (a ++ b) ≡ placed a ++ placed b
placed-both [] b = refl
placed-both (event ∷ a) b = ap (λ l. event.1 ∷ l) (placed-both a b)

placed-entries : (entries : List Entry) → placed (with_places entries) ≡ events_in entries
placed-entries [] = refl
placed-entries (e ∷ entries) = ap (λ l. e.event ∷ l) (placed-entries entries)

pub go-both : (found : Option ℕ) (a b : List Event) → go_after found (a ++ b) ≡ go_after (go_after found a) b
go-both found [] b = refl
go-both found (event ∷ a) b = go-both (go_found found event) a b

-- the block of a command's write is that of the last one among its events
abbrev KnowsWrite : CmdId → List Happening → Type 0
KnowsWrite id h = written_block h id ≡ go_after None (placed (events_of h id))

last-found : (before : List (ℕ × Event)) (place : ℕ) (event : Event) → go_after None (placed (before ++ (place, event) ∷ [])) ≡ go_found (go_after None (placed before)) event
last-found before place event = ap (go_after None) (placed-both before ((place, event) ∷ [])) ∙ go-both None (placed before) (event ∷ [])

other-event : (id : CmdId) (h : List Happening) (event : Event) → ((found : Option ℕ) → go_found found event ≡ found) → KnowsWrite id h → written_block h id ≡ go_after None (placed (events_of (Happened event ∷ h) id))
other-event id h event none knows = on (same_id (drawn_by event) id)
  where
    on : (own : Bool) → written_block h id ≡ go_after None (placed (if own then events_of h id ++ (next_place h, event) ∷ [] else events_of h id))
    on true = knows ∙ sym (none (go_after None (placed (events_of h id)))) ∙ sym (last-found (events_of h id) (next_place h) event)
    on false = knows

knows-next : (id : CmdId) (h : List Happening) (event : Event) → KnowsWrite id h → KnowsWrite id (Happened event ∷ h)
knows-next id h (Go other block era first bytes) knows = on (same_id other id)
  where
    go : Event
    go = Go other block era first bytes

    on : (own : Bool) → (if own then Some block else written_block h id) ≡ go_after None (placed (if own then events_of h id ++ (next_place h, go) ∷ [] else events_of h id))
    on true = sym (last-found (events_of h id) (next_place h) go)
    on false = knows
knows-next id h event knows = other-event id h event (λ found. refl) knows

knows-after : (id : CmdId) (h : List Happening) (entries : List Entry) → KnowsWrite id h → KnowsWrite id (history_after h entries)
knows-after id h [] knows = knows
knows-after id h (e ∷ entries) knows = knows-after id (Happened e.event ∷ h) entries (knows-next id h e.event knows)

pub written-is : (journal : Journal) (id : CmdId) (trail : List Entry) → events_of (history_of journal) id ≡ with_places trail → written_block (history_of journal) id ≡ go_after None (events_in trail)
written-is journal id trail are =
    knows-after id (Opened journal.opening ∷ []) journal.entries refl ∙ ap (λ (l : List (ℕ × Event)). go_after None (placed l)) are ∙ ap (go_after None) (placed-entries trail)
