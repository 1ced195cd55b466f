-- Marks that stand directly behind their requests in each lane follow them in the log.
use Rattle.std.proofs.Common.{◌≡◌, ℕ, ◌<◌, ◌≤◌, arith, ◌==◌, Bool, true, false, List, [], ◌∷◌, ◌++◌, length, Option, None, Some, refl, ap, sym, ◌∙◌, subst, inl, inr, if◌then◌else◌}
use Rattle.std.specs.Prelude.{All}
use Rattle.std.proofs.lemmas.Bool.{eq-eqb, ne_eqb}
use Rattle.std.proofs.lemmas.Bool.Decides.{eqb_tells}
use Rattle.std.proofs.lemmas.List.{append-nil}
use Rattle.std.proofs.lemmas.List.Elements.{All-head, All-tail, filter-append}
use Rattle.std.proofs.lemmas.Option.{same_Some}
use Rattle.era_base.specs.declared.ids.CmdId.{CmdId}
use Rattle.era_gate.specs.Acts.{lane_of}
use Rattle.era_gate.specs.Receipts.{entries_for}
use Rattle.era_gate.specs.Requests.{IsAskedBy, MarksStandBehindRequests}
use Rattle.era_journal.specs.Requests.{FollowsRequest, MarksFollowRequests}
use Rattle.era_model.specs.declared.entry.Entry.{Entry}
use Rattle.era_model.specs.declared.event.Event.{Event}
use Rattle.era_model.specs.declared.event.Event.TheVariants.{Tried, Mark}
use Rattle.era_model.specs.declared.opening.Opening.{Opening}
use Rattle.era_model.specs.Events.{drawn_by, same_id}
use Rattle.era_model.specs.Marking.{last_drawn}
use Rattle.era_notes.specs.Logs.{Draw, logged_history}
use Rattle.era_promise.specs.Owners.{logged_entries}

-- The last event of a lane in a log, or none.
abbrev lane_last : ℕ → List Draw → Option Event
lane_last l [] = None
lane_last l (draw ∷ earlier) = if l == lane_of draw.event then Some draw.event else lane_last l earlier

-- The last event of entries, or the one before them.
abbrev last_of : Option Event → List Entry → Option Event
last_of before [] = before
last_of before (entry ∷ entries) = last_of (Some entry.event) entries

last-behind : (before : Option Event) (entries : List Entry) (entry : Entry) → last_of before (entries ++ entry ∷ []) ≡ Some entry.event
last-behind before [] entry = refl
last-behind before (first ∷ entries) entry = last-behind (Some first.event) entries entry

asked-behind : (before : Option Event) (entries : List Entry) (entry : Entry) → MarksStandBehindRequests before (entries ++ entry ∷ []) → MarksStandBehindRequests before entries × IsAskedBy (last_of before entries) entry.event
asked-behind before [] entry stand = (tt, stand.0)
asked-behind before (first ∷ entries) entry stand = let rest = asked-behind (Some first.event) entries entry stand.1 in ((stand.0, rest.0), rest.1)

-- one more entry of a lane, or of another one
abbrev entry_of : Draw → List Draw → Entry
entry_of draw earlier = record { place = length earlier; event = draw.event }

lane-more : (l : ℕ) (draw : Draw) (earlier : List Draw) → (l == lane_of draw.event) ≡ true → entries_for l (logged_entries (draw ∷ earlier)) ≡ entries_for l (logged_entries earlier) ++ entry_of draw earlier ∷ []
lane-more l draw earlier is = filter-append (λ (e : Entry). l == lane_of e.event) (logged_entries earlier) (entry_of draw earlier ∷ []) ∙ one
  where
    one : entries_for l (logged_entries earlier) ++ entries_for l (entry_of draw earlier ∷ []) ≡ entries_for l (logged_entries earlier) ++ entry_of draw earlier ∷ []
    one = rw is refl

lane-same : (l : ℕ) (draw : Draw) (earlier : List Draw) → (l == lane_of draw.event) ≡ false → entries_for l (logged_entries (draw ∷ earlier)) ≡ entries_for l (logged_entries earlier)
lane-same l draw earlier is = filter-append (λ (e : Entry). l == lane_of e.event) (logged_entries earlier) (entry_of draw earlier ∷ []) ∙ none
  where
    none : entries_for l (logged_entries earlier) ++ entries_for l (entry_of draw earlier ∷ []) ≡ entries_for l (logged_entries earlier)
    none = rw is (append-nil (entries_for l (logged_entries earlier)))

lane-last : (l : ℕ) (log : List Draw) → last_of None (entries_for l (logged_entries log)) ≡ lane_last l log
lane-last l [] = refl
lane-last l (draw ∷ earlier) = by (lane-last l earlier) (l == lane_of draw.event) refl
  where
    by : last_of None (entries_for l (logged_entries earlier)) ≡ lane_last l earlier → (b : Bool) → (l == lane_of draw.event) ≡ b → last_of None (entries_for l (logged_entries (draw ∷ earlier))) ≡ (if l == lane_of draw.event then Some draw.event else lane_last l earlier)
    by before true is = ap (last_of None) (lane-more l draw earlier is) ∙ last-behind None (entries_for l (logged_entries earlier)) (entry_of draw earlier) ∙ ap (λ b. if b then Some draw.event else lane_last l earlier) (sym is)
    by before false is = ap (last_of None) (lane-same l draw earlier is) ∙ before ∙ ap (λ b. if b then Some draw.event else lane_last l earlier) (sym is)

-- a draw of a lane, and the draws before it
draw-asked : (l : ℕ) (draw : Draw) (earlier : List Draw) → (l == lane_of draw.event) ≡ true → MarksStandBehindRequests None (entries_for l (logged_entries (draw ∷ earlier))) → IsAskedBy (lane_last l earlier) draw.event
draw-asked l draw earlier is stand =
    subst (λ before. IsAskedBy before draw.event) (lane-last l earlier)
    (asked-behind None (entries_for l (logged_entries earlier)) (entry_of draw earlier) (subst (MarksStandBehindRequests None) (lane-more l draw earlier is) stand)).1

asked-before : (l : ℕ) (draw : Draw) (earlier : List Draw) → MarksStandBehindRequests None (entries_for l (logged_entries (draw ∷ earlier))) → MarksStandBehindRequests None (entries_for l (logged_entries earlier))
asked-before l draw earlier stand = by (l == lane_of draw.event) refl
  where
    by : (b : Bool) → (l == lane_of draw.event) ≡ b → MarksStandBehindRequests None (entries_for l (logged_entries earlier))
    by true is = (asked-behind None (entries_for l (logged_entries earlier)) (entry_of draw earlier) (subst (MarksStandBehindRequests None) (lane-more l draw earlier is) stand)).0
    by false is = subst (MarksStandBehindRequests None) (lane-same l draw earlier is) stand

-- the last event of a lane is the last one of its command
last-of-command : (opening : Opening) (log : List Draw) (id : CmdId) (event : Event) → lane_last id.lane log ≡ Some event → same_id (drawn_by event) id ≡ true → last_drawn (logged_history opening log) id ≡ Some event
last-of-command opening [] id event is same = absurd (cc)
last-of-command opening (draw ∷ earlier) id event is same = elim (eqb_tells id.lane (lane_of draw.event)) [
  | inl mine ↦
      let this : draw.event ≡ event = same_Some draw.event event (rw (mine.0) at is) in
      let own : same_id (drawn_by draw.event) id ≡ true = ap (λ e. same_id (drawn_by e) id) this ∙ same in
      rw own (ap (λ e. Some e) this)
  | inr other ↦
      let apart : ((drawn_by draw.event).lane == id.lane) ≡ false = ne_eqb (drawn_by draw.event).lane id.lane (λ lanes. other.1 (sym lanes)) in
      rw apart (last-of-command opening earlier id event (rw (other.0) at is) same)
]

follows : (opening : Opening) (draw : Draw) (earlier : List Draw) (event : Event) → draw.event ≡ event → ((l : ℕ) → MarksStandBehindRequests None (entries_for l (logged_entries (draw ∷ earlier)))) → FollowsRequest (logged_history opening earlier) event
follows opening draw earlier (Mark id block era) is stand =
    let lane : (id.lane == lane_of draw.event) ≡ true = eq-eqb id.lane (lane_of draw.event) (sym (ap lane_of is)) in
    let asked : IsAskedBy (lane_last id.lane earlier) (Mark id block era) = subst (IsAskedBy (lane_last id.lane earlier)) is (draw-asked id.lane draw earlier lane (stand id.lane)) in
    last-of-command opening earlier id (Tried id block era) asked (rw (eq-eqb id.lane id.lane refl, eq-eqb id.number id.number refl) refl)
follows opening draw earlier event is stand = tt

pub lanes-follow : (opening : Opening) (log : List Draw) → ((l : ℕ) → MarksStandBehindRequests None (entries_for l (logged_entries log))) → MarksFollowRequests opening log
lanes-follow opening [] stand = tt
lanes-follow opening (draw ∷ earlier) stand = (follows opening draw earlier draw.event refl stand, lanes-follow opening earlier (λ l. asked-before l draw earlier (stand l)))

-- no entry is of a lane beyond a bound
none-beyond : (l lanes : ℕ) (entries : List Entry) → lanes ≤ l → All (λ (entry : Entry). lane_of entry.event < lanes) entries → entries_for l entries ≡ []
none-beyond l lanes [] high below = refl
none-beyond l lanes (entry ∷ entries) high below =
    let first : lane_of entry.event < lanes = All-head (λ (entry : Entry). lane_of entry.event < lanes) entry entries below in
    rw (ne_eqb l (lane_of entry.event) (λ same. omega (arith, high, first, same)))
    (none-beyond l lanes entries high (All-tail (λ (entry : Entry). lane_of entry.event < lanes) entry entries below))

pub none-stand : (l lanes : ℕ) (entries : List Entry) → lanes ≤ l → All (λ (entry : Entry). lane_of entry.event < lanes) entries → MarksStandBehindRequests None (entries_for l entries)
none-stand l lanes entries high below = subst (MarksStandBehindRequests None) (sym (none-beyond l lanes entries high below)) tt
