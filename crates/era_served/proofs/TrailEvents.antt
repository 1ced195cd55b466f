-- The events of a command in a history of numbered entries.
use Rattle.std.proofs.Common.{◌≡◌, ℕ, ◌+◌, ◌<◌, ◌≤◌, cond, Bool, true, false, List, [], ◌∷◌, ◌++◌, filter, length, append_assoc, append-nil, refl, sym, ap, ap₂, ◌∙◌, arith, slice_index_or, if◌then◌else◌}
use Rattle.std.proofs.lemmas.Bool.{eq-eqb, ne_eqb}
use Rattle.std.specs.Prelude.{All}
use Rattle.std.proofs.lemmas.List.Elements.{All-head, All-tail, All-nil, All-cons, All-weaker, filter-append}
use Rattle.era_base.specs.declared.ids.CmdId.{CmdId}
use Rattle.era_gate.specs.Rule.{Each}
use Rattle.era_model.specs.Commands.{events_of}
use Rattle.era_model.specs.Events.{drawn_by, same_id}
use Rattle.era_model.specs.History.{next_place}
use Rattle.era_model.specs.Journal.{AreNumberedFrom, history_after}
use Rattle.era_model.specs.Transcript.{replies_text, reply_line, rounds_text}
use Rattle.era_model.specs.declared.entry.Entry.{Entry}
use Rattle.era_model.specs.declared.event.Event.{Event}
use Rattle.era_model.specs.declared.history.Happening.{Happening}
use Rattle.era_model.specs.declared.history.Happening.TheVariants.{Happened}
use Rattle.era_model.proofs.CommandReplies.{same_id-refl}
use Rattle.era_served.specs.Served.{AreOfLane, Served, commands_of, entries_of, joined, rounds_of, served_text}
use Rattle.era_session.specs.Trails.{with_places}

-- An entry that the command drew.
abbrev pub is_by : CmdId → Entry → Bool
is_by id e = same_id (drawn_by e.event) id

-- An entry with its place.
abbrev placed : Entry → ℕ × Event
placed e = (e.place, e.event)

-- the events of a command in a history with more entries
place-step : (b : Bool) (h : List Happening) (id : CmdId) (e : Entry) (later : List (ℕ × Event)) (fs : List Entry) → e.place ≡ next_place h → later ≡ with_places fs
    → (if b then events_of h id ++ (next_place h, e.event) ∷ [] else events_of h id) ++ later ≡ events_of h id ++ with_places (cond b (e ∷ fs) fs)
place-step true h id e later fs at are = rw (← at) (append_assoc (events_of h id) ((e.place, e.event) ∷ []) later ∙ ap (λ xs. events_of h id ++ (e.place, e.event) ∷ xs) are)
place-step false h id e later fs at are = ap (λ xs. events_of h id ++ xs) are

pub events-after : (h : List Happening) (id : CmdId) (es : List Entry) → AreNumberedFrom (next_place h) es → events_of (history_after h es) id ≡ events_of h id ++ with_places (filter (is_by id) es)
events-after h id [] numbered = sym (append-nil (events_of h id))
events-after h id (e ∷ es) numbered =
    events-after (Happened e.event ∷ h) id es numbered.1
    ∙ place-step (same_id (drawn_by e.event) id) h id e (with_places (filter (is_by id) es)) (filter (is_by id) es) numbered.0 refl

-- the next place of a history with more entries
pub place-after : (h : List Happening) (es : List Entry) → next_place (history_after h es) ≡ next_place h + length es
place-after h [] = omega arith
place-after h (e ∷ es) = let rest = place-after (Happened e.event ∷ h) es in omega (arith, rest)

-- A command's trail is its own.
abbrev pub OwnsTrail : Served → Type 0
OwnsTrail one = Each (λ (e : Entry). drawn_by e.event ≡ one.command.id) one.trail

own-kept : (id by : CmdId) (es : List Entry) → Each (λ (e : Entry). drawn_by e.event ≡ by) es → by ≡ id → filter (is_by id) es ≡ es
own-kept id by [] own same = refl
own-kept id by (e ∷ es) own same = rw (own.0, same, same_id-refl id) (ap (λ xs. e ∷ xs) (own-kept id by es own.1 same))

other-dropped : (id by : CmdId) (es : List Entry) → Each (λ (e : Entry). drawn_by e.event ≡ by) es → same_id by id ≡ false → filter (is_by id) es ≡ []
other-dropped id by [] own other = refl
other-dropped id by (e ∷ es) own other = rw (own.0, other) (other-dropped id by es own.1 other)

-- commands of one lane with other numbers are others
number-apart : (lane first second : ℕ) → (first ≡ second → ⊥) → same_id (record { lane = lane; number = first }) (record { lane = lane; number = second }) ≡ false
number-apart lane first second apart = rw (eq-eqb lane lane refl, ne_eqb first second apart) refl

-- the commands of a lane have numbers from the first one on
abbrev IsFrom : ℕ → ℕ → Served → Type 0
IsFrom lane number one = (n : ℕ) × (number ≤ n) × (one.command.id ≡ record { lane = lane; number = n })

pub numbers-from : (lane number : ℕ) (served : List Served) → AreOfLane lane number (commands_of served) → All (IsFrom lane number) served
numbers-from lane number [] are = All-nil (IsFrom lane number)
numbers-from lane number (one ∷ more) are =
    All-cons (IsFrom lane number) one more (number, omega arith, are.0)
    (All-weaker (IsFrom lane (number + 1)) (IsFrom lane number) (λ other from. let low = from.1 in (from.0, omega (arith, low), from.2)) more (numbers-from lane (number + 1) more are.1))

-- a command before all of these has none of the entries of them
none-later : (lane number n : ℕ) (served : List Served) → n < number → AreOfLane lane number (commands_of served) → Each OwnsTrail served → filter (is_by (record { lane = lane; number = n })) (entries_of served) ≡ []
none-later lane number n [] low are own = refl
none-later lane number n (one ∷ more) low are own =
    let id : CmdId = record { lane = lane; number = n } in
    let apart : same_id one.command.id id ≡ false = ap (λ (by : CmdId). same_id by id) are.0 ∙ number-apart lane number n (λ is. omega (arith, is, low)) in
    filter-append (is_by id) one.trail (entries_of more)
    ∙ ap₂ (λ xs ys. xs ++ ys) (other-dropped id one.command.id one.trail own.0 apart) (none-later lane (number + 1) n more (omega (arith, low)) are.1 own.1)

-- Each command has just its trail of the entries.
abbrev pub HasTrail : List Entry → Served → Type 0
HasTrail es one = filter (is_by one.command.id) es ≡ one.trail

behind : (lane number : ℕ) (first : Served) (more : List Served) (one : Served) → first.command.id ≡ record { lane = lane; number = number } → OwnsTrail first → IsFrom lane (number + 1) one → HasTrail (entries_of more) one
    → HasTrail (entries_of (first ∷ more)) one
behind lane number first more one is own from has =
    let apart : same_id first.command.id one.command.id ≡ false =
    ap₂ same_id is from.2 ∙ number-apart lane number from.0 (λ same. let low = from.1 in omega (arith, same, low)) in
    filter-append (is_by one.command.id) first.trail (entries_of more)
    ∙ ap₂ (λ xs ys. xs ++ ys) (other-dropped one.command.id first.command.id first.trail own apart) has

pub have-trails : (lane number : ℕ) (served : List Served) → AreOfLane lane number (commands_of served) → Each OwnsTrail served → All (HasTrail (entries_of served)) served
have-trails lane number [] are own = All-nil (HasTrail [])
have-trails lane number (one ∷ more) are own =
    let from = numbers-from lane (number + 1) more are.1 in
    let rest = have-trails lane (number + 1) more are.1 own.1 in
    All-cons (HasTrail (entries_of (one ∷ more))) one more
    (filter-append (is_by one.command.id) one.trail (entries_of more)
    ∙ ap₂ (λ xs ys. xs ++ ys) (own-kept one.command.id one.command.id one.trail own.0 refl)
    (ap (λ (id : CmdId). filter (is_by id) (entries_of more)) are.0 ∙ none-later lane (number + 1) number more (omega arith) are.1 own.1)
    ∙ append-nil one.trail)
    (λ k d lt. behind lane number one more (slice_index_or more k d) are.0 own.0 (from k d lt) (rest k d lt))

-- a fact of each command
pub each-all : (P : Served → Type 0) (served : List Served) → Each P served → All P served
each-all P [] each = All-nil P
each-all P (one ∷ more) each = All-cons P one more each.0 (each-all P more each.1)

-- Each command has just its trail of the events of a history.
abbrev pub HasEvents : List Happening → Served → Type 0
HasEvents h one = events_of h one.command.id ≡ with_places one.trail

-- the replies by such a history are those by the trails
replies-of : (h : List Happening) (served : List Served) → All (HasEvents h) served → replies_text h (commands_of served) ≡ served_text served
replies-of h [] has = refl
replies-of h (one ∷ more) has =
    ap₂ (λ xs ys. xs ++ ys) (ap (reply_line one.command.line) (All-head (HasEvents h) one more has)) (replies-of h more (All-tail (HasEvents h) one more has))

texts-append : (first second : List Served) → served_text (first ++ second) ≡ served_text first ++ served_text second
texts-append [] second = refl
texts-append (one ∷ first) second =
    ap (λ xs. reply_line one.command.line (with_places one.trail) ++ xs) (texts-append first second)
    ∙ sym (append_assoc (reply_line one.command.line (with_places one.trail)) (served_text first) (served_text second))

first-all : (P : Served → Type 0) (first second : List Served) → All P (first ++ second) → All P first
first-all P [] second all = All-nil P
first-all P (one ∷ first) second all = All-cons P one first (All-head P one (first ++ second) all) (first-all P first second (All-tail P one (first ++ second) all))

second-all : (P : Served → Type 0) (first second : List Served) → All P (first ++ second) → All P second
second-all P [] second all = all
second-all P (one ∷ first) second all = second-all P first second (All-tail P one (first ++ second) all)

pub rounds-of : (h : List Happening) (rounds : List (List Served)) → All (HasEvents h) (joined rounds) → rounds_text h (rounds_of rounds) ≡ served_text (joined rounds)
rounds-of h [] has = refl
rounds-of h (round ∷ rounds) has =
    ap₂ (λ xs ys. xs ++ ys) (append-nil (replies_text h (commands_of round)) ∙ replies-of h round (first-all (HasEvents h) round (joined rounds) has))
    (rounds-of h rounds (second-all (HasEvents h) round (joined rounds) has))
    ∙ sym (texts-append round (joined rounds))
