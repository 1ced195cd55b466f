-- A write in flight of a stripe's own draws was issued by that stripe's drawer: so events that name it are drawn at that part.
use Rattle.std.proofs.Common.{◌≡◌, ℕ, ◌==◌, ◌&&◌, ◌||◌, Bool, true, false, List, [], ◌∷◌, Some, refl, ap, sym, ◌∙◌, subst, inl, inr, if◌then◌else◌}
use mathlib.Core.Bool.{true≢false}
use Rattle.std.specs.Prelude.{not, option_map}
use Rattle.std.proofs.lemmas.Bool.{and_parts, cond_both, eqb-true, eq-eqb, or_cases, or_left, or_right}
use Rattle.era_base.specs.declared.ids.CmdId.{CmdId}
use Rattle.era_model.specs.declared.event.Event.{Event}
use Rattle.era_model.specs.declared.event.Event.TheVariants.{Go, Done, Cut, Settle}
use Rattle.era_model.specs.declared.flight.FlightWrite.{FlightWrite}
use Rattle.era_model.specs.declared.history.Happening.{Happening}
use Rattle.era_model.specs.declared.history.Happening.TheVariants.{Opened, Happened, Crashed}
use Rattle.era_model.specs.declared.opening.Opening.{Opening}
use Rattle.era_model.specs.CommandEvents.{written_block, written_stripe}
use Rattle.era_model.specs.Events.{is_go_of, same_id}
use Rattle.era_model.specs.History.{in_flight, stripe_now}
use Rattle.era_model.specs.Marking.{some_event}
use Rattle.era_model.specs.Writes.{is_cut, is_writing, with_cut, without}
use Rattle.era_notes.specs.Logs.{Draw, drawer_history, logged_history}
use Rattle.era_notes.specs.OwnDraws.{AreOwnDraws, OwnsDraw, flights_of}
use Rattle.era_promise.specs.Owners.{stripe_at}

-- a command is the same as itself, and the same command is equal
same-self : (id : CmdId) → same_id id id ≡ true
same-self id = rw (eq-eqb id.lane id.lane refl, eq-eqb id.number id.number refl) refl

pub same-equal : (id other : CmdId) → same_id id other ≡ true → id ≡ other
same-equal id other same =
    let both = and_parts (id.lane == other.lane) (id.number == other.number) same in
    let lane = eqb-true id.lane other.lane both.0 in
    let number = eqb-true id.number other.number both.1 in
    λ i. record { lane = lane i; number = number i }

-- a command that has written a block has issued a write
written-gone : (h : List Happening) (id : CmdId) (block : ℕ) → written_block h id ≡ Some block → some_event h (is_go_of id) ≡ true
written-gone [] id block is = absurd (cc)
written-gone (Opened opening ∷ h) id block is = absurd (cc)
written-gone (Happened (Go other written era first bytes) ∷ h) id block is =
    cond_both (same_id other id) (Some written) (written_block h id) (λ found. found ≡ Some block → (same_id other id || some_event h (is_go_of id)) ≡ true)
    (λ this found. or_left (same_id other id) (some_event h (is_go_of id)) this)
    (λ apart found. or_right (same_id other id) (some_event h (is_go_of id)) (written-gone h id block found)) is
written-gone (Happened event ∷ h) id block is = or_right (is_go_of id event) (some_event h (is_go_of id)) (written-gone h id block is)
written-gone (Crashed images ∷ h) id block is = written-gone h id block is

-- Each write is of the block to which its command issued one.
abbrev pub AreWritten : List Happening → List FlightWrite → Type 0
AreWritten h [] = Unit {0}
AreWritten h (write ∷ writes) = (written_block h write.id ≡ Some write.block) × AreWritten h writes

-- fewer of them, and with one of them cut
written-without : (h : List Happening) (writes : List FlightWrite) (id : CmdId) → AreWritten h writes → AreWritten h (without writes id)
written-without h [] id are = tt
written-without h (write ∷ writes) id are = elim (not (same_id write.id id)) as (λ (b : Bool). AreWritten h (if b then write ∷ without writes id else without writes id)) [
  | true ↦ (are.0, written-without h writes id are.1)
  | false ↦ written-without h writes id are.1
]

written-cut : (h : List Happening) (writes : List FlightWrite) (id : CmdId) → AreWritten h writes → AreWritten h (with_cut writes id)
written-cut h [] id are = tt
written-cut h (write ∷ writes) id are = (
  elim (same_id write.id id) as (λ (b : Bool). written_block h (if b then record write { cut = true } else write).id ≡ Some (if b then record write { cut = true } else write).block) [
    | true ↦ are.0
    | false ↦ are.0
  ],
  written-cut h writes id are.1,
)

-- one more write of a command that has issued none
written-more : (h : List Happening) (id : CmdId) (block era first : ℕ) (bytes : List ℕ) (writes : List FlightWrite) → some_event h (is_go_of id) ≡ false → AreWritten h writes
    → AreWritten (Happened (Go id block era first bytes) ∷ h) writes
written-more h id block era first bytes [] once are = tt
written-more h id block era first bytes (write ∷ writes) once are = (
  cond_both (same_id id write.id) (Some block) (written_block h write.id) (λ found. found ≡ Some write.block)
      (λ same. absurd (true≢false (sym (written-gone h id write.block (ap (written_block h) (same-equal id write.id same) ∙ are.0)) ∙ once)))
      (λ apart. are.0),
  written-more h id block era first bytes writes once are.1,
)

-- the writes in flight of a log
event-written : (h : List Happening) (event : Event) → AreWritten h (in_flight h) → ((id : CmdId) (block era first : ℕ) (bytes : List ℕ) → event ≡ Go id block era first bytes → some_event h (is_go_of id) ≡ false)
    → AreWritten (Happened event ∷ h) (in_flight (Happened event ∷ h))
event-written h (Go id block era first bytes) are once = (
  rw (same-self id) refl,
  written-more h id block era first bytes (in_flight h) (once id block era first bytes refl) are,
)
event-written h (Done id) are once = written-without h (in_flight h) id are
event-written h (Cut id faults) are once = written-cut h (in_flight h) id are
event-written h (Settle by cut bytes) are once = written-without h (in_flight h) cut are
event-written h event are once = are

pub log-written : (opening : Opening) (drawer_of : ℕ → ℕ) (log : List Draw) → AreOwnDraws opening drawer_of log → AreWritten (logged_history opening log) (in_flight (logged_history opening log))
log-written opening drawer_of [] owns = tt
log-written opening drawer_of (draw ∷ earlier) owns =
    event-written (logged_history opening earlier) draw.event (log-written opening drawer_of earlier owns.1)
    (λ id block era first bytes is. (subst (OwnsDraw drawer_of draw.drawer (drawer_history opening draw.drawer earlier) (logged_history opening earlier)) is owns.0).1)

-- Whether one of the writes is of the command.
abbrev pub has_write : List FlightWrite → CmdId → Bool
has_write [] id = false
has_write (write ∷ writes) id = same_id write.id id || has_write writes id

pub writing-has : (writes : List FlightWrite) (id : CmdId) → is_writing writes id ≡ true → has_write writes id ≡ true
writing-has [] id is = absurd (cc)
writing-has (write ∷ writes) id is = elim (or_cases (same_id write.id id && not write.cut) (is_writing writes id) is) [
  | inl this ↦ or_left (same_id write.id id) (has_write writes id) (and_parts (same_id write.id id) (not write.cut) this).0
  | inr other ↦ or_right (same_id write.id id) (has_write writes id) (writing-has writes id other)
]

pub cut-has : (writes : List FlightWrite) (id : CmdId) → is_cut writes id ≡ true → has_write writes id ≡ true
cut-has [] id is = absurd (cc)
cut-has (write ∷ writes) id is = elim (or_cases (same_id write.id id && write.cut) (is_cut writes id) is) [
  | inl this ↦ or_left (same_id write.id id) (has_write writes id) (and_parts (same_id write.id id) write.cut this).0
  | inr other ↦ or_right (same_id write.id id) (has_write writes id) (cut-has writes id other)
]

-- The command issued a write, to a block of the drawer.
pub record HasWritten (h : List Happening) (drawer_of : ℕ → ℕ) (drawer : ℕ) (id : CmdId) : Type 0 where
  pub block : ℕ
  pub written : written_block h id ≡ Some block
  pub of : drawer_of block ≡ drawer

pub found-written : (h : List Happening) (drawer_of : ℕ → ℕ) (drawer : ℕ) (writes : List FlightWrite) (id : CmdId) → AreWritten h writes → has_write (flights_of drawer_of drawer writes) id ≡ true → HasWritten h drawer_of drawer id
found-written h drawer_of drawer [] id are has = absurd (cc)
found-written h drawer_of drawer (write ∷ writes) id are has =
    cond_both (drawer_of write.block == drawer) (write ∷ flights_of drawer_of drawer writes) (flights_of drawer_of drawer writes) (λ ws. has_write ws id ≡ true → HasWritten h drawer_of drawer id)
    (λ of some. elim (or_cases (same_id write.id id) (has_write (flights_of drawer_of drawer writes) id) some) [
      | inl this ↦ record { block = write.block; written = ap (written_block h) (sym (same-equal write.id id this)) ∙ are.0; of = eqb-true (drawer_of write.block) drawer of }
      | inr other ↦ found-written h drawer_of drawer writes id are.1 other
    ])
    (λ apart some. found-written h drawer_of drawer writes id are.1 some)
    has

-- the stripe of a block, in a session
pub stripe-log : (opening : Opening) (log : List Draw) (block : ℕ) → stripe_now (logged_history opening log) block ≡ stripe_at opening block
stripe-log opening [] block = refl
stripe-log opening (draw ∷ earlier) block = stripe-log opening earlier block

-- What own draws and the whole log have in common of the writes in flight.
abbrev pub FlightsAgree : Type 0
FlightsAgree = (opening : Opening) (drawer_of : ℕ → ℕ) (log : List Draw) (drawer : ℕ) → AreOwnDraws opening drawer_of log → flights_of drawer_of drawer (in_flight (logged_history opening log)) ≡ in_flight (drawer_history opening drawer log)

own-written : FlightsAgree → (opening : Opening) (log : List Draw) (drawer : ℕ) (id : CmdId) → AreOwnDraws opening (stripe_at opening) log → has_write (in_flight (drawer_history opening drawer log)) id ≡ true
    → written_stripe (logged_history opening log) id ≡ Some drawer
own-written agree opening log drawer id owns has =
    let h = logged_history opening log in
    let found = found-written h (stripe_at opening) drawer (in_flight h) id (log-written opening (stripe_at opening) log owns) (ap (λ writes. has_write writes id) (agree opening (stripe_at opening) log drawer owns) ∙ has) in
    ap (option_map (stripe_now h)) found.written ∙ ap Some (stripe-log opening log found.block ∙ found.of)

pub writing-stripe : FlightsAgree → (opening : Opening) (log : List Draw) (drawer : ℕ) (id : CmdId) → AreOwnDraws opening (stripe_at opening) log → is_writing (in_flight (drawer_history opening drawer log)) id ≡ true
    → written_stripe (logged_history opening log) id ≡ Some drawer
writing-stripe agree opening log drawer id owns is = own-written agree opening log drawer id owns (writing-has (in_flight (drawer_history opening drawer log)) id is)

pub cut-stripe : FlightsAgree → (opening : Opening) (log : List Draw) (drawer : ℕ) (id : CmdId) → AreOwnDraws opening (stripe_at opening) log → is_cut (in_flight (drawer_history opening drawer log)) id ≡ true
    → written_stripe (logged_history opening log) id ≡ Some drawer
cut-stripe agree opening log drawer id owns is = own-written agree opening log drawer id owns (cut-has (in_flight (drawer_history opening drawer log)) id is)
