-- What the calls of a gate ask of seats and passes, and how they change them. Stripe, keeper and target cite these words.
use Rattle.std.specs.Prelude.{◌≡◌, ℕ, ◌+◌, ◌-◌, ◌<◌, ◌==◌, ◌&&◌, ◌||◌, not, nat_lt, max, cond, Bool, true, false, List, [], ◌∷◌, ◌++◌, map, filter, length, Some, None}
use Rattle.std.specs.Int.{div_ceil}
pub use Rattle.atomic_table.specs.Seated.{TableId}
use Rattle.era_base.specs.Flags.{tabulate}
use Rattle.era_base.specs.Geometry.{blocks_of}
use Rattle.era_base.specs.declared.ids.CmdId.{CmdId}
use Rattle.era_base.specs.declared.geometry.Geometry.{Geometry}
use Rattle.era_model.specs.declared.entry.Entry.{Entry}
use Rattle.era_model.specs.declared.event.Event.{Event}
use Rattle.era_model.specs.declared.event.Event.TheVariants.{Tried, Mark, Go, Done, Cut, Settle, Unsettled, Read, Roll, Kept, Snap, Dropped, Digest, Status, Refused}
use Rattle.era_model.specs.declared.event.Event.TheVariants.{List as ListDrawn}
use Rattle.era_model.specs.Writes.{is_writing, is_cut}
use Rattle.era_gate.specs.declared.stays.Stay.{Stay}
use Rattle.era_gate.specs.declared.stays.Receipt.{Receipt}
use Rattle.era_gate.specs.declared.stays.Receipt.TheVariants.{OfEvent, OfStay}
use Rattle.era_gate.specs.declared.parts.StripePart.{StripePart}
use Rattle.era_gate.specs.declared.parts.KeeperPart.{KeeperPart}
use Rattle.era_gate.specs.declared.parts.LanePart.{LanePart}
use Rattle.era_gate.specs.declared.parts.PassPart.{PassPart}
use Rattle.era_gate.specs.declared.plan.Plan.{Plan}
use Rattle.era_gate.specs.Acts.{flights, entry, lane_of, stripe_with, stripe_in, stripe_out, keeper_with, keeper_moved, keeper_missed, has_go, found_of}
pub use Rattle.era_gate.specs.Parts.{new_stripe, new_keeper, new_pass, has_lane, most, only_at}
use Rattle.era_gate.specs.Rule.{weight}

-- What a contract sees of a gate: its table and its plan.
pub record GateToken : Type 0 where
  pub table : TableId
  pub plan : Plan

-- What a contract sees of a stripe's seat.
pub record StripeToken : Type 0 where
  pub table : TableId
  pub part : StripePart

-- What a contract sees of the keeper's seat.
pub record KeeperToken : Type 0 where
  pub table : TableId
  pub part : KeeperPart

-- What a contract sees of a pass.
pub record PassToken : Type 0 where
  pub table : TableId
  pub part : PassPart

-- The words of 64 bits that hold a bit a block.
abbrev pub words_of : ℕ → ℕ
words_of blocks = div_ceil blocks 64

-- The plan of a gate over an origin.
abbrev pub plan_of : Geometry → ℕ → ℕ → Plan
plan_of geometry era stripes = record {
  stripes = stripes;
  blocks = blocks_of geometry.sectors geometry.block_sectors;
  words = words_of (blocks_of geometry.sectors geometry.block_sectors);
  era = era;
}

-- Whether a block was seen in the present stay.
abbrev pub has_seen : ℕ → List ℕ → Bool
has_seen block [] = false
has_seen block (seen ∷ rest) = block == seen || has_seen block rest

-- Whether the lanes have a receipt that a write of the command was issued.
abbrev pub has_gone : CmdId → List LanePart → Bool
has_gone id [] = false
has_gone id (part ∷ parts) = has_go id part.receipts || has_gone id parts

-- Whether the event is a mark of the block in the era.
abbrev pub is_mark : ℕ → ℕ → Event → Bool
is_mark block era (Mark id marked stored) = marked == block && stored == era
is_mark block era event = false

-- Whether a mark of the block in the era is among the entries.
abbrev pub has_mark : ℕ → ℕ → List Entry → Bool
has_mark block era [] = false
has_mark block era (e ∷ es) = is_mark block era e.event || has_mark block era es

-- The next stay of a stripe, by a command with a pass.
abbrev pub stay_of : StripePart → PassPart → CmdId → Stay
stay_of part pass id = record { id = id; stripe = part.stripe; number = length part.state.stays; floor = pass.floor }

-- A lane after a receipt for one lane.
abbrev pub receives : ℕ → Receipt → LanePart → LanePart
receives lane receipt part = record { lane = part.lane; receipts = cond (part.lane == lane) (part.receipts ++ receipt ∷ []) part.receipts }

-- A stripe that entered: it is inside in the word's era.
abbrev pub enters : StripePart → Stay → ℕ → StripePart
enters part stay era = record { stripe = part.stripe; era = era; seen = part.seen; state = stripe_in stay part.state }

-- The pass by which a stripe entered: it has a receipt, and knows that the stay has begun.
abbrev pub pass_enters : PassPart → Stay → PassPart
pass_enters pass stay = record {
  lanes = map (receives stay.id.lane (OfStay stay)) pass.lanes;
  begun = most pass.begun (only_at stay.stripe (stay.number + 1));
  ended = pass.ended;
  floor = pass.floor;
  budget = pass.budget;
}

-- A stripe that looked at a block's bit: a set bit is kept.
abbrev pub sees : StripePart → Bool → ℕ → StripePart
sees part set block = record { stripe = part.stripe; era = part.era; seen = cond set (block ∷ part.seen) part.seen; state = part.state }

-- A stripe that left: it is outside and has seen nothing.
abbrev pub leaves : StripePart → StripePart
leaves part = record { stripe = part.stripe; era = part.era; seen = []; state = stripe_out part.state }

-- The pass by which a stripe left: it knows all stays of the stripe as ended.
abbrev pub pass_leaves : PassPart → StripePart → PassPart
pass_leaves pass part = record {
  lanes = pass.lanes;
  begun = pass.begun;
  ended = most pass.ended (only_at part.stripe (length part.state.stays));
  floor = pass.floor;
  budget = pass.budget;
}

-- A stripe that drew a place for an event.
abbrev pub draws : StripePart → Event → ℕ → StripePart
draws part event place = record { stripe = part.stripe; era = part.era; seen = part.seen; state = stripe_with event place part.state }

-- The keeper that drew a place for an event.
abbrev pub keeper_draws : KeeperPart → Event → ℕ → KeeperPart
keeper_draws part event place = record { cleared = part.cleared; state = keeper_with event place part.state }

-- The pass of a draw: it has the receipt, its floor is above the place, and it may draw one less.
abbrev pub pass_draws : PassPart → Event → ℕ → PassPart
pass_draws pass event place = record {
  lanes = map (receives (lane_of event) (OfEvent (entry place event))) pass.lanes;
  begun = pass.begun;
  ended = pass.ended;
  floor = place + 1;
  budget = pass.budget - 1;
}

-- The keeper after it cleared the spare bitmap.
abbrev pub clears : KeeperPart → ℕ → KeeperPart
clears part words = record { cleared = words; state = part.state }

-- The keeper after an exchange moved the era: the spare bitmap isn't known to be clear.
abbrev pub moves : KeeperPart → KeeperPart
moves part = record { cleared = 0; state = keeper_moved part.state }

-- The keeper after an exchange that found so many stripes inside, by a pass that knew of these ended stays.
abbrev pub fails : KeeperPart → ℕ → List ℕ → KeeperPart
fails part found ended = record { cleared = part.cleared; state = keeper_missed (record { found = found; ended = ended }) part.state }

-- A pass that learned of a stripe's stays: all have begun, and all but a present one have ended.
abbrev pub learns : PassPart → StripePart → PassPart
learns pass part = record {
  lanes = pass.lanes;
  begun = most pass.begun (only_at part.stripe (length part.state.stays));
  ended = most pass.ended (only_at part.stripe (length part.state.stays - weight part.state.inside));
  floor = pass.floor;
  budget = pass.budget;
}

-- What is cut off a pass: the lanes from one on, and a budget; it knows what the pass knew.
abbrev pub cut_off : PassPart → ℕ → ℕ → PassPart
cut_off pass first budget = record {
  lanes = filter (λ part. not (nat_lt part.lane first)) pass.lanes;
  begun = pass.begun;
  ended = pass.ended;
  floor = pass.floor;
  budget = budget;
}

-- What is left of a pass from which that was cut off.
abbrev pub cut_down : PassPart → ℕ → ℕ → PassPart
cut_down pass first budget = record {
  lanes = filter (λ part. nat_lt part.lane first) pass.lanes;
  begun = pass.begun;
  ended = pass.ended;
  floor = pass.floor;
  budget = pass.budget - budget;
}

-- Two passes in one: the greater floor, all that either knew of stays, the lanes and budgets of both.
abbrev pub joined_pass : PassPart → PassPart → PassPart
joined_pass pass other = record {
  lanes = pass.lanes ++ other.lanes;
  begun = most pass.begun other.begun;
  ended = most pass.ended other.ended;
  floor = max pass.floor other.floor;
  budget = pass.budget + other.budget;
}

-- What a draw asks of the pass: the lane of the drawing command, and a draw that is left.
abbrev pub PassAsks : Event → PassPart → Type 0
PassAsks event pass = (has_lane (lane_of event) pass.lanes ≡ true) × (0 < pass.budget)

-- Issuing a write asks for a stripe that is inside without an open write and saw the block in this stay, for the stay's era, and that the lanes have no such receipt of this command.
pub record GoAsks (part : StripePart) (lanes : List LanePart) (id : CmdId) (block era : ℕ) : Type 0 where
  pub inside : part.state.inside ≡ true
  pub alone : part.state.flight ≡ None
  pub saw : has_seen block part.seen ≡ true
  pub present : era ≡ part.era
  pub once : has_gone id lanes ≡ false

-- What an event of a stripe asks of its part and of the lanes of the pass.
abbrev pub StripeAsks : Event → StripePart → List LanePart → Type 0
StripeAsks (Go id block era first bytes) part lanes = GoAsks part lanes id block era
StripeAsks (Done id) part lanes = is_writing (flights part.state.flight) id ≡ true
StripeAsks (Cut id faults) part lanes = is_writing (flights part.state.flight) id ≡ true
StripeAsks (Settle by cut bytes) part lanes = is_cut (flights part.state.flight) cut ≡ true
StripeAsks (Unsettled by cut faults) part lanes = is_cut (flights part.state.flight) cut ≡ true
StripeAsks (Read id sector bytes) part lanes = Unit {0}
StripeAsks (Refused id kind why) part lanes = Unit {0}
StripeAsks event part lanes = ⊥

-- What an event of the keeper asks of its part: a request and a mark the present era, whose switch is drawn; a switch an exchange that moved and isn't drawn; a refused switch a failed exchange that isn't drawn, with its number.
abbrev pub KeeperAsks : Event → KeeperPart → Type 0
KeeperAsks (Tried id block era) part = (era ≡ part.state.era) × (part.state.switched ≡ true)
KeeperAsks (Mark id block era) part = (era ≡ part.state.era) × (part.state.switched ≡ true)
KeeperAsks (Roll id era) part = (era ≡ part.state.era) × (part.state.switched ≡ false)
KeeperAsks (Kept id inside) part = found_of part.state.pending ≡ Some inside
KeeperAsks (Snap id block) part = Unit {0}
KeeperAsks (Dropped id) part = Unit {0}
KeeperAsks (Digest id era page) part = Unit {0}
KeeperAsks (ListDrawn id since snap blocks) part = Unit {0}
KeeperAsks (Status id used total era held) part = Unit {0}
KeeperAsks (Refused id kind why) part = Unit {0}
KeeperAsks event part = ⊥

-- The seat of a gate's stripe, before any act.
abbrev pub new_seat : TableId → ℕ → StripeToken
new_seat table d = record { table = table; part = new_stripe d }

-- The seats are those of so many stripes, in order, before any act.
abbrev pub AreStripeSeats : TableId → List StripeToken → ℕ → Type 0
AreStripeSeats table seats count = seats ≡ tabulate 0 count (new_seat table)
