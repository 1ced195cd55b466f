-- Which of the model's conditions legal acts answer for, and which are left to who gathers the journal.
use Rattle.std.specs.Prelude.{◌≡◌, ℕ, ◌*◌, ◌/◌, ◌%◌, ◌+◌, ◌<◌, true, false, List, [], ◌∷◌, length, Some}
use Rattle.era_base.specs.Geometry.{stripe_of}
use Rattle.era_base.specs.declared.ids.CmdId.{CmdId}
use Rattle.era_model.specs.declared.entry.Entry.{Entry}
use Rattle.era_model.specs.declared.event.Event.{Event}
use Rattle.era_model.specs.declared.event.Event.TheVariants.{Tried, Mark, Go, Done, Cut, Settle, Unsettled, Roll, Kept}
use Rattle.era_model.specs.declared.history.Happening.{Happening}
use Rattle.era_model.specs.declared.history.Happening.TheVariants.{Happened}
use Rattle.era_model.specs.declared.opening.Opening.{Opening}
use Rattle.era_model.specs.CommandEvents.{written_stripe}
use Rattle.era_model.specs.Conditions.{MaySwitch, MayKeep, stripe_is_writing}
use Rattle.era_model.specs.Counts.{PartCountAscends}
use Rattle.era_model.specs.Events.{is_go_of}
use Rattle.era_model.specs.History.{at_opening, blocks_at, blocks_now, era_of, in_flight}
use Rattle.era_model.specs.Legal.{MayHappen}
use Rattle.era_model.specs.Marking.{is_marked_in, last_drawn, some_event}
use Rattle.era_model.specs.SessionRun.{place_now}
use Rattle.era_model.specs.Writes.{is_writing, is_cut, write_of, bytes_of}

-- What the gate answers for where a write is issued: its block is marked in the present era, its stripe has no other write in flight, and its command issued none before.
pub record GoMeetsGate (h : List Happening) (id : CmdId) (block era : ℕ) : Type 0 where
  pub marked : is_marked_in h block era ≡ true
  pub present : era ≡ era_of h
  pub alone : stripe_is_writing h block ≡ false
  pub once : some_event h (is_go_of id) ≡ false

-- What the gate answers for where an event is drawn: eras, writes in flight, switches and refused switches.
abbrev pub MeetsGate : List Happening → Event → Type 0
MeetsGate h (Tried id block era) = era ≡ era_of h
MeetsGate h (Mark id block era) = era ≡ era_of h
MeetsGate h (Go id block era first bytes) = GoMeetsGate h id block era
MeetsGate h (Done id) = is_writing (in_flight h) id ≡ true
MeetsGate h (Cut id faults) = is_writing (in_flight h) id ≡ true
MeetsGate h (Settle by cut bytes) = is_cut (in_flight h) cut ≡ true
MeetsGate h (Unsettled by cut faults) = is_cut (in_flight h) cut ≡ true
MeetsGate h (Roll id era) = MaySwitch h era
MeetsGate h (Kept id inside) = MayKeep h inside
MeetsGate h event = Unit {0}

-- A request for a mark is of a block of the origin that has none in the era.
pub record TryIsLeft (h : List Happening) (block era : ℕ) : Type 0 where
  pub of_origin : block < blocks_now h
  pub unmarked : is_marked_in h block era ≡ false

-- A mark is of a block of the origin, and asking for it is the last that its command did.
pub record MarkIsLeft (h : List Happening) (id : CmdId) (block era : ℕ) : Type 0 where
  pub of_origin : block < blocks_now h
  pub tried : last_drawn h id ≡ Some (Tried id block era)

-- A write that is issued is of whole sectors within one block of the origin.
pub record GoIsLeft (h : List Happening) (block first : ℕ) (bytes : List ℕ) : Type 0 where
  pub of_origin : block < blocks_now h
  pub whole : length bytes % 512 ≡ 0
  pub place : place_now h (at_opening 0 (λ o. block * o.geometry.block_sectors + first) h) (length bytes / 512) ≡ Some (block, first)

-- What of the model's condition on an event is left to who gathers the journal: places and contents, marks not asked for twice, counts of faults, and what the metadata answers.
abbrev pub IsLeft : List Happening → Event → Type 0
IsLeft h (Tried id block era) = TryIsLeft h block era
IsLeft h (Mark id block era) = MarkIsLeft h id block era
IsLeft h (Go id block era first bytes) = GoIsLeft h block first bytes
IsLeft h (Done id) = Unit {0}
IsLeft h (Cut id faults) = PartCountAscends h (written_stripe h id) faults
IsLeft h (Settle by cut bytes) = length bytes ≡ length (bytes_of (write_of (in_flight h) cut))
IsLeft h (Unsettled by cut faults) = PartCountAscends h (written_stripe h cut) faults
IsLeft h (Roll id era) = Unit {0}
IsLeft h (Kept id inside) = Unit {0}
IsLeft h event = MayHappen h event

-- Each entry, at its own place of the history, meets what the gate answers for.
abbrev pub AllMeetGate : List Happening → List Entry → Type 0
AllMeetGate h [] = Unit {0}
AllMeetGate h (entry ∷ entries) = MeetsGate h entry.event × AllMeetGate (Happened entry.event ∷ h) entries

-- The stripe of a block in the session that opens so.
abbrev pub stripe_at : Opening → ℕ → ℕ
stripe_at opening block = stripe_of (blocks_at opening) opening.stripes block

-- A write that a stripe issues is of one of its own blocks.
abbrev pub IsOwnWrite : (ℕ → ℕ) → ℕ → Event → Type 0
IsOwnWrite of_block d (Go id block era first bytes) = of_block block ≡ d
IsOwnWrite of_block d event = Unit {0}
