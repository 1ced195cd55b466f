-- What the model asks of each draw of a log, shared out: what its owner's own draws tell, and what the gate and the order of its command's events tell beside.
use Rattle.std.specs.Prelude.{◌≡◌, ℕ, ◌+◌, ◌*◌, ◌/◌, ◌%◌, ◌<◌, true, false, List, [], ◌∷◌, length, Some}
use Rattle.era_base.specs.declared.ids.CmdId.{CmdId}
use Rattle.era_model.specs.declared.event.Event.{Event}
use Rattle.era_model.specs.declared.event.Event.TheVariants.{Tried, Mark, Go, Done, Cut, Settle, Unsettled, Read, Roll, Kept, Refused}
use Rattle.era_model.specs.declared.event.Why.TheVariants.{DataFault}
use Rattle.era_model.specs.declared.history.Happening.{Happening}
use Rattle.era_model.specs.declared.opening.Opening.{Opening}
use Rattle.era_model.specs.Conditions.{MayFinish, MayKeep, MayRead, MaySettle, MaySwitch, stripe_is_writing}
use Rattle.era_model.specs.Counts.{CountAscends, PartOf}
use Rattle.era_model.specs.Events.{is_go_of}
use Rattle.era_model.specs.History.{at_opening, blocks_now, era_of, in_flight}
use Rattle.era_model.specs.Legal.{MayHappen}
use Rattle.era_model.specs.Marking.{is_marked_in, last_drawn, some_event}
use Rattle.era_model.specs.SessionRun.{place_now}
use Rattle.era_model.specs.Writes.{is_cut}
use Rattle.era_notes.specs.Logs.{Draw, drawer_history, logged_history}
use Rattle.era_promise.specs.Owners.{stripe_at}

-- Bytes are whole sectors of a block of the origin, from a sector of it on.
pub record IsWholePlace (h : List Happening) (block first : ℕ) (bytes : List ℕ) : Type 0 where
  pub of_origin : block < blocks_now h
  pub whole : length bytes % 512 ≡ 0
  pub place : place_now h (at_opening 0 (λ o. block * o.geometry.block_sectors + first) h) (length bytes / 512) ≡ Some (block, first)

-- A read may be made by own draws, of a block of the stripe.
pub record IsOwnRead (opening : Opening) (stripe : ℕ) (own : List Happening) (sector : ℕ) (bytes : List ℕ) : Type 0 where
  pub may : MayRead own sector bytes
  pub of : stripe_at opening may.block ≡ stripe

-- A draw's owner tells of it by its own draws: of a write its place, how it ends and is resolved, of a read its bytes, of each fault of a part that the count ascends, and of all else of the metadata that it may happen.
abbrev pub OwnerTells : Opening → ℕ → List Happening → List Happening → Event → Type 0
OwnerTells opening drawer own whole (Mark id block era) = block < blocks_now own
OwnerTells opening drawer own whole (Go id block era first bytes) = IsWholePlace own block first bytes
OwnerTells opening drawer own whole (Done id) = MayFinish own id
OwnerTells opening drawer own whole (Cut id faults) = MayFinish own id × CountAscends whole (PartOf drawer) faults
OwnerTells opening drawer own whole (Settle by cut bytes) = MaySettle own cut bytes
OwnerTells opening drawer own whole (Unsettled by cut faults) = (is_cut (in_flight own) cut ≡ true) × CountAscends whole (PartOf drawer) faults
OwnerTells opening drawer own whole (Read id sector bytes) = IsOwnRead opening drawer own sector bytes
OwnerTells opening drawer own whole (Roll id era) = Unit {0}
OwnerTells opening drawer own whole (Kept id inside) = Unit {0}
OwnerTells opening drawer own whole (Refused id kind (DataFault stripe count)) = CountAscends whole (PartOf stripe) count
OwnerTells opening drawer own whole event = MayHappen own event

-- A write may be issued: its block is marked in the present era, its stripe has no other write in flight, and its command issued none.
pub record MayIssue (h : List Happening) (id : CmdId) (block era : ℕ) : Type 0 where
  pub marked : is_marked_in h block era ≡ true
  pub present : era ≡ era_of h
  pub alone : stripe_is_writing h block ≡ false
  pub once : some_event h (is_go_of id) ≡ false

-- A mark may be stored: asking for it is the last that its command did, in the present era.
pub record IsAskedLast (h : List Happening) (id : CmdId) (block era : ℕ) : Type 0 where
  pub tried : last_drawn h id ≡ Some (Tried id block era)
  pub present : era ≡ era_of h

-- What is told beside: of a mark that it was asked for last, of a write that it may be issued, and of switches and eras that were kept.
abbrev pub IsToldBeside : List Happening → Event → Type 0
IsToldBeside h (Mark id block era) = IsAskedLast h id block era
IsToldBeside h (Go id block era first bytes) = MayIssue h id block era
IsToldBeside h (Roll id era) = MaySwitch h era
IsToldBeside h (Kept id inside) = MayKeep h inside
IsToldBeside h event = Unit {0}

-- Each draw meets both.
abbrev pub AreToldDraws : Opening → List Draw → Type 0
AreToldDraws opening [] = Unit {0}
AreToldDraws opening (draw ∷ earlier) =
    OwnerTells opening draw.drawer (drawer_history opening draw.drawer earlier) (logged_history opening earlier) draw.event
    × IsToldBeside (logged_history opening earlier) draw.event × AreToldDraws opening earlier
