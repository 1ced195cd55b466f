-- Counts of faults that the keeper's entries tell.
use Rattle.std.proofs.Common.{◌≡◌, ℕ, ◌≤◌, true, List, [], ◌∷◌, arith}
use Rattle.era_base.specs.Faults.{Rose}
use Rattle.era_base.specs.declared.ids.CmdId.{CmdId}
use Rattle.era_model.specs.declared.event.Event.{Event}
use Rattle.era_model.specs.declared.event.Event.TheVariants.{Go, Done, Cut, Settle, Unsettled, Read, Refused}
use Rattle.era_model.specs.declared.event.Kind.{Kind}
use Rattle.era_model.specs.declared.event.Kind.TheVariants.{Write as WriteKind, Read as ReadKind, Checkpoint as CheckpointKind, TakeSnap as TakeSnapKind, DropSnap as DropSnapKind, Digest as DigestKind, Status as StatusKind, List as ListKind}
use Rattle.era_model.specs.declared.event.Why.TheVariants.{DataFault, MetaFault}
use Rattle.era_model.specs.declared.history.Happening.{Happening}
use Rattle.era_model.specs.declared.history.Happening.TheVariants.{Happened}
use Rattle.era_model.specs.declared.opening.Opening.{Opening}
use Rattle.era_model.specs.Counts.{CountAscends, MetadataDisk, RoseFrom, last_count}
use Rattle.era_model.specs.Legal.{MayFailAtMetadata, NeedsVolatileEra}
use Rattle.era_model.specs.Marking.{era_is_volatile}
use Rattle.era_notes.specs.Notes.{Note, own_history, told_count, last_faults, TellsRisen, CountsRise}
use Rattle.era_keeper.specs.OwnEntries.{AreKeepersLegal, KeeperMay}

pub counts-later : (least now later : ℕ) (notes : List Note) → now ≤ later → CountsRise least now notes → CountsRise least later notes
counts-later least now later [] le rise = omega (arith, le, rise)
counts-later least now later (note ∷ earlier) le rise = (omega (arith, le, rise.0), rise.1, rise.2)

pub last_faults-le : (least now : ℕ) (notes : List Note) → CountsRise least now notes → last_faults least notes ≤ now
last_faults-le least now [] rise = rise
last_faults-le least now (note ∷ earlier) rise = rise.0

-- a count that rose since a later moment rose since an earlier one
pub rose-since : (earlier before now : ℕ) → earlier ≤ before → Rose before now → Rose earlier now
rose-since earlier before now le rose = omega (arith, le, rose)

-- a count that rose is above the last one that was told
rose-step : (h : List Happening) (event : Event) (before faults now count : ℕ) → KeeperMay h event → TellsRisen (told_count event) before faults → faults ≤ now → Rose now count
    → RoseFrom (last_count h MetadataDisk) count → RoseFrom (last_count (Happened event ∷ h) MetadataDisk) count
rose-step h (Go id block era first bytes) before faults now count may told le rose rest = absurd may
rose-step h (Done id) before faults now count may told le rose rest = absurd may
rose-step h (Cut id n) before faults now count may told le rose rest = absurd may
rose-step h (Settle by cut bytes) before faults now count may told le rose rest = absurd may
rose-step h (Unsettled by cut n) before faults now count may told le rose rest = absurd may
rose-step h (Read id sector bytes) before faults now count may told le rose rest = absurd may
rose-step h (Refused id kind (DataFault stripe n)) before faults now count may told le rose rest = absurd may
rose-step h (Refused id kind (MetaFault n)) before faults now count may told le rose rest = let same = told.0 in omega (arith, same, le, rose)
rose-step h (Refused id kind why) before faults now count may told le rose rest = rest
rose-step h event before faults now count may told le rose rest = rest

pub rose-last : (opening : Opening) (notes : List Note) (least now count : ℕ) → AreKeepersLegal opening notes → CountsRise least now notes → Rose now count
    → CountAscends (own_history opening notes) MetadataDisk count
rose-last opening [] least now count legal rise rose = tt
rose-last opening (note ∷ earlier) least now count legal rise rose =
    rose-step (own_history opening earlier) note.entry.event (last_faults least earlier) note.faults now count legal.0 rise.1 rise.0 rose
    (rose-last opening earlier least note.faults count legal.1 rise.2 (rose-since note.faults now count rise.0 rose))

-- where the era stands in memory alone each command may be told of a fault
volatile-all : (h : List Happening) (id : CmdId) (kind : Kind) → era_is_volatile h ≡ true → NeedsVolatileEra h id kind
volatile-all h id WriteKind is = λ none. is
volatile-all h id ReadKind is = tt
volatile-all h id CheckpointKind is = λ none. is
volatile-all h id TakeSnapKind is = tt
volatile-all h id DropSnapKind is = tt
volatile-all h id DigestKind is = tt
volatile-all h id StatusKind is = is
volatile-all h id ListKind is = is

pub may-fail-unstored : (h : List Happening) (id : CmdId) (kind : Kind) (count : ℕ) → era_is_volatile h ≡ true → CountAscends h MetadataDisk count → MayFailAtMetadata h id kind count
may-fail-unstored h id kind count volatile rose = record { rose = rose; cause = volatile-all h id kind volatile }

-- counts rise up to the last entry
counts-last : (least now : ℕ) (notes : List Note) → CountsRise least now notes → CountsRise least (last_faults least notes) notes
counts-last least now [] rise = omega arith
counts-last least now (note ∷ earlier) rise = (omega arith, rise.1, rise.2)

pub ascends-since : (opening : Opening) (notes : List Note) (least now count : ℕ) → AreKeepersLegal opening notes → CountsRise least now notes → Rose (last_faults least notes) count
    → CountAscends (own_history opening notes) MetadataDisk count
ascends-since opening notes least now count legal rise rose = rose-last opening notes least (last_faults least notes) count legal (counts-last least now notes rise) rose
