-- Which events a command may have, in which order, with its own data. What an event tells beside, as an era or a count of faults, is bounded where it may happen.
use Rattle.std.specs.Prelude.{◌≡◌, ◌≢◌, ◌⊎◌, ℕ, ◌*◌, List, [], ◌∷◌, ◌++◌, length, Option, Some, None, option_map, if◌then◌else◌}
use Rattle.era_base.specs.declared.ids.CmdId.{CmdId}
use Rattle.era_model.specs.declared.event.Event.{Event}
use Rattle.era_model.specs.declared.event.Event.TheVariants.{Tried, Mark, Go, Done, Cut, Settle, Unsettled, Read, Roll, Kept, Refused}
use Rattle.era_model.specs.declared.event.Kind.{Kind}
use Rattle.era_model.specs.declared.event.Kind.TheVariants.{Write as WriteKind, Read as ReadKind, Checkpoint as CheckpointKind}
use Rattle.era_model.specs.declared.event.Why.TheVariants.{DataFault, MetaFault, End}
use Rattle.era_model.specs.declared.history.Happening.{Happening}
use Rattle.era_model.specs.declared.history.Happening.TheVariants.{Opened, Happened}
use Rattle.era_model.specs.Events.{same_id}
use Rattle.era_model.specs.History.{stripe_now}

-- The block to which the command issued a write in this session, or none.
abbrev pub written_block : List Happening → CmdId → Option ℕ
written_block [] id = None
written_block (Opened opening ∷ earlier) id = None
written_block (Happened (Go other block era first bytes) ∷ earlier) id = if same_id other id then Some block else written_block earlier id
written_block (happening ∷ earlier) id = written_block earlier id

-- The stripe to which the command issued a write in this session, or none.
abbrev pub written_stripe : List Happening → CmdId → Option ℕ
written_stripe h id = option_map (stripe_now h) (written_block h id)

-- The metadata disk failed for the command.
abbrev pub IsMetaFault : CmdId → Kind → List Event → Type 0
IsMetaFault id kind events = (count : ℕ) × (events ≡ Refused id kind (MetaFault count) ∷ [])

-- The stripe's part of the origin failed for the command.
abbrev pub IsDataFault : CmdId → Kind → ℕ → List Event → Type 0
IsDataFault id kind stripe events = (count : ℕ) × (events ≡ Refused id kind (DataFault stripe count) ∷ [])

-- Nothing, or a resolution by the command of a cut write of the stripe.
abbrev pub IsOptionalSettle : List Happening → CmdId → ℕ → List Event → Type 0
IsOptionalSettle h id stripe events =
    (events ≡ []) ⊎ ((cut : CmdId) × (bytes : List ℕ) × (events ≡ Settle id cut bytes ∷ []) × (written_stripe h cut ≡ Some stripe))

-- A request to mark the block, which failed at the metadata disk.
abbrev pub IsFailedRequest : CmdId → ℕ → List Event → Type 0
IsFailedRequest id block events =
    (era count : ℕ) × (events ≡ Tried id block era ∷ Refused id WriteKind (MetaFault count) ∷ [])

-- What comes before a write is issued: nothing, or the request for the block's mark and the mark.
abbrev pub IsOptionalMark : CmdId → ℕ → ℕ → List Event → Type 0
IsOptionalMark id block era events = (events ≡ []) ⊎ (events ≡ Tried id block era ∷ Mark id block era ∷ [])

-- How a write that was issued ends: acknowledged, or cut.
abbrev pub IsOutcome : CmdId → Event → Type 0
IsOutcome id event = (event ≡ Done id) ⊎ ((faults : ℕ) × (event ≡ Cut id faults))

-- A write that was issued: its block's mark where it needs one, the write, and how it ended.
pub record IsIssuedWrite (id : CmdId) (block first : ℕ) (bytes : List ℕ) (events : List Event) : Type 0 where
  pub era : ℕ
  pub mark : List Event
  pub marking : IsOptionalMark id block era mark
  pub ended : Event
  pub outcome : IsOutcome id ended
  pub joined : events ≡ mark ++ Go id block era first bytes ∷ ended ∷ []

-- A write that wasn't refused by a fault of the origin: one resolution at most, and then a fault of the metadata disk, or the write.
pub record IsTriedWrite (h : List Happening) (id : CmdId) (block first : ℕ) (bytes : List ℕ) (events : List Event) : Type 0 where
  pub before : List Event
  pub settled : IsOptionalSettle h id (stripe_now h block) before
  pub rest : List Event
  pub outcome : IsMetaFault id WriteKind rest ⊎ (IsFailedRequest id block rest ⊎ IsIssuedWrite id block first bytes rest)
  pub joined : events ≡ before ++ rest

-- The events of a write: none where its sectors lie in no one block.
abbrev pub AreWriteEvents : List Happening → CmdId → List ℕ → Option (ℕ × ℕ) → List Event → Type 0
AreWriteEvents h id bytes None events = events ≡ []
AreWriteEvents h id bytes (Some place) events =
    IsDataFault id WriteKind (stripe_now h place.0) events ⊎ IsTriedWrite h id place.0 place.1 bytes events

-- The events of a read of so many sectors: none where they lie in no one block.
abbrev pub AreReadEvents : List Happening → CmdId → ℕ → ℕ → Option (ℕ × ℕ) → List Event → Type 0
AreReadEvents h id sector count None events = events ≡ []
AreReadEvents h id sector count (Some place) events =
    IsDataFault id ReadKind (stripe_now h place.0) events
    ⊎ ((bytes : List ℕ) × (events ≡ Read id sector bytes ∷ []) × (length bytes ≡ count * 512))

-- None of the events is a resolution, or a failed one, of a write of the stripe.
abbrev pub LeavesStripe : List Happening → Option ℕ → List Event → Type 0
LeavesStripe h stripe [] = Unit {0}
LeavesStripe h stripe (Settle by cut bytes ∷ events) = (written_stripe h cut ≢ stripe) × LeavesStripe h stripe events
LeavesStripe h stripe (Unsettled by cut faults ∷ events) = (written_stripe h cut ≢ stripe) × LeavesStripe h stripe events
LeavesStripe h stripe (event ∷ events) = LeavesStripe h stripe events

-- Resolutions by the command, or failed ones, at most one for each stripe.
abbrev pub AreResolutions : List Happening → CmdId → List Event → Type 0
AreResolutions h id [] = Unit {0}
AreResolutions h id (Settle by cut bytes ∷ events) =
    (by ≡ id) × LeavesStripe h (written_stripe h cut) events × AreResolutions h id events
AreResolutions h id (Unsettled by cut faults ∷ events) =
    (by ≡ id) × LeavesStripe h (written_stripe h cut) events × AreResolutions h id events
AreResolutions h id (event ∷ events) = ⊥

-- How a checkpoint ends: the era moved, it moved in memory alone, it stayed since stripes were inside, it was the last one, or the metadata disk failed.
abbrev pub IsCheckpointEnd : CmdId → List Event → Type 0
IsCheckpointEnd id events =
    ((era : ℕ) × (events ≡ Roll id era ∷ []))
    ⊎ (((era count : ℕ) × (events ≡ Roll id era ∷ Refused id CheckpointKind (MetaFault count) ∷ []))
    ⊎ (((inside : ℕ) × (events ≡ Kept id inside ∷ []))
    ⊎ ((events ≡ Refused id CheckpointKind End ∷ []) ⊎ IsMetaFault id CheckpointKind events)))

-- The events of a checkpoint: resolutions of cut writes, and then its end.
pub record AreCheckpointEvents (h : List Happening) (id : CmdId) (events : List Event) : Type 0 where
  pub before : List Event
  pub resolutions : AreResolutions h id before
  pub rest : List Event
  pub outcome : IsCheckpointEnd id rest
  pub joined : events ≡ before ++ rest
