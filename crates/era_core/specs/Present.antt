-- What the machine looks up in its history: the opening of the session, and events that pass a test.
use Rattle.std.specs.Prelude.{◌≡◌, ◌↔◌, Any, length, slice_index_or, ℕ, ◌<◌, ◌/◌, ◌==◌, Bool, true, List, [], ◌∷◌, Option, Some, None}
use Rattle.era_base.specs.declared.ids.CmdId.{CmdId}
use Rattle.era_model.specs.declared.event.Event.{Event}
use Rattle.era_model.specs.declared.history.Happening.{Happening}
use Rattle.era_model.specs.declared.history.Happening.TheVariants.{Opened}
use Rattle.era_model.specs.declared.opening.Opening.{Opening}
use Rattle.era_model.specs.Counts.{FaultyDisk, MetadataDisk, PartOf}
use Rattle.era_model.specs.History.{blocks_now, content}
use Rattle.era_model.specs.Marks.{BlockMarks}
use Rattle.era_model.specs.Recovered.{WereMarks}
use Rattle.era_model.specs.Events.{is_go_of, is_metadata_fault_of, is_request_of, is_switch_of}
use Rattle.era_core.specs.declared.disk.FailedDisk.{FailedDisk}
use Rattle.era_core.specs.declared.disk.FailedDisk.TheVariants.{Metadata, Part}
use Rattle.era_core.specs.declared.trace.Trace.{Trace}
use Rattle.era_core.specs.declared.trace.Trace.TheVariants.{Go, Switch, Request, MetadataFault}

-- The opening of the session, none before the first one.
abbrev pub opening_in : List Happening → Option Opening
opening_in [] = None
opening_in (Opened opening ∷ earlier) = Some opening
opening_in (happening ∷ earlier) = opening_in earlier

-- The test that a kind of trace makes of events of the command.
abbrev pub leaves_trace : Trace → CmdId → Event → Bool
leaves_trace Go id event = is_go_of id event
leaves_trace Switch id event = is_switch_of id event
leaves_trace Request id event = is_request_of id event
leaves_trace MetadataFault id event = is_metadata_fault_of id event

-- The disk of a session that failed.
abbrev pub disk_of : FailedDisk → FaultyDisk
disk_of Metadata = MetadataDisk
disk_of (Part stripe) = PartOf stripe

-- Each session opened with some stripe.
abbrev pub HaveStripes : List Happening → Type 0
HaveStripes [] = Unit {0}
HaveStripes (Opened opening ∷ earlier) = (0 < opening.stripes) × HaveStripes earlier
HaveStripes (happening ∷ earlier) = HaveStripes earlier

-- Whether the block is on the page of 1,024 blocks, where one is given.
abbrev pub is_on_page : Option ℕ → ℕ → Bool
is_on_page None block = true
is_on_page (Some page) block = block / 1024 == page

-- For each block of the origin its content.
pub record HaveContents (h : List Happening) (contents : List (List ℕ)) : Type 0 where
  pub size : length contents ≡ blocks_now h
  pub blocks : (block : ℕ) → block < blocks_now h → slice_index_or contents block [] ≡ content h block

-- The marks of the session at its moments, as far as they differ.
abbrev pub HavePast : List Happening → List BlockMarks → Type 0
HavePast h past = (m : BlockMarks) → WereMarks h m ↔ Any (λ were. were ≡ m) past
