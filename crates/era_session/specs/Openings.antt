-- What a session is prepared over, and what its preparing did: to the parts, to the metadata, and in memory.
use Rattle.std.specs.Prelude.{◌≡◌, ℕ, ◌-◌, ◌*◌, ◌/◌, ◌<◌, ◌≤◌, ◌⊎◌, List, [], ◌∷◌, length, map, min, slice_get, slice_set, Option, Some, None, Result, Ok, Err, if◌then◌else◌}
use Rattle.std.specs.List.{concat}
use Rattle.era_base.specs.Calls.{EachMoment, MakesCalls, Now, SameDisk}
use Rattle.era_base.specs.CrashModel.{IsClean, SameBut}
use Rattle.era_base.specs.Faults.{Rose}
use Rattle.era_base.specs.Geometry.{blocks_of, stripe_blocks}
use Rattle.era_base.specs.declared.disk.Disk.{Ghosts}
use Rattle.era_base.specs.declared.geometry.Geometry.{Geometry}
use Rattle.era_gate.specs.Calls.{StripeToken, new_pass, plan_of}
use Rattle.era_meta.specs.Held.{snapshot_marks}
use Rattle.era_meta.specs.Starting.{IsBegun, Started}
use Rattle.era_meta.specs.Trials.{start_trials}
use Rattle.era_meta.specs.declared.metadata.Meta.{Meta}
use Rattle.era_meta.specs.declared.refusal.MetaError.{MetaError}
use Rattle.era_model.specs.declared.history.Happening.TheVariants.{Opened}
use Rattle.era_model.specs.declared.opening.Opening.{Opening}
use Rattle.era_notes.specs.Parts.{HoldsContent, part_sectors}
use Rattle.era_session.specs.declared.preparing.PrepareError.{PrepareError}
use Rattle.era_session.specs.declared.preparing.PrepareError.TheVariants.{Data, Meta as MetaRefused, Memory}
use Rattle.era_session.specs.declared.preparing.PrepareRefusal.{PrepareRefusal}
use Rattle.era_session.specs.Sessions.{IsUncut}
use Rattle.era_session.specs.declared.session.Session.{Session}
use Rattle.era_stripe.specs.Stripes.{IsAtRest, IsNewSeat, IsPartOf, StripeFits, StripeStands, part_of}
use Rattle.era_stripe.specs.declared.stripe.Stripe.{Stripe}

-- How many blocks an origin has.
abbrev pub origin_blocks : Geometry → ℕ
origin_blocks geometry = blocks_of geometry.sectors geometry.block_sectors

-- How many blocks each part has of an origin that is split into so many; the last one may have fewer.
abbrev pub part_blocks : Geometry → ℕ → ℕ
part_blocks geometry count = stripe_blocks (origin_blocks geometry) count

-- How many blocks the part of a number has, where each but the last has so many.
abbrev pub blocks_at_part : Geometry → ℕ → ℕ → ℕ
blocks_at_part geometry each k = min each (origin_blocks geometry - k * each)

-- An origin may be split into so many parts: there are 1 to 16, and each has some blocks.
pub record MaySplit (geometry : Geometry) (count : ℕ) : Type 0 where
  pub any : 0 < count
  pub few : count ≤ 16
  pub some : (k : ℕ) → k < count → k * part_blocks geometry count < origin_blocks geometry

-- The disks are the parts of an origin, in order: each has just the sectors of its range of blocks, of which there are some.
pub record AreParts {D : Type 0} (disk : Ghosts D) (geometry : Geometry) (parts : List D) : Type 0 where
  pub split : MaySplit geometry (length parts)
  pub sizes : (k : ℕ) (part : D) → slice_get parts k ≡ Some part
      → disk.sectors part ≡ part_sectors geometry (k * part_blocks geometry (length parts)) (blocks_at_part geometry (part_blocks geometry (length parts)) k)

-- What a part reads as.
abbrev pub reads_as : {D : Type 0} → Ghosts D → D → List ℕ
reads_as disk part = (disk.history part).now.seen

-- The origin's bytes as its parts read, one after another; of disks that don't tell their content none are known.
abbrev pub origin_bytes : {D : Type 0} → Ghosts D → List D → Option (List ℕ)
origin_bytes disk parts = if disk.tells then Some (concat (map (reads_as disk) parts)) else None

-- The opening of a session that was prepared over these parts: the geometry, the gate's era and its stripes, the marks and the snapshot of the metadata with its blocks, and the bytes of the parts.
abbrev pub opening_of : {D : Type 0} → Ghosts D → List D → Session D → Opening
opening_of disk parts session = record {
  geometry = session.geometry;
  era = session.gate.plan.era;
  marks = session.keeper.meta.marks;
  held = snapshot_marks session.keeper.meta.snapshot;
  total = disk.sectors session.keeper.meta.slots.disk / 8;
  stripes = session.gate.plan.stripes;
  contents = record { bytes = origin_bytes disk parts };
}

-- Nothing of the parts is pending.
abbrev pub AreClean : {D : Type 0} → Ghosts D → List D → Type 0
AreClean {D} disk parts = (k : ℕ) (part : D) → slice_get parts k ≡ Some part → Now disk IsClean part

-- A part was synced by one call: nothing of it has changed at any moment, nothing is pending, and no fault came.
pub record IsSynced {D : Type 0} (disk : Ghosts D) (old new : D) : Type 0 where
  pub quiet : EachMoment disk (SameBut 0 0) old new
  pub clean : Now disk IsClean new
  pub calls : MakesCalls disk 1 old new
  pub same : SameDisk disk old new
  pub none : disk.faults new ≡ disk.faults old

-- A sync of a part failed: nothing of it has changed at any moment, and its count of faults, which is told, rose.
pub record FailsToSync {D : Type 0} (disk : Ghosts D) (count : ℕ) (old new : D) : Type 0 where
  pub quiet : EachMoment disk (SameBut 0 0) old new
  pub calls : MakesCalls disk 1 old new
  pub same : SameDisk disk old new
  pub told : count ≡ disk.faults new
  pub rose : Rose (disk.faults old) (disk.faults new)

-- What a sync of a part did, by its answer.
abbrev pub SyncDid : {D : Type 0} → Ghosts D → Result Unit ℕ → D → D → Type 0
SyncDid disk (Ok value) old new = IsSynced disk old new
SyncDid disk (Err count) old new = FailsToSync disk count old new

-- The parts below a number were synced, and the others are as they were.
pub record AreSyncedBelow {D : Type 0} (disk : Ghosts D) (done : ℕ) (old new : List D) : Type 0 where
  pub count : length new ≡ length old
  pub synced : (k : ℕ) (before after : D) → k < done → slice_get old k ≡ Some before → slice_get new k ≡ Some after → IsSynced disk before after
  pub others : (k : ℕ) → done ≤ k → slice_get new k ≡ slice_get old k

-- All parts were synced.
abbrev pub AreSynced : {D : Type 0} → Ghosts D → List D → List D → Type 0
AreSynced disk old new = AreSyncedBelow disk (length old) old new

-- The sync of the part of a number failed, with this count: the parts before it were synced, and those behind it are as they were.
pub record FailsAtPart {D : Type 0} (disk : Ghosts D) (k count : ℕ) (old new : List D) : Type 0 where
  pub reached : List D
  pub below : AreSyncedBelow disk k old reached
  pub before : D
  pub after : D
  pub found : slice_get old k ≡ Some before
  pub failed : FailsToSync disk count before after
  pub left : new ≡ slice_set reached k after

-- What syncing the parts came to, by the answer.
abbrev pub SyncsDid : {D : Type 0} → Ghosts D → Result Unit PrepareError → List D → List D → Type 0
SyncsDid disk (Ok value) old new = AreSynced disk old new
SyncsDid disk (Err (Data k count)) old new = FailsAtPart disk k count old new
SyncsDid disk (Err (MetaRefused error)) old new = ⊥
SyncsDid disk (Err Memory) old new = ⊥

-- A stripe is that of a number, over this part and behind this seat: it fits together and is outside, it has the number's range of blocks, and it stands in each opening of which the part holds the content.
pub record IsStripeOver {D : Type 0} (disk : Ghosts D) (sizes : Geometry) (each k : ℕ) (part : D) (seat : StripeToken) (stripe : Stripe D) : Type 0 where
  pub fits : StripeFits disk stripe
  pub rest : IsAtRest stripe
  pub device : stripe.disk ≡ part
  pub behind : stripe.seat ≡ seat
  pub index : stripe.index ≡ k
  pub geometry : stripe.geometry ≡ sizes
  pub first : stripe.first_block ≡ k * each
  pub blocks : stripe.blocks ≡ blocks_at_part sizes each k
  pub stands : (opening : Opening) → IsPartOf opening sizes (part_of stripe)
      → Now disk (HoldsContent (part_of stripe) (Opened opening ∷ [])) part → StripeStands disk opening stripe

-- Stripes were begun over the first so many of the parts, each behind the seat of its number.
pub record AreStripesOver {D : Type 0} (disk : Ghosts D) (geometry : Geometry) (each done : ℕ) (parts : List D) (seats : List StripeToken) (stripes : List (Stripe D)) : Type 0 where
  pub count : length stripes ≡ done
  pub stripe : (k : ℕ) (part : D) (seat : StripeToken) (one : Stripe D) → slice_get parts k ≡ Some part → slice_get seats k ≡ Some seat → slice_get stripes k ≡ Some one
      → IsStripeOver disk geometry each k part seat one

-- Seats of stripes, each that of its index, before any act.
abbrev pub AreNewSeats : List StripeToken → Type 0
AreNewSeats seats = (k : ℕ) (seat : StripeToken) → slice_get seats k ≡ Some seat → IsNewSeat seat.part k

-- The disks of the session's stripes, in order.
abbrev pub stripe_disks : {D : Type 0} → Session D → List D
stripe_disks {D} session = map (λ (stripe : Stripe D). stripe.disk) session.stripes.items

-- A session was begun over metadata and parts: its keeper has this metadata, its stripes have these parts in order, the gate is of this geometry, of the era of the marks and of as many stripes, the pass has all lanes and draws, and no write is cut.
pub record IsBegunOver {D : Type 0} (sizes : Geometry) (metadata : Meta D) (parts : List D) (session : Session D) : Type 0 where
  pub meta : session.keeper.meta ≡ metadata
  pub disks : stripe_disks session ≡ parts
  pub geometry : session.geometry ≡ sizes
  pub plan : session.gate.plan ≡ plan_of sizes metadata.marks.era (length parts)
  pub pass : session.pass.part ≡ new_pass
  pub uncut : IsUncut session

-- A session was prepared over these devices: each part was synced, the metadata disk was opened for serving without a fault and has begun an era, and the session was begun over both.
pub record IsPrepared {D : Type 0} (disk : Ghosts D) (geometry : Geometry) (metadata : D) (parts : List D) (session : Session D) : Type 0 where
  pub synced : AreSynced disk parts (stripe_disks session)
  pub started : Started disk (start_trials geometry) metadata session.keeper.meta.slots.disk None
  pub begun : IsBegun disk geometry metadata session.keeper.meta
  pub over : IsBegunOver geometry session.keeper.meta (stripe_disks session) session

-- A list without stripes has room for one over each part.
pub record HasRoomFor {D : Type 0} (parts : List D) (stripes : List (Stripe D)) (capacity : ℕ) : Type 0 where
  pub none : stripes ≡ []
  pub room : length parts ≤ capacity

-- A session was opened over these devices: the metadata disk was opened for serving without a fault and has begun an era, and the session was begun over both.
pub record IsOpened {D : Type 0} (disk : Ghosts D) (geometry : Geometry) (metadata : D) (parts : List D) (session : Session D) : Type 0 where
  pub started : Started disk (start_trials geometry) metadata session.keeper.meta.slots.disk None
  pub begun : IsBegun disk geometry metadata session.keeper.meta
  pub over : IsBegunOver geometry session.keeper.meta parts session

-- Why a session over parts that were synced isn't opened: the metadata disk is refused, or memory was refused behind its opening.
abbrev pub IsUnopenedFor : {D : Type 0} → Ghosts D → Geometry → D → PrepareError → D → Type 0
IsUnopenedFor disk geometry metadata (Data k count) now = ⊥
IsUnopenedFor disk geometry metadata (MetaRefused error) now = Started disk (start_trials geometry) metadata now (Some error)
IsUnopenedFor disk geometry metadata Memory now = Started disk (start_trials geometry) metadata now None

-- A session isn't opened for a cause, and the parts are handed back as they were.
pub record IsUnopened {D : Type 0} (disk : Ghosts D) (geometry : Geometry) (metadata : D) (parts : List D) (refusal : PrepareRefusal D) : Type 0 where
  pub cause : IsUnopenedFor disk geometry metadata refusal.error refusal.metadata
  pub same : refusal.parts.items ≡ parts

-- Memory was refused to a session over metadata and parts, which are handed back as they were.
pub record IsUnbegun {D : Type 0} (metadata : Meta D) (parts : List D) (refusal : PrepareRefusal D) : Type 0 where
  pub cause : refusal.error ≡ Memory
  pub disk : refusal.metadata ≡ metadata.slots.disk
  pub same : refusal.parts.items ≡ parts

-- All parts were synced, and the metadata disk was opened, or refused so.
pub record IsOpenedBehind {D : Type 0} (disk : Ghosts D) (geometry : Geometry) (metadata : D) (parts : List D) (refused : Option MetaError) (refusal : PrepareRefusal D) : Type 0 where
  pub synced : AreSynced disk parts refusal.parts.items
  pub started : Started disk (start_trials geometry) metadata refusal.metadata refused

-- Why a session isn't prepared, with what was done to the devices, all of which are handed back. A part's sync failed, and the metadata disk is as it was; the metadata disk is refused behind the syncs of all parts; or memory was refused: before any call, or behind the metadata's opening.
abbrev pub IsRefusedFor : {D : Type 0} → Ghosts D → Geometry → D → List D → PrepareError → PrepareRefusal D → Type 0
IsRefusedFor disk geometry metadata parts (Data k count) refusal = FailsAtPart disk k count parts refusal.parts.items × (refusal.metadata ≡ metadata)
IsRefusedFor disk geometry metadata parts (MetaRefused error) refusal = IsOpenedBehind disk geometry metadata parts (Some error) refusal
IsRefusedFor disk geometry metadata parts Memory refusal =
    ((refusal.parts.items ≡ parts) × (refusal.metadata ≡ metadata)) ⊎ IsOpenedBehind disk geometry metadata parts None refusal

-- A refusal is for its cause.
abbrev pub IsRefusal : {D : Type 0} → Ghosts D → Geometry → D → List D → PrepareRefusal D → Type 0
IsRefusal disk geometry metadata parts refusal = IsRefusedFor disk geometry metadata parts refusal.error refusal

-- The metadata disk of a session or of a refusal.
abbrev pub metadata_disk : {D : Type 0} → Result (Session D) (PrepareRefusal D) → D
metadata_disk (Ok session) = session.keeper.meta.slots.disk
metadata_disk (Err refusal) = refusal.metadata
