-- The counts of faults of a session's disks over the commands that it served, and the answers that tell them.
use Rattle.std.specs.Prelude.{◌≡◌, ◌⊎◌, ℕ, ◌-◌, ◌*◌, ◌/◌, ◌^◌, ◌<◌, ◌≤◌, Bool, true, false, List, length, min, slice_get, Option, Some, None}
use Rattle.std.specs.List.{list_any}
use Rattle.era_base.specs.Faults.{Rose}
use Rattle.era_base.specs.Geometry.{place_at}
use Rattle.era_base.specs.declared.disk.Disk.{Ghosts}
use Rattle.era_base.specs.declared.geometry.Geometry.{Geometry}
use Rattle.era_model.specs.declared.command.Request.{Request}
use Rattle.era_model.specs.declared.command.Request.TheVariants as request
use Rattle.era_model.specs.declared.command.Task.{Task}
use Rattle.era_model.specs.declared.command.Task.TheVariants.{Write, Read, Ask}
use Rattle.era_model.specs.declared.reply.Answer.{Answer}
use Rattle.era_model.specs.declared.reply.Answer.TheVariants.{Blocks, Digest, End, EraIs, Fault, Fine, Found, Held, Idle, Kept, Memory, NoSnap, Range, Snap, Status}
use Rattle.era_model.specs.declared.reply.Device.TheVariants.{Data, Meta}
use Rattle.era_served.specs.Served.{Served}
use Rattle.era_session.specs.declared.session.Session.{Session}
use Rattle.era_stripe.specs.declared.stripe.Stripe.{Stripe}

-- Whether an answer tells a fault of a device.
abbrev pub tells_fault : Answer → Bool
tells_fault (Fault device count) = true
tells_fault answer = false

-- Whether an answer says that memory was refused.
abbrev pub says_memory : Answer → Bool
says_memory Memory = true
says_memory answer = false

-- Whether a command was answered with a fault of a device.
abbrev pub some_tells_fault : List Served → Bool
some_tells_fault served = list_any (λ (one : Served). tells_fault one.answer) served

-- Whether a command was answered that memory was refused.
abbrev pub some_says_memory : List Served → Bool
some_says_memory served = list_any (λ (one : Served). says_memory one.answer) served

-- A count of faults didn't fall, up to the greatest value of a `u64`.
abbrev pub HasNotFallen : ℕ → ℕ → Type 0
HasNotFallen before now = min before (2 ^ 64 - 1) ≤ now

-- A count of faults that is one of a `u64` didn't fall.
abbrev pub KeepsUp : ℕ → ℕ → Type 0
KeepsUp before now = before < 2 ^ 64 → before ≤ now

-- A count that was told: above that of its disk before, and not above that now, up to the greatest value of a `u64`.
abbrev pub IsToldCount : ℕ → ℕ → ℕ → Type 0
IsToldCount count before now = Rose before count × HasNotFallen count now

-- The count of faults of a session's metadata disk.
abbrev pub metadata_faults : {D : Type 0} → Ghosts D → Session D → ℕ
metadata_faults disk session = disk.faults session.keeper.meta.slots.disk

-- The counts of faults of each disk at two moments of a session are related so: those of each stripe's part, and those of the metadata disk.
pub record EachCount {D : Type 0} (disk : Ghosts D) (Relates : ℕ → ℕ → Type 0) (old new : Session D) : Type 0 where
  pub parts : (k : ℕ) (before after : Stripe D) → slice_get old.stripes.items k ≡ Some before → slice_get new.stripes.items k ≡ Some after
      → Relates (disk.faults before.disk) (disk.faults after.disk)
  pub metadata : Relates (metadata_faults disk old) (metadata_faults disk new)

-- The counts of faults of a stripe's part at two moments of a session are related so.
pub record PartCount {D : Type 0} (disk : Ghosts D) (k : ℕ) (Relates : ℕ → ℕ → Type 0) (old new : Session D) : Type 0 where
  pub before : Stripe D
  pub after : Stripe D
  pub found : slice_get old.stripes.items k ≡ Some before
  pub left : slice_get new.stripes.items k ≡ Some after
  pub relates : Relates (disk.faults before.disk) (disk.faults after.disk)

-- The counts of faults of some disk at two moments of a session are related so: those of a stripe's part, or those of the metadata disk.
abbrev pub SomeCount : {D : Type 0} → Ghosts D → (ℕ → ℕ → Type 0) → Session D → Session D → Type 0
SomeCount disk Relates old new = ((k : ℕ) × PartCount disk k Relates old new) ⊎ Relates (metadata_faults disk old) (metadata_faults disk new)

-- The number of the stripe of a place, or none.
abbrev pub stripe_of_place : ℕ → Option (ℕ × ℕ) → Option ℕ
stripe_of_place each None = None
stripe_of_place each (Some (block, first)) = Some (block / each)

-- The place of a task's sectors in an origin: the block that they lie in and the first of them within it. None where they lie in no one block, and of a request.
abbrev pub place_of_task : Geometry → Task → Option (ℕ × ℕ)
place_of_task geometry (Write sector bytes) = place_at geometry.sectors geometry.block_sectors sector (length bytes / 512)
place_of_task geometry (Read sector count) = place_at geometry.sectors geometry.block_sectors sector count
place_of_task geometry (Ask asked) = None

-- The number of the stripe that the sectors of a task lie in, or none.
abbrev pub stripe_of_task : {D : Type 0} → Session D → Task → Option ℕ
stripe_of_task session task = stripe_of_place session.each (place_of_task session.geometry task)

-- A fault of an answer is one of its device between two moments of a session: of the part of the stripe that the command's sectors lie in, or of the metadata disk.
abbrev pub TellsFault : {D : Type 0} → Ghosts D → Task → Answer → Session D → Session D → Type 0
TellsFault disk task (Fault Data count) old new =
    (k : ℕ) × (stripe_of_task old task ≡ Some k) × PartCount disk k (IsToldCount count) old new
TellsFault disk task (Fault Meta count) old new = IsToldCount count (metadata_faults disk old) (metadata_faults disk new)
TellsFault disk task answer old new = Unit {0}

-- What a write is answered where no device fails: `Range` exactly where its sectors lie in no one block.
abbrev pub IsWriteAnswer : Option (ℕ × ℕ) → Answer → Type 0
IsWriteAnswer None answer = answer ≡ Range
IsWriteAnswer (Some place) answer = answer ≡ Fine

-- What a read is answered where no device fails: `Range` exactly where its sectors lie in no one block, and otherwise the bytes of all of them.
abbrev pub IsReadAnswer : Option (ℕ × ℕ) → ℕ → Answer → Type 0
IsReadAnswer None count answer = answer ≡ Range
IsReadAnswer (Some place) count answer = (bytes : List ℕ) × (length bytes ≡ count * 512) × (answer ≡ Found bytes)

-- What a request is answered where no device fails.
abbrev pub IsRequestAnswer : Request → Answer → Type 0
IsRequestAnswer request.Checkpoint (EraIs era) = Unit {0}
IsRequestAnswer request.Checkpoint (Kept inside) = Unit {0}
IsRequestAnswer request.Checkpoint End = Unit {0}
IsRequestAnswer request.TakeSnap (Snap block) = Unit {0}
IsRequestAnswer request.TakeSnap (Held block) = Unit {0}
IsRequestAnswer request.DropSnap Fine = Unit {0}
IsRequestAnswer request.DropSnap NoSnap = Unit {0}
IsRequestAnswer request.Digest (Digest era page) = Unit {0}
IsRequestAnswer request.Digest Idle = Unit {0}
IsRequestAnswer request.Status (Status used total era held) = Unit {0}
IsRequestAnswer (request.List since snap) (Blocks runs) = Unit {0}
IsRequestAnswer (request.List since snap) NoSnap = Unit {0}
IsRequestAnswer (request.List since snap) Memory = Unit {0}
IsRequestAnswer asked answer = ⊥

-- What a command is answered by its task where no device fails.
abbrev pub IsServedAnswer : Geometry → Task → Answer → Type 0
IsServedAnswer geometry (Write sector bytes) answer = IsWriteAnswer (place_of_task geometry (Write sector bytes)) answer
IsServedAnswer geometry (Read sector count) answer = IsReadAnswer (place_of_task geometry (Read sector count)) count answer
IsServedAnswer geometry (Ask asked) answer = IsRequestAnswer asked answer
