-- What a read came to.
use Rattle.std.specs.Prelude.{◌≡◌, ℕ, ◌-◌, ◌*◌, ◌/◌, ◌%◌, ◌≤◌, true, List, [], ◌∷◌, length, Option, Some, None, Ok, Err}
use Rattle.era_base.specs.Disk.{Reads}
use Rattle.era_base.specs.declared.disk.Disk.{Ghosts}
use Rattle.era_base.specs.declared.ids.CmdId.{CmdId}
use Rattle.era_gate.specs.Calls.{GateToken, PassToken, has_lane}
use Rattle.era_gate.specs.Passes.{no_write}
use Rattle.era_gate.specs.Receipts.{entries_in}
use Rattle.era_keeper.specs.declared.keeper.Keeper.{Keeper}
use Rattle.era_model.specs.declared.event.Event.{Event}
use Rattle.era_model.specs.declared.event.Event.TheVariants.{Read, Refused}
use Rattle.era_model.specs.declared.event.Kind.TheVariants.{Read as ReadKind}
use Rattle.era_model.specs.declared.event.Why.TheVariants.{DataFault}
use Rattle.era_model.specs.declared.reply.Answer.{Answer}
use Rattle.era_model.specs.declared.reply.Answer.TheVariants.{Fault, Found, Range}
use Rattle.era_model.specs.declared.reply.Device.TheVariants.{Data as DataDevice}
use Rattle.era_notes.specs.Parts.{IsIn, IsPlace}
use Rattle.era_notes.specs.Rooms.{last_in}
use Rattle.era_session.specs.AtStripes.{DidAt, IsAdmitted}
use Rattle.era_session.specs.Desks.{AnswersCounts, Desk, SameDesk, desk}
use Rattle.era_session.specs.Receipts.{PassDrew}
use Rattle.era_session.specs.declared.session.Session.{Session}
use Rattle.era_stripe.specs.Stripes.{IsAtRest, StripeFits, part_of}
use Rattle.era_stripe.specs.declared.stripe.Stripe.{Stripe}

-- The events of a read at a stripe, by its answer: the bytes that were read, or a refusal by a fault of the stripe's part.
abbrev pub read_events : CmdId → ℕ → ℕ → Answer → List Event
read_events id sector stripe (Found bytes) = Read id sector bytes ∷ []
read_events id sector stripe (Fault device count) = Refused id ReadKind (DataFault stripe count) ∷ []
read_events id sector stripe answer = []

-- What a read of so many sectors may answer: just their bytes, or a fault of the origin.
abbrev pub IsReadAnswer : ℕ → Answer → Type 0
IsReadAnswer count (Found bytes) = length bytes ≡ count * 512
IsReadAnswer count (Fault device failed) = device ≡ DataDevice
IsReadAnswer count answer = ⊥

-- So many sectors from one of the origin's on are sectors of one block of the stripe.
pub record AreOfBlock {D : Type 0} (stripe : Stripe D) (sector count : ℕ) : Type 0 where
  pub of_part : IsIn (part_of stripe) (sector / stripe.geometry.block_sectors)
  pub place : IsPlace stripe.geometry (sector / stripe.geometry.block_sectors) (sector % stripe.geometry.block_sectors) (count * 512)

-- Sectors of a block may be read at its stripe: the stripe fits together and is at rest, gate, seat and pass are of one table, and the pass has the command's lane and a draw.
pub record MayReadBlock {D : Type 0} (disk : Ghosts D) (gate : GateToken) (stripe : Stripe D) (pass : PassToken) (id : CmdId) (sector count : ℕ) : Type 0 where
  pub fits : StripeFits disk stripe
  pub rest : IsAtRest stripe
  pub table : stripe.seat.table ≡ gate.table
  pub pass_table : pass.table ≡ gate.table
  pub lane : has_lane id.lane pass.part.lanes ≡ true
  pub budget : 1 ≤ pass.part.budget
  pub sectors : AreOfBlock stripe sector count

-- The only device call of a read is one read of its sectors, by its answer.
abbrev pub ReadCalled : {D : Type 0} → Ghosts D → ℕ → Answer → Desk D → Desk D → Type 0
ReadCalled disk first (Found bytes) old new = Reads {T = Unit} {E = ℕ} first bytes (Ok tt) (disk.history old.stripe.disk) (disk.history new.stripe.disk)
ReadCalled disk first (Fault device count) old new =
    (bytes : List ℕ) × Reads {T = Unit} {E = ℕ} first bytes (Err count) (disk.history old.stripe.disk) (disk.history new.stripe.disk)
ReadCalled disk first answer old new = ⊥

-- What a read did at its stripe: the keeper and the stripe's cut write stay, the pass has the receipt of its event, whose entry is that of the stripe's last chunk, and the count tells a fault.
pub record ReadAt {D : Type 0} (disk : Ghosts D) (id : CmdId) (sector count : ℕ) (answer : Answer) (old new : Desk D) : Type 0 where
  pub answers : IsReadAnswer count answer
  pub called : disk.tells ≡ true
      → ReadCalled disk (sector - old.stripe.first_block * old.stripe.geometry.block_sectors) answer old new
  pub drew : PassDrew (read_events id sector old.stripe.index answer) no_write old.pass new.pass
  pub trail : entries_in drew.receipts ≡ last_in new.stripe.entries
  pub keeper : new.keeper ≡ old.keeper
  pub cut : new.stripe.cut ≡ old.stripe.cut
  pub same : SameDesk disk old new
  pub cause : AnswersCounts disk answer old new

-- What a read did at a stripe that was given its room, whatever keeper stands beside it.
pub record BlockWasRead {D : Type 0} (disk : Ghosts D) (id : CmdId) (sector count : ℕ) (answer : Answer) (old new : Stripe D) (pass pass' : PassToken) : Type 0 where
  pub before : Stripe D
  pub admitted : IsAdmitted disk old before
  pub read : (keeper : Keeper D) → ReadAt disk id sector count answer (desk before keeper pass) (desk new keeper pass')

-- What a read did by its place: where its sectors lie in no one block nothing was done and the answer is `Range`, and otherwise it went through at the stripe of its block.
abbrev pub ReadDid : {D : Type 0} → Ghosts D → Option (ℕ × ℕ) → CmdId → ℕ → ℕ → Answer → Session D → Session D → Type 0
ReadDid disk None id sector count answer old new = (answer ≡ Range) × (new ≡ old)
ReadDid disk (Some (block, first)) id sector count answer old new = DidAt disk (block / old.each) (ReadAt disk id sector count answer) old new
