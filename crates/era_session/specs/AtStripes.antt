-- A command at one stripe of a session: what it found there, and what it left.
use Rattle.std.specs.Prelude.{◌≡◌, ℕ, ◌/◌, List, [], slice_get, slice_set, Option, Some, None}
use Rattle.era_base.specs.Geometry.{place_at}
use Rattle.era_base.specs.declared.disk.Disk.{Ghosts}
use Rattle.era_base.specs.declared.ids.CmdId.{CmdId}
use Rattle.era_keeper.specs.Keepers.{view_of as keeper_view}
use Rattle.era_keeper.specs.declared.keeper.Keeper.{Keeper}
use Rattle.era_model.specs.declared.reply.Answer.{Answer}
use Rattle.era_model.specs.declared.reply.Answer.TheVariants.{Range}
use Rattle.era_notes.specs.Rooms.{last_in}
use Rattle.era_session.specs.Desks.{AnswersCounts, Desk, SameDesk}
use Rattle.era_session.specs.Sessions.{SamePlan}
use Rattle.era_session.specs.Writes.{WriteDrew, WriteWent}
use Rattle.era_session.specs.declared.session.Session.{Session}
use Rattle.era_stripe.specs.Stripes.{view_of as stripe_view}
use Rattle.era_stripe.specs.declared.stripe.Stripe.{Stripe}

-- A stripe was given the room of a command: what it says of its part, its device, its seat, its cut write and its notes are as before, and it has no entries of the command yet.
pub record IsAdmitted {D : Type 0} (disk : Ghosts D) (old new : Stripe D) : Type 0 where
  pub view : stripe_view disk new ≡ stripe_view disk old
  pub device : new.disk ≡ old.disk
  pub seat : new.seat ≡ old.seat
  pub cut : new.cut ≡ old.cut
  pub notes : new.notes ≡ old.notes
  pub last : last_in new.entries ≡ []

-- The keeper was given the room of a command: it is the same but for that.
pub record IsKeeperAdmitted {D : Type 0} (disk : Ghosts D) (old new : Keeper D) : Type 0 where
  pub view : keeper_view disk new ≡ keeper_view disk old
  pub meta : new.meta ≡ old.meta
  pub seat : new.seat ≡ old.seat
  pub notes : new.notes ≡ old.notes

-- A command found a stripe of the session, the keeper and the pass so, with their rooms.
pub record FoundAt {D : Type 0} (disk : Ghosts D) (k : ℕ) (session : Session D) (desk : Desk D) : Type 0 where
  pub stripe : Stripe D
  pub found : slice_get session.stripes.items k ≡ Some stripe
  pub admitted : IsAdmitted disk stripe desk.stripe
  pub keeper : IsKeeperAdmitted disk session.keeper desk.keeper
  pub pass : desk.pass ≡ session.pass

-- A command left them so, and all other stripes as they were.
pub record LeftAt {D : Type 0} (k : ℕ) (desk : Desk D) (old new : Session D) : Type 0 where
  pub stripes : new.stripes.items ≡ slice_set old.stripes.items k desk.stripe
  pub keeper : new.keeper ≡ desk.keeper
  pub pass : new.pass ≡ desk.pass
  pub plan : SamePlan old new

-- A command did this at a stripe of the session, with the keeper and the pass.
pub record DidAt {D : Type 0} (disk : Ghosts D) (k : ℕ) (Did : Desk D → Desk D → Type 0) (old new : Session D) : Type 0 where
  pub before : Desk D
  pub after : Desk D
  pub found : FoundAt disk k old before
  pub left : LeftAt k after old new
  pub did : Did before after

-- The block of sectors of the session's origin and the first of them within it, or none.
abbrev pub session_place : {D : Type 0} → Session D → ℕ → ℕ → Option (ℕ × ℕ)
session_place session sector count = place_at session.geometry.sectors session.geometry.block_sectors sector count

-- What a write did at its stripe: its steps, what it drew, and the counts of faults.
pub record WroteAt {D : Type 0} (disk : Ghosts D) (id : CmdId) (block first : ℕ) (bytes : List ℕ) (answer : Answer) (old new : Desk D) : Type 0 where
  pub went : WriteWent disk id block first bytes answer old new
  pub drew : WriteDrew id block first bytes answer old new
  pub same : SameDesk disk old new
  pub cause : AnswersCounts disk answer old new

-- What a write did by its place: where its sectors lie in no one block nothing was done and the answer is `Range`, and otherwise it went through at the stripe of its block.
abbrev pub WriteDid : {D : Type 0} → Ghosts D → Option (ℕ × ℕ) → CmdId → List ℕ → Answer → Session D → Session D → Type 0
WriteDid disk None id bytes answer old new = (answer ≡ Range) × (new ≡ old)
WriteDid disk (Some (block, first)) id bytes answer old new = DidAt disk (block / old.each) (WroteAt disk id block first bytes answer) old new
