-- What stands of a session: what fits together between commands, and what its owners' entries say.
use Rattle.std.specs.Prelude.{◌≡◌, ℕ, ◌+◌, ◌-◌, ◌*◌, ◌<◌, ◌≤◌, Bool, true, false, [], length, min, slice_get, vec_len, vec_capacity, Some, None}
use Rattle.era_base.specs.Geometry.{blocks_of, stripe_blocks}
use Rattle.era_base.specs.declared.disk.Disk.{Ghosts}
use Rattle.era_base.specs.declared.ids.CmdId.{CmdId}
use Rattle.era_base.specs.declared.geometry.Geometry.{Geometry}
use Rattle.era_gate.specs.Calls.{PassToken, has_lane}
use Rattle.era_gate.specs.Passes.{KeepsPass}
use Rattle.era_gate.specs.Requests.{LanesAskForMarks}
use Rattle.era_keeper.specs.Calls.{SameKeeper}
use Rattle.era_keeper.specs.Keepers.{KeeperFits, KeeperStands}
use Rattle.era_model.specs.Legal.{IsOpening}
use Rattle.era_model.specs.Marks.{blocks_of_marks}
use Rattle.era_model.specs.declared.opening.Opening.{Opening}
use Rattle.era_session.specs.declared.session.Session.{Session}
use Rattle.era_stripe.specs.Calls.{SameStripe}
use Rattle.era_stripe.specs.Stripes.{IsAtRest, StripeFits, StripeStands}
use Rattle.era_stripe.specs.declared.stripe.Stripe.{Stripe}

-- How many blocks the session's origin has.
abbrev pub session_blocks : {D : Type 0} → Session D → ℕ
session_blocks session = blocks_of session.geometry.sectors session.geometry.block_sectors

-- The stripe is that of a number: it fits together and is inside exactly where a write is cut, has the number's range of blocks, and is of the session's gate.
pub record IsStripeOf {D : Type 0} (disk : Ghosts D) (session : Session D) (k : ℕ) (stripe : Stripe D) : Type 0 where
  pub fits : StripeFits disk stripe
  pub rest : IsAtRest stripe
  pub index : stripe.index ≡ k
  pub geometry : stripe.geometry ≡ session.geometry
  pub first : stripe.first_block ≡ k * session.each
  pub blocks : stripe.blocks ≡ min session.each (session_blocks session - k * session.each)
  pub table : stripe.seat.table ≡ session.gate.table

-- The blocks are shared out: there are 1 to 16 stripes, each but the last has as many blocks, and each has some.
pub record AreSharedOut {D : Type 0} (session : Session D) : Type 0 where
  pub any : 0 < session.gate.plan.stripes
  pub stripes : length session.stripes.items ≡ session.gate.plan.stripes
  pub few : session.gate.plan.stripes ≤ 16
  pub each : session.each ≡ stripe_blocks (session_blocks session) session.gate.plan.stripes
  pub some : (k : ℕ) → k < session.gate.plan.stripes → k * session.each < session_blocks session

-- There is room for the seats and the parts of all stripes, so that the end takes no memory.
pub record HasRoomToEnd {D : Type 0} (session : Session D) : Type 0 where
  pub no_seats : session.seats.items ≡ []
  pub no_parts : session.parts.items ≡ []
  pub seats : length session.stripes.items ≤ vec_capacity session.seats
  pub parts : length session.stripes.items ≤ vec_capacity session.parts

-- A session fits together between commands. Among the receipts of each lane each mark stands directly behind the request for it.
pub record SessionFits {D : Type 0} (disk : Ghosts D) (session : Session D) : Type 0 where
  pub stripes : (k : ℕ) (stripe : Stripe D) → slice_get session.stripes.items k ≡ Some stripe → IsStripeOf disk session k stripe
  pub keeper : KeeperFits disk session.keeper
  pub tables : (session.keeper.seat.table ≡ session.gate.table) × (session.pass.table ≡ session.gate.table)
  pub lanes : (l : ℕ) → l < 65 → has_lane l session.pass.part.lanes ≡ true
  pub asked : LanesAskForMarks session.pass.part.lanes
  pub blocks : session.gate.plan.blocks ≡ session_blocks session
  pub marks : blocks_of_marks session.keeper.meta.marks ≡ session_blocks session
  pub shared : AreSharedOut session
  pub ending : HasRoomToEnd session

-- A session stands in an opening: its keeper and its stripes do, in the gate's era and with its stripes. Of disks that don't tell their content the opening has no contents. It is of the session's value alone, and holds before and after each call, whatever the call answered.
pub record SessionStands {D : Type 0} (disk : Ghosts D) (opening : Opening) (session : Session D) : Type 0 where
  pub opens : IsOpening opening
  pub sectors : opening.geometry.sectors ≡ session.geometry.sectors
  pub block_sectors : opening.geometry.block_sectors ≡ session.geometry.block_sectors
  pub era : opening.era ≡ session.gate.plan.era
  pub count : opening.stripes ≡ session.gate.plan.stripes
  pub keeper : KeeperStands disk opening session.keeper
  pub stripes : (k : ℕ) (stripe : Stripe D) → slice_get session.stripes.items k ≡ Some stripe → StripeStands disk opening stripe
  pub contents : disk.tells ≡ false → opening.contents.bytes ≡ None

-- No write is cut in a session.
abbrev pub IsUncut : {D : Type 0} → Session D → Type 0
IsUncut {D} session = (k : ℕ) (stripe : Stripe D) → slice_get session.stripes.items k ≡ Some stripe → stripe.cut ≡ None

-- Gate, geometry and shares of a session stay, and what is kept for the end.
pub record SamePlan {D : Type 0} (old new : Session D) : Type 0 where
  pub gate : new.gate ≡ old.gate
  pub geometry : new.geometry ≡ old.geometry
  pub each : new.each ≡ old.each
  pub seats : new.seats ≡ old.seats
  pub parts : new.parts ≡ old.parts

-- Gate, geometry and shares of a session stay; each stripe keeps its number, its blocks and its disk's place and size, and so does the keeper; and both devices are as the session began on them.
pub record SameSession {D : Type 0} (disk : Ghosts D) (old new : Session D) : Type 0 where
  pub plan : SamePlan old new
  pub count : length new.stripes.items ≡ length old.stripes.items
  pub stripes : (k : ℕ) (before after : Stripe D) → slice_get old.stripes.items k ≡ Some before → slice_get new.stripes.items k ≡ Some after → SameStripe disk before after
  pub keeper : SameKeeper disk old.keeper new.keeper

-- A command may draw so many events: the session fits together, the command's lane is one of the 65, and the pass has that many draws.
pub record MayDraw {D : Type 0} (disk : Ghosts D) (draws : ℕ) (session : Session D) (id : CmdId) : Type 0 where
  pub fits : SessionFits disk session
  pub lane : id.lane < 65
  pub budget : draws ≤ session.pass.part.budget

-- A command may begin.
abbrev pub MayCommand : {D : Type 0} → Ghosts D → Session D → CmdId → Type 0
MayCommand disk session id = MayDraw disk 64 session id

-- A command kept the pass, and drew at most so many events.
pub record DrawsAtMost (most : ℕ) (issued : CmdId → Bool) (old new : PassToken) : Type 0 where
  pub drawn : ℕ
  pub few : drawn ≤ most
  pub keeps : KeepsPass drawn issued old new
