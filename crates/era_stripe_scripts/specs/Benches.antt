-- A stripe of 20 sectors in three blocks, of which the last one is short, behind a gate: what its scripts ask and tell.
use Rattle.std.specs.Prelude.{◌≡◌, ℕ, ◌+◌, ◌*◌, ◌/◌, ◌%◌, ◌<◌, ◌≤◌, true, false, replicate, None, Some, Result, Ok, Err}
use Rattle.era_base.specs.CrashModel.{State}
use Rattle.era_base.specs.Geometry.{place_at}
use Rattle.era_base.specs.declared.disk.Disk.{Ghosts}
use Rattle.era_base.specs.declared.ids.CmdId.{CmdId}
use Rattle.era_gate.specs.Calls.{GateToken, PassToken, has_gone, has_lane}
use Rattle.era_model.specs.declared.opening.Opening.{Opening}
use Rattle.era_notes.specs.Rooms.{free_in, HoldBytes}
use Rattle.era_stripe.specs.Calls.{IsNewCount}
use Rattle.era_stripe.specs.Stripes.{StripeFits, StripeStands, HasCut}
use Rattle.era_stripe.specs.declared.stripe.Stripe.{Stripe}

-- The command of lane 0 with a number.
abbrev pub command : ℕ → CmdId
command number = record { lane = 0; number = number }

-- A stripe is that of all three blocks.
pub record HasThreeBlocks {D : Type 0} (stripe : Stripe D) : Type 0 where
  pub sectors : stripe.geometry.sectors ≡ 20
  pub size : stripe.geometry.block_sectors ≡ 8
  pub first : stripe.first_block ≡ 0
  pub blocks : stripe.blocks ≡ 3

-- A stripe of the three blocks stands in some session, at a gate that covers them, with a pass of lane 0 that has drawn at most so many events. No write of a command from a number on was issued.
pub record IsBench {D : Type 0} (disk : Ghosts D) (number drawn : ℕ) (gate : GateToken) (stripe : Stripe D) (pass : PassToken) : Type 0 where
  pub table : stripe.seat.table ≡ gate.table
  pub pass_table : pass.table ≡ gate.table
  pub covers : gate.plan.blocks ≡ 3
  pub part : HasThreeBlocks stripe
  pub fits : StripeFits disk stripe
  pub stands : (opening : Opening) × StripeStands disk opening stripe
  pub lane : has_lane 0 pass.part.lanes ≡ true
  pub budget : 1000 ≤ pass.part.budget + drawn
  pub fresh : (n : ℕ) → number ≤ n → has_gone (command n) pass.part.lanes ≡ false

-- A blank state of 20 sectors: all is zero, and nothing is pending.
abbrev pub IsBlank : State → Type 0
IsBlank state = state ≡ record { seen = replicate 10240 0; pending = replicate 20 false }

-- So many bytes are whole sectors of one of the three blocks, from one of its sectors on.
pub record IsSpan (block first count : ℕ) : Type 0 where
  pub low : block < 3
  pub some : 0 < count
  pub whole : count % 512 ≡ 0
  pub place : place_at 20 8 (block * 8 + first) (count / 512) ≡ Some (block, first)
  pub in_block : first * 512 + count ≤ 8 * 512
  pub within : (block * 8 + first) * 512 + count ≤ 20 * 512

-- No write is cut, and the command has room for its write.
pub record IsIdle {D : Type 0} (count : ℕ) (stripe : Stripe D) : Type 0 where
  pub uncut : stripe.cut ≡ None
  pub entries : 2 ≤ free_in stripe.entries
  pub buffers : HoldBytes count stripe.room

-- A write is still cut, and the command may draw that the part failed with this count.
pub record IsStuck {D : Type 0} (disk : Ghosts D) (count : ℕ) (stripe : Stripe D) : Type 0 where
  pub cut : HasCut stripe
  pub entries : 1 ≤ free_in stripe.entries
  pub new : IsNewCount disk stripe count

-- What the settling at the beginning of a command came to, for a payload of so many bytes.
abbrev pub SettledTo : {D : Type 0} → Ghosts D → ℕ → Result Unit ℕ → Stripe D → Type 0
SettledTo disk payload (Ok value) stripe = IsIdle payload stripe
SettledTo disk payload (Err count) stripe = IsStuck disk count stripe
