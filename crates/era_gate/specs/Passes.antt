-- What a call keeps of a pass, and how passes are cut and joined, in facts that callers carry over several calls.
use Rattle.std.specs.Prelude.{◌≡◌, ℕ, ◌+◌, ◌≤◌, ◌&&◌, ◌||◌, not, nat_lt, Bool, true, false, List, [], ◌∷◌, ◌++◌, cond, ◌==◌, length, slice_index}
use Rattle.era_base.specs.declared.ids.CmdId.{CmdId}
use Rattle.era_model.specs.declared.entry.Entry.{Entry}
use Rattle.era_model.specs.declared.event.Event.{Event}
use Rattle.era_gate.specs.declared.stays.Receipt.{Receipt}
use Rattle.era_gate.specs.declared.parts.LanePart.{LanePart}
use Rattle.era_gate.specs.declared.parts.PassPart.{PassPart}
use Rattle.era_gate.specs.declared.parts.StripePart.{StripePart}
use Rattle.era_gate.specs.Calls.{PassToken, has_gone, has_lane, has_mark, is_mark, cut_down, cut_off, joined_pass}
use Rattle.era_gate.specs.Rule.{weight}

-- No write is issued.
abbrev pub no_write : CmdId → Bool
no_write id = false

-- A pass is kept over calls that drew so many places and issued these commands' writes: its table and its lanes are the same, of all other commands it has a receipt of a write exactly where it had one, its floor is no lower, and it knows no fewer stays.
pub record KeepsPass (drawn : ℕ) (issued : CmdId → Bool) (old new : PassToken) : Type 0 where
  pub table : new.table ≡ old.table
  pub lanes : (l : ℕ) → has_lane l new.part.lanes ≡ has_lane l old.part.lanes
  pub gone : (id : CmdId) → issued id ≡ false → has_gone id new.part.lanes ≡ has_gone id old.part.lanes
  pub budget : new.part.budget + drawn ≡ old.part.budget
  pub floor : old.part.floor ≤ new.part.floor
  pub begun : (d : ℕ) → slice_index old.part.begun d ≤ slice_index new.part.begun d
  pub ended : (d : ℕ) → slice_index old.part.ended d ≤ slice_index new.part.ended d

-- A pass knows that each stay of a stripe has begun.
abbrev pub KnowsBegun : StripePart → PassPart → Type 0
KnowsBegun part pass = length part.state.stays ≤ slice_index pass.begun part.stripe

-- A pass knows that each stay of a stripe has ended, but for a present one.
abbrev pub KnowsEnded : StripePart → PassPart → Type 0
KnowsEnded part pass = length part.state.stays ≤ slice_index pass.ended part.stripe + weight part.state.inside

-- What lanes have as receipts of the lane of a number.
abbrev pub receipts_of : ℕ → List LanePart → List Receipt
receipts_of l [] = []
receipts_of l (part ∷ parts) = cond (l == part.lane) part.receipts [] ++ receipts_of l parts

-- Lanes are cut at a number: those below it are in the one list, the others in the other, each with its receipts.
pub record AreCutAt (first : ℕ) (lanes low high : List LanePart) : Type 0 where
  pub whole : (l : ℕ) → has_lane l lanes ≡ (has_lane l low || has_lane l high)
  pub below : (l : ℕ) → has_lane l low ≡ (nat_lt l first && has_lane l lanes)
  pub above : (l : ℕ) → has_lane l high ≡ (not (nat_lt l first) && has_lane l lanes)
  pub receipts_below : (l : ℕ) → receipts_of l low ≡ cond (nat_lt l first) (receipts_of l lanes) []
  pub receipts_above : (l : ℕ) → receipts_of l high ≡ cond (nat_lt l first) [] (receipts_of l lanes)
  pub gone : (id : CmdId) → has_gone id lanes ≡ (has_gone id low || has_gone id high)

-- Lanes are those of two lists, each with its receipts.
pub record AreJoined (one other both : List LanePart) : Type 0 where
  pub whole : (l : ℕ) → has_lane l both ≡ (has_lane l one || has_lane l other)
  pub receipts : (l : ℕ) → receipts_of l both ≡ receipts_of l one ++ receipts_of l other
  pub gone : (id : CmdId) → has_gone id both ≡ (has_gone id one || has_gone id other)

-- A pass that was split and joined again.
abbrev pub rejoined : PassPart → ℕ → ℕ → PassPart
rejoined pass first budget = joined_pass (cut_down pass first budget) (cut_off pass first budget)

-- A pass has what another has: its lanes with their receipts, its floor and its budget, and what it knows of stays.
pub record HasSame (pass other : PassPart) : Type 0 where
  pub lanes : (l : ℕ) → has_lane l pass.lanes ≡ has_lane l other.lanes
  pub receipts : (l : ℕ) → receipts_of l pass.lanes ≡ receipts_of l other.lanes
  pub gone : (id : CmdId) → has_gone id pass.lanes ≡ has_gone id other.lanes
  pub begun : pass.begun ≡ other.begun
  pub ended : pass.ended ≡ other.ended
  pub floor : pass.floor ≡ other.floor
  pub budget : pass.budget ≡ other.budget

-- The marks among the keeper's entries after it drew an event: those of before, and the event's own.
pub record HasMarks (event : Event) (old new : List Entry) : Type 0 where
  pub all : (block era : ℕ) → has_mark block era new ≡ (is_mark block era event || has_mark block era old)
  pub drawn : (block era : ℕ) → is_mark block era event ≡ true → has_mark block era new ≡ true
  pub kept : (block era : ℕ) → has_mark block era old ≡ true → has_mark block era new ≡ true
