-- What a gate hands out at its close: the acts of which its seats and its pass tell.
use Rattle.std.specs.Prelude.{◌≡◌, ◌⊎◌, ℕ, ◌<◌, true, List, map, length, All, Contains}
use Rattle.era_model.specs.declared.entry.Entry.{Entry}
use Rattle.era_model.specs.declared.opening.Opening.{Opening}
use Rattle.era_model.specs.Journal.{AreNumberedFrom}
use Rattle.era_gate.specs.declared.parts.StripePart.{StripePart}
use Rattle.era_gate.specs.declared.parts.KeeperPart.{KeeperPart}
use Rattle.era_gate.specs.declared.parts.LanePart.{LanePart}
use Rattle.era_gate.specs.declared.plan.Plan.{Plan}
use Rattle.era_gate.specs.Acts.{Act, Account, opened, reach, IsLegalFrom}
use Rattle.era_gate.specs.Parts.{has_stripe, has_lane}
use Rattle.era_gate.specs.Rule.{AreDistinct, Each}
use Rattle.era_gate.specs.Calls.{StripeToken}
use Rattle.era_gate.specs.ModelLaw.{IsOwnWrite, stripe_at}

-- The parts of stripes' seats.
abbrev pub parts_of : List StripeToken → List StripePart
parts_of seats = map (λ seat. seat.part) seats

-- The account that acts come to in a gate of this plan.
abbrev pub reached : Plan → List Act → Account
reached plan acts = reach (opened plan.era) acts

-- Seats and pass tell of acts: these are legal and drew so many places; each stripe's state, the keeper's and each lane's receipts are those of the acts; each stripe is told of once, and each of the 65 lanes.
pub record Tells (plan : Plan) (places : ℕ) (parts : List StripePart) (kept : KeeperPart) (lanes : List LanePart) (acts : List Act) : Type 0 where
  pub legal : IsLegalFrom plan.stripes (opened plan.era) acts
  pub drawn : (reached plan acts).places ≡ places
  pub stripes : Each (λ part. (part.stripe < plan.stripes) × ((reached plan acts).stripe part.stripe ≡ part.state)) parts
  pub keeper : (reached plan acts).keeper ≡ kept.state
  pub receipts : Each (λ part. (reached plan acts).lane part.lane ≡ part.receipts) lanes
  pub apart : AreDistinct parts
  pub whole : (d : ℕ) → d < plan.stripes → has_stripe d parts ≡ true
  pub every_lane : (l : ℕ) → l < 65 → has_lane l lanes ≡ true

-- An entry is the keeper's or one of a stripe's, as the seats had them.
abbrev pub IsOfSeat : List StripePart → KeeperPart → Entry → Type 0
IsOfSeat parts kept entry =
    Contains kept.state.entries entry ⊎ ((part : StripePart) × Contains parts part × Contains part.state.entries entry)

-- Entries are collected from the seats: they are numbered from 0, as many as places were drawn, and each is of a seat.
pub record AreCollected (places : ℕ) (parts : List StripePart) (kept : KeeperPart) (entries : List Entry) : Type 0 where
  pub numbered : AreNumberedFrom 0 entries
  pub size : length entries ≡ places
  pub seats : All (IsOfSeat parts kept) entries

-- Each stripe issued writes to its own blocks alone, in a session that opens so.
abbrev pub WriteOwnBlocks : Opening → List StripePart → Type 0
WriteOwnBlocks opening parts = Each (λ part. All (λ (entry : Entry). IsOwnWrite (stripe_at opening) part.stripe entry.event) part.state.entries) parts
