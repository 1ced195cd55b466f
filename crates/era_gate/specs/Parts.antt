-- What seats know: parts of the account, how an act changes them, and how views are put together.
use Rattle.std.specs.Prelude.{ℕ, zero, suc, ◌+◌, ◌-◌, ◌==◌, ◌||◌, max, cond, Bool, true, false, List, [], ◌∷◌, map}
use Rattle.era_base.specs.Flags.{tabulate}
use Rattle.era_gate.specs.declared.parts.StripePart.{StripePart}
use Rattle.era_gate.specs.declared.parts.KeeperPart.{KeeperPart}
use Rattle.era_gate.specs.declared.parts.LanePart.{LanePart}
use Rattle.era_gate.specs.declared.parts.PassPart.{PassPart}
use Rattle.era_gate.specs.declared.parts.View.{View}
use Rattle.era_gate.specs.declared.plan.Plan.{Plan}
use Rattle.era_gate.specs.Acts.{Act, stripe_drew, keeper_drew, stay_began, stay_ended, era_moved, stripe_after, keeper_after, receipts_after, new_state, new_keeper_state}

-- A stripe's part before any act.
abbrev pub new_stripe : ℕ → StripePart
new_stripe d = record { stripe = d; era = 0; seen = []; state = new_state }

-- The keeper's part before any act.
abbrev pub new_keeper : ℕ → KeeperPart
new_keeper era = record { cleared = 0; state = new_keeper_state era }

-- A lane without receipts.
abbrev pub new_lane : ℕ → LanePart
new_lane l = record { lane = l; receipts = [] }

-- The pass of all lanes and of all draws, before any act.
abbrev pub new_pass : PassPart
new_pass = record { lanes = tabulate 0 65 new_lane; begun = []; ended = []; floor = 0; budget = 1152921504606846976 }

-- No pass: no lane, and nothing to draw.
abbrev pub no_pass : PassPart
no_pass = record { lanes = []; begun = []; ended = []; floor = 0; budget = 0 }

-- The view of a stripe's seat, with a pass in it.
abbrev pub stripe_with_pass : StripePart → PassPart → View
stripe_with_pass part pass = record { stripes = part ∷ []; keepers = []; pass = pass }

-- The view of the keeper's seat, with a pass in it.
abbrev pub keeper_with_pass : KeeperPart → PassPart → View
keeper_with_pass part pass = record { stripes = []; keepers = part ∷ []; pass = pass }

-- The view of a stripe's seat between calls.
abbrev pub stripe_view : StripePart → View
stripe_view part = stripe_with_pass part no_pass

-- The view of the keeper's seat between calls.
abbrev pub keeper_view : KeeperPart → View
keeper_view part = keeper_with_pass part no_pass

-- The view of a pass.
abbrev pub pass_view : PassPart → View
pass_view pass = record { stripes = []; keepers = []; pass = pass }

-- The stripe's part in a view that has one.
abbrev pub stripe_in_view : List StripePart → StripePart
stripe_in_view [] = new_stripe 0
stripe_in_view (part ∷ parts) = part

-- The keeper's part in a view that has one.
abbrev pub keeper_in_view : List KeeperPart → KeeperPart
keeper_in_view [] = new_keeper 0
keeper_in_view (part ∷ parts) = part

-- The pass of a view, where there is one.
abbrev pub pass_in : List View → PassPart
pass_in [] = no_pass
pass_in (view ∷ views) = view.pass

-- The first view of a gate, which has all parts.
abbrev pub first_view : Plan → View
first_view plan = record { stripes = tabulate 0 plan.stripes new_stripe; keepers = new_keeper plan.era ∷ []; pass = new_pass }

-- Whether a stripe is among the parts.
abbrev pub has_stripe : ℕ → List StripePart → Bool
has_stripe d [] = false
has_stripe d (part ∷ parts) = d == part.stripe || has_stripe d parts

-- Whether the keeper is among the parts.
abbrev pub has_keeper : List KeeperPart → Bool
has_keeper [] = false
has_keeper (part ∷ parts) = true

-- Whether a lane is among the lanes.
abbrev pub has_lane : ℕ → List LanePart → Bool
has_lane l [] = false
has_lane l (part ∷ parts) = l == part.lane || has_lane l parts

-- The greater number at each index; past the end of a list its numbers count as 0.
abbrev pub most : List ℕ → List ℕ → List ℕ
most [] ys = ys
most (x ∷ xs) [] = x ∷ xs
most (x ∷ xs) (y ∷ ys) = max x y ∷ most xs ys

-- A number at one index, and 0 before it.
abbrev pub only_at : ℕ → ℕ → List ℕ
only_at zero n = n ∷ []
only_at (suc d) n = 0 ∷ only_at d n

-- The era of a stripe's stay, by the stripe's number, after an act under an era of the word.
abbrev pub seat_era_after : Act → ℕ → ℕ → ℕ → ℕ
seat_era_after (stay_began stay) word_era d era = cond (d == stay.stripe) word_era era
seat_era_after act word_era d era = era

-- The blocks that a stripe saw in its stay, after an act.
abbrev pub seen_after : Act → ℕ → List ℕ → List ℕ
seen_after (stay_ended k begun) d seen = cond (d == k) [] seen
seen_after act d seen = seen

-- A stripe's part after an act at a place, under an era of the word.
abbrev pub stripe_part_after : Act → ℕ → ℕ → StripePart → StripePart
stripe_part_after x place word_era part = record {
  stripe = part.stripe;
  era = seat_era_after x word_era part.stripe part.era;
  seen = seen_after x part.stripe part.seen;
  state = stripe_after x place part.stripe part.state;
}

-- How many words of the spare bitmap are known to be 0, after an act.
abbrev pub cleared_after : Act → ℕ → ℕ
cleared_after era_moved cleared = 0
cleared_after act cleared = cleared

-- The keeper's part after an act at a place.
abbrev pub keeper_part_after : Act → ℕ → KeeperPart → KeeperPart
keeper_part_after x place part = record { cleared = cleared_after x part.cleared; state = keeper_after x place part.state }

-- A lane after an act at a place.
abbrev pub lane_part_after : Act → ℕ → LanePart → LanePart
lane_part_after x place part = record { lane = part.lane; receipts = receipts_after x place part.lane part.receipts }

-- Below which numbers stays are known to have begun, after an act.
abbrev pub begun_after : Act → List ℕ → List ℕ
begun_after (stay_began stay) begun = most begun (only_at stay.stripe (stay.number + 1))
begun_after act begun = begun

-- Below which numbers stays are known to have ended, after an act.
abbrev pub ended_after : Act → List ℕ → List ℕ
ended_after (stay_ended k begun) ended = most ended (only_at k begun)
ended_after act ended = ended

-- The floor after an act at a place.
abbrev pub floor_after : Act → ℕ → ℕ → ℕ
floor_after (stripe_drew k event) place floor = place + 1
floor_after (keeper_drew event) place floor = place + 1
floor_after act place floor = floor

-- What may still be drawn, after an act.
abbrev pub budget_after : Act → ℕ → ℕ
budget_after (stripe_drew k event) budget = budget - 1
budget_after (keeper_drew event) budget = budget - 1
budget_after act budget = budget

-- A pass after an act at a place.
abbrev pub pass_after : Act → ℕ → PassPart → PassPart
pass_after x place pass = record {
  lanes = map (lane_part_after x place) pass.lanes;
  begun = begun_after x pass.begun;
  ended = ended_after x pass.ended;
  floor = floor_after x place pass.floor;
  budget = budget_after x pass.budget;
}

-- The view of the seat that acts, after an act at a place, under an era of the word.
abbrev pub view_after : Act → ℕ → ℕ → View → View
view_after x place word_era view = record {
  stripes = map (stripe_part_after x place word_era) view.stripes;
  keepers = map (keeper_part_after x place) view.keepers;
  pass = pass_after x place view.pass;
}
