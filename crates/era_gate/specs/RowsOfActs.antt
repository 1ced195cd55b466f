-- Small lists of acts under a gate of two stripes that was opened in era 1: some that are legal, and some that aren't.
use Rattle.std.specs.Prelude.{ℕ, zero, List, [], ◌∷◌, ◌++◌}
use Rattle.era_base.specs.declared.ids.CmdId.{CmdId}
use Rattle.era_model.specs.declared.event.Event.TheVariants.{Tried, Mark, Go, Done, Cut, Settle, Roll, Kept}
use Rattle.era_gate.specs.declared.stays.Stay.{Stay}
use Rattle.era_gate.specs.Acts.{Act, stripe_drew, keeper_drew, stay_began, stay_ended, era_moved, exchange_failed}

-- The command of lane 0 with this number.
abbrev pub command : ℕ → CmdId
command number = record { lane = 0; number = number }

-- A stay of a stripe, for the first command.
abbrev pub stay_at : ℕ → ℕ → ℕ → Stay
stay_at d number floor = record { id = command 0; stripe = d; number = number; floor = floor }

-- Block 0 is marked, and stripe 0 issues a write to it.
abbrev pub issued_acts : List Act
issued_acts =
    keeper_drew (Tried (command 0) 0 1) ∷ keeper_drew (Mark (command 0) 0 1) ∷ stay_began (stay_at 0 0 0)
    ∷ stripe_drew 0 (Go (command 0) 0 1 0 []) ∷ []

-- The write is acknowledged, and the era moves.
abbrev pub moved_acts : List Act
moved_acts = issued_acts ++ stripe_drew 0 (Done (command 0)) ∷ stay_ended 0 1 ∷ era_moved ∷ keeper_drew (Roll (command 1) 2) ∷ []

-- The write is cut, and an exchange that finds its stripe inside fails.
abbrev pub missed_acts : List Act
missed_acts = issued_acts ++ stripe_drew 0 (Cut (command 0) 1) ∷ exchange_failed (record { found = 1; ended = [] }) ∷ []

-- The switch is refused, and the write is then resolved.
abbrev pub refused_acts : List Act
refused_acts = missed_acts ++ keeper_drew (Kept (command 1) 1) ∷ stripe_drew 0 (Settle (command 2) (command 0) []) ∷ []

-- A write is issued without its mark.
abbrev pub unmarked_acts : List Act
unmarked_acts = stay_began (stay_at 0 0 0) ∷ stripe_drew 0 (Go (command 0) 0 1 0 []) ∷ []

-- The era moves while a stripe is inside.
abbrev pub early_move_acts : List Act
early_move_acts = stay_began (stay_at 0 0 0) ∷ era_moved ∷ []

-- A switch is refused though no exchange failed.
abbrev pub groundless_acts : List Act
groundless_acts = keeper_drew (Kept (command 1) 1) ∷ []

-- An exchange fails though nobody is inside.
abbrev pub vain_acts : List Act
vain_acts = exchange_failed (record { found = 0; ended = [] }) ∷ []

-- A mark is asked for by a command of a lane that no gate has.
abbrev pub stranger_acts : List Act
stranger_acts = keeper_drew (Tried (record { lane = 65; number = 0 }) 0 1) ∷ []

-- Two stays of stripe 0, of which the second has floor 3, and one of stripe 1.
abbrev pub few_stays : ℕ → List Stay
few_stays zero = stay_at 0 0 0 ∷ stay_at 0 1 3 ∷ []
few_stays d = stay_at d 0 0 ∷ []
