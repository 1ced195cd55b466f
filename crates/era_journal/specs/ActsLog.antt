-- The acts of a gate as a log: each draw with its drawer, the latest first. A stripe draws by its number, and the keeper by a number of its own.
use Rattle.std.specs.Prelude.{ℕ, List, [], ◌∷◌}
use Rattle.era_gate.specs.Acts.{Act, stripe_drew, keeper_drew}
use Rattle.era_notes.specs.Logs.{Draw}

-- The log after acts that came behind one.
abbrev pub log_after : ℕ → List Draw → List Act → List Draw
log_after keeper log [] = log
log_after keeper log (stripe_drew k event ∷ acts) = log_after keeper (record { drawer = k; event = event } ∷ log) acts
log_after keeper log (keeper_drew event ∷ acts) = log_after keeper (record { drawer = keeper; event = event } ∷ log) acts
log_after keeper log (act ∷ acts) = log_after keeper log acts

-- The log of all draws of acts, where the keeper has this number.
abbrev pub log_of : ℕ → List Act → List Draw
log_of keeper acts = log_after keeper [] acts
