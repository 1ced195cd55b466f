-- What a lane's receipts tell: entries, and stays.
use Rattle.std.specs.Prelude.{ℕ, ◌==◌, List, [], ◌∷◌, filter}
use Rattle.era_model.specs.declared.entry.Entry.{Entry}
use Rattle.era_gate.specs.declared.stays.Receipt.{Receipt}
use Rattle.era_gate.specs.declared.stays.Receipt.TheVariants.{OfEvent, OfStay}
use Rattle.era_gate.specs.declared.stays.Stay.{Stay}
use Rattle.era_gate.specs.Acts.{lane_of}

-- The entries among receipts.
abbrev pub entries_in : List Receipt → List Entry
entries_in [] = []
entries_in (OfEvent e ∷ receipts) = e ∷ entries_in receipts
entries_in (OfStay stay ∷ receipts) = entries_in receipts

-- The stays among receipts.
abbrev pub stays_in : List Receipt → List Stay
stays_in [] = []
stays_in (OfEvent e ∷ receipts) = stays_in receipts
stays_in (OfStay stay ∷ receipts) = stay ∷ stays_in receipts

-- The entries of a lane's commands.
abbrev pub entries_for : ℕ → List Entry → List Entry
entries_for l entries = filter (λ (e : Entry). l == lane_of e.event) entries

-- The stays for a lane's commands.
abbrev pub stays_for : ℕ → List Stay → List Stay
stays_for l stays = filter (λ (stay : Stay). l == stay.id.lane) stays

-- The stays at a stripe.
abbrev pub stays_at : ℕ → List Stay → List Stay
stays_at d stays = filter (λ (stay : Stay). d == stay.stripe) stays
