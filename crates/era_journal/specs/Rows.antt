-- A small session that is worked out by hand, over disks that don't tell their contents: an origin of one block, which one stripe writes once its mark is stored.
use Rattle.std.specs.Prelude.{ℕ, false, List, [], ◌∷◌, None}
use Rattle.era_gate.specs.Acts.{Act, keeper_drew, stay_began, stay_ended, stripe_drew}
use Rattle.era_gate.specs.Gathered.{account_of}
use Rattle.era_gate.specs.declared.stays.Stay.{Stay}
use Rattle.era_keeper.specs.Keepers.{KeeperView}
use Rattle.era_model.specs.declared.event.Event.TheVariants.{Tried, Mark, Go, Done}
use Rattle.era_model.specs.declared.opening.Opening.{Opening}
use Rattle.era_model.specs.Rows.{first_lane}
use Rattle.era_notes.specs.Logs.{Draw}
use Rattle.era_notes.specs.Parts.{Part}
use Rattle.era_promise.specs.Rows.{marked, new_bytes, note_of, one_block, opened_on, stores_mark, unmarked, writes_sector}
use Rattle.era_stripe.specs.Stripes.{StripeView}

-- The opening of a session without marks, over contents that aren't known.
abbrev pub silent_opening : Opening
silent_opening = record (opened_on unmarked []) { contents = record { bytes = None } }

-- The first stay of the stripe, for the first command.
abbrev pub first_stay : Stay
first_stay = record { id = first_lane 0; stripe = 0; number = 0; floor = 0 }

-- The keeper asks for the mark and stores it, and the stripe enters, issues the write, acknowledges it and leaves.
abbrev pub write_acts : List Act
write_acts =
    keeper_drew (Tried (first_lane 0) 0 1) ∷ keeper_drew (Mark (first_lane 0) 0 1) ∷ stay_began first_stay
    ∷ stripe_drew 0 (Go (first_lane 0) 0 1 0 new_bytes) ∷ stripe_drew 0 (Done (first_lane 0)) ∷ stay_ended 0 1 ∷ []

-- The write is issued when its mark was only asked for.
abbrev pub early_acts : List Act
early_acts = keeper_drew (Tried (first_lane 0) 0 1) ∷ stay_began first_stay ∷ stripe_drew 0 (Go (first_lane 0) 0 1 0 new_bytes) ∷ []

-- A part of so many blocks from the first one on.
abbrev pub part_with : ℕ → Part
part_with blocks = record { first = 0; blocks = blocks; size = 8 }

-- What is seen of the stripe, with this part.
abbrev pub stripe_seen : Part → StripeView
stripe_seen part = record {
  part = part;
  geometry = one_block;
  index = 0;
  history = writes_sector;
  begun = 0;
  least = 0;
  faults = 0;
  notes = note_of 3 (Done (first_lane 0)) 2 ∷ note_of 2 (Go (first_lane 0) 0 1 0 new_bytes) 0 ∷ [];
  state = (account_of silent_opening write_acts).stripe 0;
  entries = ((account_of silent_opening write_acts).stripe 0).entries;
}

-- What is seen of the keeper.
abbrev pub keeper_seen : KeeperView
keeper_seen = record {
  history = stores_mark;
  begun = 0;
  least = 0;
  faults = 0;
  notes = note_of 1 (Mark (first_lane 0) 0 1) 1 ∷ note_of 0 (Tried (first_lane 0) 0 1) 0 ∷ [];
  marks = marked;
  held = None;
  unstored = false;
  total = 57;
  state = (account_of silent_opening write_acts).keeper;
  entries = (account_of silent_opening write_acts).keeper.entries;
}

-- A mark that its command draws when it has issued its write.
abbrev pub late_log : List Draw
late_log =
    record { drawer = 1; event = Mark (first_lane 0) 0 1 } ∷ record { drawer = 0; event = Go (first_lane 0) 0 1 0 new_bytes }
    ∷ record { drawer = 1; event = Tried (first_lane 0) 0 1 } ∷ []
