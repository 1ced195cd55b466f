-- What all views put together have: parts, lanes, entries and stays.
use Rattle.std.specs.Prelude.{List, [], ◌∷◌, ◌++◌}
use Rattle.era_model.specs.declared.entry.Entry.{Entry}
use Rattle.era_gate.specs.declared.stays.Stay.{Stay}
use Rattle.era_gate.specs.declared.parts.StripePart.{StripePart}
use Rattle.era_gate.specs.declared.parts.KeeperPart.{KeeperPart}
use Rattle.era_gate.specs.declared.parts.LanePart.{LanePart}
use Rattle.era_gate.specs.declared.parts.View.{View}

-- The stripes' parts of all views put together.
abbrev pub all_stripes : List View → List StripePart
all_stripes [] = []
all_stripes (view ∷ views) = view.stripes ++ all_stripes views

-- The keeper's part in all views put together.
abbrev pub all_keepers : List View → List KeeperPart
all_keepers [] = []
all_keepers (view ∷ views) = view.keepers ++ all_keepers views

-- The lanes of all views put together.
abbrev pub all_lanes : List View → List LanePart
all_lanes [] = []
all_lanes (view ∷ views) = view.pass.lanes ++ all_lanes views

-- The entries of stripes.
abbrev pub stripe_entries : List StripePart → List Entry
stripe_entries [] = []
stripe_entries (part ∷ parts) = part.state.entries ++ stripe_entries parts

-- The entries of the keeper.
abbrev pub keeper_entries : List KeeperPart → List Entry
keeper_entries [] = []
keeper_entries (part ∷ parts) = part.state.entries ++ keeper_entries parts

-- The stays of stripes.
abbrev pub stripe_stays : List StripePart → List Stay
stripe_stays [] = []
stripe_stays (part ∷ parts) = part.state.stays ++ stripe_stays parts

-- The entries of a view: those of the stripes in it, and of the keeper. Receipts are none.
abbrev pub entries_of : View → List Entry
entries_of view = stripe_entries view.stripes ++ keeper_entries view.keepers
