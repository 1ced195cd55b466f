-- Marks behind the requests for them, among the entries of one lane.
use Rattle.std.specs.Prelude.{◌≡◌, List, [], ◌∷◌, Option, None, Some}
use Rattle.era_model.specs.declared.entry.Entry.{Entry}
use Rattle.era_model.specs.declared.event.Event.{Event}
use Rattle.era_model.specs.declared.event.Event.TheVariants.{Tried, Mark}
use Rattle.era_gate.specs.Receipts.{entries_in}
use Rattle.era_gate.specs.Rule.{Each}
use Rattle.era_gate.specs.declared.parts.LanePart.{LanePart}

-- The event before a mark, if there is one, asks for it.
abbrev pub IsAskedBy : Option Event → Event → Type 0
IsAskedBy before (Mark id block era) = before ≡ Some (Tried id block era)
IsAskedBy before event = Unit {0}

-- Among entries, behind an event or none, each mark stands directly behind its request.
abbrev pub MarksStandBehindRequests : Option Event → List Entry → Type 0
MarksStandBehindRequests before [] = Unit {0}
MarksStandBehindRequests before (entry ∷ entries) = IsAskedBy before entry.event × MarksStandBehindRequests (Some entry.event) entries

-- Among the entries of each lane's receipts each mark does.
abbrev pub LanesAskForMarks : List LanePart → Type 0
LanesAskForMarks lanes = Each (λ (part : LanePart). MarksStandBehindRequests None (entries_in part.receipts)) lanes
