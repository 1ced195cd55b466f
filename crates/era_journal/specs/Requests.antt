-- Marks behind the requests for them, in a log.
use Rattle.std.specs.Prelude.{◌≡◌, List, [], ◌∷◌, Some}
use Rattle.era_model.specs.declared.event.Event.{Event}
use Rattle.era_model.specs.declared.event.Event.TheVariants.{Tried, Mark}
use Rattle.era_model.specs.declared.history.Happening.{Happening}
use Rattle.era_model.specs.declared.opening.Opening.{Opening}
use Rattle.era_model.specs.Marking.{last_drawn}
use Rattle.era_notes.specs.Logs.{Draw, logged_history}

-- A mark follows its command's request: asking for it is the last that its command drew.
abbrev pub FollowsRequest : List Happening → Event → Type 0
FollowsRequest h (Mark id block era) = last_drawn h id ≡ Some (Tried id block era)
FollowsRequest h event = Unit {0}

-- Each mark of a log does.
abbrev pub MarksFollowRequests : Opening → List Draw → Type 0
MarksFollowRequests opening [] = Unit {0}
MarksFollowRequests opening (draw ∷ earlier) = FollowsRequest (logged_history opening earlier) draw.event × MarksFollowRequests opening earlier
