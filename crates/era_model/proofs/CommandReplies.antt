-- The events and the reply of a command are those that it drew itself.
use Rattle.std.proofs.Common.{◌≡◌, Bool, true, false, List, [], ◌∷◌, ◌++◌, ◌||◌, refl, sym, ◌∙◌, arith, append_assoc}
use Rattle.era_base.specs.declared.ids.CmdId.{CmdId}
use Rattle.era_model.specs.declared.command.Command.{Command}
use Rattle.era_model.specs.declared.event.Event.{Event}
use Rattle.era_model.specs.declared.history.Happening.{Happening}
use Rattle.era_model.specs.declared.history.Happening.TheVariants.{Happened}
use Rattle.era_model.specs.Commands.{events_of}
use Rattle.era_model.specs.Events.{same_id, drawn_by}
use Rattle.era_model.specs.History.{next_place}
use Rattle.era_model.specs.SessionRun.{is_among}
use Rattle.era_model.specs.Transcript.{reply_line, replies_text}

-- a command is itself
pub same_id-refl : (id : CmdId) → same_id id id ≡ true
same_id-refl id = grind (arith)

-- two commands are the same one in either order
pub same_id-sym : (first second : CmdId) → same_id first second ≡ same_id second first
same_id-sym first second = grind (arith)

-- an event of another command adds none to a command's events
pub events_of-other : (h : List Happening) (event : Event) (id : CmdId) → same_id (drawn_by event) id ≡ false → events_of (Happened event ∷ h) id ≡ events_of h id
events_of-other h event id other = rw other refl

-- an event of the command comes behind its others
pub events_of-own : (h : List Happening) (event : Event) (id : CmdId) → same_id (drawn_by event) id ≡ true → events_of (Happened event ∷ h) id ≡ events_of h id ++ (next_place h, event) ∷ []
events_of-own h event id own = rw own refl

-- where the first command isn't the event's, and neither is a later one
other-first : (b rest : Bool) → (b || rest) ≡ false → b ≡ false
other-first false rest none = refl
other-first true rest none = absurd (cc)

other-rest : (b rest : Bool) → (b || rest) ≡ false → rest ≡ false
other-rest false rest none = none
other-rest true rest none = absurd (cc)

-- an event leaves the replies to commands that didn't draw it
pub replies_text-other : (h : List Happening) (event : Event) (commands : List Command) → is_among (drawn_by event) commands ≡ false → replies_text (Happened event ∷ h) commands ≡ replies_text h commands
replies_text-other h event [] none = refl
replies_text-other h event (command ∷ commands) none =
    let other = same_id-sym (drawn_by event) command.id ∙ other-first (same_id command.id (drawn_by event)) (is_among (drawn_by event) commands) none in
    let rest = other-rest (same_id command.id (drawn_by event)) (is_among (drawn_by event) commands) none in
    rw (events_of-other h event command.id other, replies_text-other h event commands rest) refl

-- the replies to commands are the replies to the first ones, and then to the others
pub replies_text-append : (h : List Happening) (first second : List Command) → replies_text h (first ++ second) ≡ replies_text h first ++ replies_text h second
replies_text-append h [] second = refl
replies_text-append h (command ∷ first) second = rw (replies_text-append h first second) (sym (append_assoc (reply_line command.line (events_of h command.id)) (replies_text h first) (replies_text h second)))
