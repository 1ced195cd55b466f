-- The reply of a command by the entries of its events.
use Rattle.std.specs.Prelude.{ℕ, Bool, true, false, List, map, Option, Some, None}
use Rattle.std.specs.Borrow.{Bor}
use Rattle.era_model.specs.Commands.{answer_after_event}
use Rattle.era_model.specs.declared.entry.Entry.{Entry}
use Rattle.era_model.specs.declared.event.Event.{Event}
use Rattle.era_model.specs.declared.event.Event.TheVariants.{Tried, Mark, Go, Settle, Unsettled}
use Rattle.era_model.specs.declared.reply.Answer.{Answer}
use Rattle.era_model.specs.declared.reply.Answer.TheVariants.{Range}

-- Whether an event gives its command an answer: a request, a mark, a write that was issued and a resolution give none.
abbrev pub gives_answer : Event → Bool
gives_answer (Tried id block era) = false
gives_answer (Mark id block era) = false
gives_answer (Go id block era first bytes) = false
gives_answer (Settle by cut bytes) = false
gives_answer (Unsettled by cut faults) = false
gives_answer event = true

-- The answer to a command that drew this event alone.
abbrev pub answer_by : Event → Answer
answer_by event = answer_after_event Range event

-- The answer that an event fixes, and out of range where there is none.
abbrev pub told_by : Option (Bor Event) → Answer
told_by None = Range
told_by (Some event) = answer_by event.now

-- An event with its place.
abbrev pub placed : Entry → ℕ × Event
placed entry = (entry.place, entry.event)

-- The events of entries, each with its place.
abbrev pub trail_of : List (Bor Entry) → List (ℕ × Event)
trail_of entries = map (λ (e : Bor Entry). placed e.now) entries
