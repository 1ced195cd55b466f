-- The streams in memory: what is left of a source, what a sink was given, and which of their calls fail.
use Rattle.std.specs.Prelude.{◌≡◌, ◌==◌, ◌⊎◌, ℕ, ◌+◌, ◌<◌, ◌≤◌, Bool, List, ◌++◌, length, take, drop, vec_capacity, Option, Result, OnErr, MatchResult}
use Rattle.std.specs.List.{find}
use Rattle.std.specs.Option.{option_map}
use Rattle.era_disks.specs.Calls.{one_more}
use Rattle.era_disks.specs.declared.failing_give.FailingGive.{FailingGive}
use Rattle.era_disks.specs.declared.text_source.TextSource.{TextSource}
use Rattle.era_disks.specs.declared.text_sink.TextSink.{TextSink}

-- The bytes that are left of a source in memory.
abbrev pub left_in : TextSource → List ℕ
left_in source = drop source.taken source.bytes

-- How often a source in memory has failed.
abbrev pub source_faults : TextSource → ℕ
source_faults source = source.faults

-- The bytes that a sink in memory was given.
abbrev pub given_to : TextSink → List ℕ
given_to sink = sink.bytes.items

-- How often a sink in memory has failed.
abbrev pub sink_faults : TextSink → ℕ
sink_faults sink = sink.faults

-- How often a sink in memory was refused memory.
abbrev pub starved_of : TextSink → ℕ
starved_of sink = sink.starved

-- How many bytes a sink in memory has room for.
abbrev pub room_of : TextSink → ℕ
room_of sink = vec_capacity sink.bytes

-- Whether a failing give has this number.
abbrev pub has_number : ℕ → FailingGive → Bool
has_number number give = give.number == number

-- How many bytes of its piece the give with this number still takes, where it is one of those that fail.
abbrev pub still_taken : List FailingGive → ℕ → Option ℕ
still_taken gives number = option_map (λ give. give.taken) (find (has_number number) gives)

-- How many bytes of its piece the next give still takes, where it is one of those that fail.
abbrev pub next_taken : TextSink → Option ℕ
next_taken sink = still_taken sink.failing.items sink.gives

-- The sink took bytes, and was not refused memory.
pub record Took (bytes : List ℕ) (old new : TextSink) : Type 0 where
  pub given : given_to new ≡ given_to old ++ bytes
  pub fed : starved_of new ≡ starved_of old

-- The sink was refused memory, and took nothing.
pub record Starved (old new : TextSink) : Type 0 where
  pub given : given_to new ≡ given_to old
  pub starved : starved_of new ≡ one_more (starved_of old)

-- The sink took all the bytes, or failed as memory was refused.
abbrev pub GivesWhole : {T E : Type 0} → List ℕ → TextSink → TextSink → Result T E → Type 0
GivesWhole bytes old new result = MatchResult result (λ _. Took bytes old new) (λ _. Starved old new)

-- The room hasn't shrunk; where the sink failed, what was given with these bytes would have passed it.
pub record KeepsRoom {T E : Type 0} (bytes : List ℕ) (old new : TextSink) (result : Result T E) : Type 0 where
  pub kept : room_of old ≤ room_of new
  pub passed : OnErr result (room_of old < length (given_to old) + length bytes)

-- The sink took so many of the bytes as a failing give takes, but for want of memory.
abbrev pub GivesListed : ℕ → List ℕ → TextSink → TextSink → Type 0
GivesListed taken bytes old new = Took (take taken bytes) old new ⊎ Starved old new
