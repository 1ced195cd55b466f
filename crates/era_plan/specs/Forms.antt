-- What a line of the stream says: the end of a round, a command of a lane, or nothing, by the first kind of refusal that applies.
use Rattle.std.specs.Prelude.{ℕ, ◌%◌, ◌==◌, ◌&&◌, nat_lt, nat_le, Bool, true, false, List, [], ◌∷◌, length, Option, Some, None, Result, Ok, Err, codes, bytes_eq, if◌then◌else◌}
use Rattle.hex.specs.Hex.{decode_of}
use Rattle.hex.specs.declared.error.FromHexError.{FromHexError}
use Rattle.era_line.specs.Words.{words_of}
use Rattle.era_model.specs.declared.command.Request.{Request}
use Rattle.era_model.specs.declared.command.Request.TheVariants.{Checkpoint, TakeSnap, DropSnap, Digest, Status, List as ListSince}
use Rattle.era_model.specs.declared.command.Task.TheVariants.{Write, Read, Ask}
use Rattle.era_plan.specs.declared.round.LineKind.TheVariants.{LongLine, Unknown, BadNumber, BadHex}
use Rattle.era_plan.specs.declared.says.Says.{Says}
use Rattle.era_plan.specs.declared.says.Says.TheVariants.{Run, Does, Nothing}
use Rattle.era_plan.specs.Numbers.{lane_of, sector_of, era_of, count_of}

-- What a line says that needs a number.
abbrev pub with_number : Option ℕ → (ℕ → Says) → Says
with_number None next = Nothing BadNumber
with_number (Some number) next = next number

-- Whether so many bytes are 1 to 128 whole sectors.
abbrev pub is_payload : ℕ → Bool
is_payload count = nat_lt 0 count && count % 512 == 0 && nat_le count 65536

-- Bytes that were spelled, where they are as many.
abbrev pub payload_or_none : Result (List ℕ) FromHexError → Option (List ℕ)
payload_or_none (Ok bytes) = if is_payload (length bytes) then Some bytes else None
payload_or_none (Err error) = None

-- The bytes of a write that a word spells by hexadecimal digits of either case: 1 to 128 whole sectors.
abbrev pub bytes_of : List ℕ → Option (List ℕ)
bytes_of digits = payload_or_none (decode_of digits)

-- What a line says that needs the bytes of a write.
abbrev pub with_bytes : Option (List ℕ) → (List ℕ → Says) → Says
with_bytes None next = Nothing BadHex
with_bytes (Some bytes) next = next bytes

-- A write, by the words of its lane, its sector and its bytes.
abbrev pub write_says : List ℕ → List ℕ → List ℕ → Says
write_says lane sector digits =
    with_number (lane_of lane) (λ lane. with_number (sector_of sector) (λ sector.
    with_bytes (bytes_of digits) (λ bytes. Does lane (Write sector bytes))))

-- A read, by the words of its lane, its sector and its number of sectors.
abbrev pub read_says : List ℕ → List ℕ → List ℕ → Says
read_says lane sector count =
    with_number (lane_of lane) (λ lane. with_number (sector_of sector) (λ sector.
    with_number (count_of count) (λ count. Does lane (Read sector count))))

-- A list by the marks or by the snapshot, by the words of its lane and its era.
abbrev pub list_says : Bool → List ℕ → List ℕ → Says
list_says snap lane era =
    with_number (lane_of lane) (λ lane. with_number (era_of era) (λ since. Does lane (Ask (ListSince since snap))))

-- The request that a word asks for by itself.
abbrev pub request_of : List ℕ → Option Request
request_of word =
    if bytes_eq word (codes "checkpoint") then Some Checkpoint
    else if bytes_eq word (codes "take_metadata_snap") then Some TakeSnap
    else if bytes_eq word (codes "drop_metadata_snap") then Some DropSnap
    else if bytes_eq word (codes "digest") then Some Digest
    else if bytes_eq word (codes "status") then Some Status
    else None

-- A request of a lane.
abbrev pub request_says : List ℕ → Option Request → Says
request_says lane None = Nothing Unknown
request_says lane (Some request) = with_number (lane_of lane) (λ lane. Does lane (Ask request))

-- A line of one word.
abbrev pub one_word_says : List ℕ → Says
one_word_says word = if bytes_eq word (codes "run") then Run else Nothing Unknown

-- A line of three words.
abbrev pub three_words_say : List ℕ → List ℕ → List ℕ → Says
three_words_say lane name era =
    if bytes_eq name (codes "list") then list_says false lane era
    else if bytes_eq name (codes "list_snap") then list_says true lane era
    else Nothing Unknown

-- A line of four words.
abbrev pub four_words_say : List ℕ → List ℕ → List ℕ → List ℕ → Says
four_words_say lane name sector last =
    if bytes_eq name (codes "write") then write_says lane sector last
    else if bytes_eq name (codes "read") then read_says lane sector last
    else Nothing Unknown

-- A line of these words.
abbrev pub words_say : List (List ℕ) → Says
words_say (word ∷ []) = one_word_says word
words_say (lane ∷ name ∷ []) = request_says lane (request_of name)
words_say (lane ∷ name ∷ era ∷ []) = three_words_say lane name era
words_say (lane ∷ name ∷ sector ∷ last ∷ []) = four_words_say lane name sector last
words_say words = Nothing Unknown

-- What a line says. The order of the tests is the order of the kinds.
abbrev pub line_says : List ℕ → Says
line_says line = if nat_lt 131200 (length line) then Nothing LongLine else words_say (words_of line)
