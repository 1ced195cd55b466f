-- What lines say: each lane is below 64, and each task is one that a line spells.
use Rattle.std.proofs.Common.{◌≡◌, ℕ, ◌<◌, ◌≤◌, ◌==◌, ◌%◌, ◌&&◌, List, [], ◌∷◌, length, refl, ap, arith}
use Rattle.std.specs.Prelude.{Bool, true, false, Option, Some, None, Result, Ok, Err, bytes_eq, codes, nat_lt, nat_le, if◌then◌else◌}
use Rattle.std.proofs.lemmas.Bool.{ltb-true, leb-true, eqb-true, eqb-false, and_parts}
use Rattle.hex.specs.Hex.{decode_of}
use Rattle.hex.specs.declared.error.FromHexError.{FromHexError}
use Rattle.era_line.specs.Words.{words_of}
use Rattle.era_model.specs.declared.command.Request.{Request}
use Rattle.era_model.specs.Tasks.{IsPayload}
use Rattle.era_plan.specs.Forms.{bytes_of, is_payload, line_says, list_says, payload_or_none, read_says, request_of, request_says, with_bytes, with_number, words_say, write_says}
use Rattle.era_plan.specs.Numbers.{count_of, era_of, lane_of, number_of, sector_of, unless_zero}
use Rattle.era_plan.specs.Taking.{IsSayable}
use Rattle.era_plan.proofs.WordNumbers.{number-some, when-some}
use Rattle.era_plan.specs.declared.says.Says.{Says}
use Rattle.era_plan.specs.declared.says.Says.TheVariants.{Run, Nothing}
use Rattle.era_plan.specs.declared.round.LineKind.TheVariants.{LongLine, Unknown}

-- a number that isn't 0
some-number : (test : Bool) (number other : ℕ) → (if test then None else Some number) ≡ Some other → (test ≡ false) × (number ≡ other)
some-number true number other is = cc
some-number false number other is = (refl, cc)

unless-some : (number : Option ℕ) (other : ℕ) → unless_zero number ≡ Some other → (0 < other) × (number ≡ Some other)
unless-some None other is = cc
unless-some (Some number) other is =
    let found = some-number (number == 0) number other is in
    let none = eqb-false number 0 found.0 in
    (rw found.1 at (let some : 0 < number = omega arith in some), ap (λ n. Some n) found.1)

-- a word that is a count is one of 1 to 128
count-within : (count : ℕ) (word : List ℕ) → count_of word ≡ Some count → (0 < count) × (count ≤ 128)
count-within count word is =
    let found = unless-some (number_of 129 word) count is in
    (found.0, let below = (number-some 129 count word found.1).1 in omega arith)

-- bytes that digits spell are those of a write
payload-some : (read : Result (List ℕ) FromHexError) (bytes : List ℕ) → payload_or_none read ≡ Some bytes → IsPayload (length bytes)
payload-some (Err error) bytes is = cc
payload-some (Ok read) bytes is =
    let count = length read in
    let found = when-some (is_payload count) read bytes is in
    let parts = and_parts (nat_lt 0 count && count % 512 == 0) (nat_le count 65536) found.0 in
    let more = and_parts (nat_lt 0 count) (count % 512 == 0) parts.0 in
    let payload : IsPayload (length read) = record {
      some = ltb-true 0 count more.0;
      whole = eqb-true (count % 512) 0 more.1;
      most = leb-true count 65536 parts.1;
    } in
    rw found.1 at payload

-- one of two things that may be said
sayable-if : (test : Bool) (one other : Says) → IsSayable one → IsSayable other → IsSayable (if test then one else other)
sayable-if true one other is or = is
sayable-if false one other is or = or

-- what needs a number
sayable-number : (number : Option ℕ) (next : ℕ → Says) → ((n : ℕ) → number ≡ Some n → IsSayable (next n)) → IsSayable (with_number number next)
sayable-number None next all = tt
sayable-number (Some n) next all = all n refl

-- what needs bytes
sayable-bytes : (read : Option (List ℕ)) (next : List ℕ → Says) → ((bytes : List ℕ) → read ≡ Some bytes → IsSayable (next bytes)) → IsSayable (with_bytes read next)
sayable-bytes None next all = tt
sayable-bytes (Some bytes) next all = all bytes refl

sayable-write : (lane sector digits : List ℕ) → IsSayable (write_says lane sector digits)
sayable-write lane sector digits =
    sayable-number (lane_of lane) _ (λ l is. sayable-number (sector_of sector) _ (λ s _.
    sayable-bytes (bytes_of digits) _ (λ bytes spelled. ((number-some 64 l lane is).1, payload-some (decode_of digits) bytes spelled))))

sayable-read : (lane sector count : List ℕ) → IsSayable (read_says lane sector count)
sayable-read lane sector count =
    sayable-number (lane_of lane) _ (λ l is. sayable-number (sector_of sector) _ (λ s _.
    sayable-number (count_of count) _ (λ c some. ((number-some 64 l lane is).1, count-within c count some))))

sayable-list : (snap : Bool) (lane era : List ℕ) → IsSayable (list_says snap lane era)
sayable-list snap lane era = sayable-number (lane_of lane) _ (λ l is. sayable-number (era_of era) _ (λ e _. ((number-some 64 l lane is).1, tt)))

sayable-request : (lane : List ℕ) (request : Option Request) → IsSayable (request_says lane request)
sayable-request lane None = tt
sayable-request lane (Some request) = sayable-number (lane_of lane) _ (λ l is. ((number-some 64 l lane is).1, tt))

sayable-words : (words : List (List ℕ)) → IsSayable (words_say words)
sayable-words [] = tt
sayable-words (word ∷ []) = sayable-if (bytes_eq word (codes "run")) Run (Nothing Unknown) tt tt
sayable-words (lane ∷ name ∷ []) = sayable-request lane (request_of name)
sayable-words (lane ∷ name ∷ era ∷ []) =
    sayable-if (bytes_eq name (codes "list")) _ _ (sayable-list false lane era)
    (sayable-if (bytes_eq name (codes "list_snap")) _ _ (sayable-list true lane era) tt)
sayable-words (lane ∷ name ∷ sector ∷ last ∷ []) =
    sayable-if (bytes_eq name (codes "write")) _ _ (sayable-write lane sector last)
    (sayable-if (bytes_eq name (codes "read")) _ _ (sayable-read lane sector last) tt)
sayable-words (lane ∷ name ∷ sector ∷ last ∷ word ∷ words) = tt

-- what a line says
pub sayable : (line : List ℕ) → IsSayable (line_says line)
sayable line = sayable-if (nat_lt 131200 (length line)) (Nothing LongLine) (words_say (words_of line)) tt (sayable-words (words_of line))

pub sayable-is : (line : List ℕ) (says : Says) → says ≡ line_says line → IsSayable says
sayable-is line says is = rw is (sayable line)
