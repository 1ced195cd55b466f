-- The numbers that words of a line are.
use Rattle.std.specs.Prelude.{ℕ, ◌^◌, ◌==◌, ◌&&◌, nat_lt, List, Option, Some, None, decimal, bytes_eq, if◌then◌else◌}
use Rattle.std.specs.Str.Parse.{digits_value}

-- The number below a limit of which a word is the decimal: digits alone, without leading zeros.
abbrev pub number_of : ℕ → List ℕ → Option ℕ
number_of limit word =
    if nat_lt (digits_value 10 word) limit && bytes_eq word (decimal (digits_value 10 word))
    then Some (digits_value 10 word) else None

-- A number that isn't 0.
abbrev pub unless_zero : Option ℕ → Option ℕ
unless_zero None = None
unless_zero (Some number) = if number == 0 then None else Some number

-- The lane that a word is: 0 to 63.
abbrev pub lane_of : List ℕ → Option ℕ
lane_of word = number_of 64 word

-- The sector that a word is: any number of 64 bits.
abbrev pub sector_of : List ℕ → Option ℕ
sector_of word = number_of (2 ^ 64) word

-- The era that a word is: any number of 32 bits.
abbrev pub era_of : List ℕ → Option ℕ
era_of word = number_of (2 ^ 32) word

-- The number of sectors that a word is: 1 to 128.
abbrev pub count_of : List ℕ → Option ℕ
count_of word = unless_zero (number_of 129 word)
