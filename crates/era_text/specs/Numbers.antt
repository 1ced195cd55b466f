-- The numbers that words are.
use Rattle.std.specs.Prelude.{ℕ, ◌&&◌, nat_lt, List, Option, Some, None, decimal, bytes_eq, if◌then◌else◌}
use Rattle.std.specs.Str.Parse.{digits_value}

-- The number below a limit of which a word is the decimal: digits alone, without leading zeros.
abbrev pub number_of : ℕ → List ℕ → Option ℕ
number_of limit word =
    if nat_lt (digits_value 10 word) limit && bytes_eq word (decimal (digits_value 10 word))
    then Some (digits_value 10 word) else None
