-- Lines of output as their parts.
use Rattle.std.specs.Prelude.{ℕ, List, decimal}
use Rattle.std.specs.List.{flat_map}
use Rattle.hex.specs.Hex.{encode_lower}
use Rattle.era_model.specs.Transcript.{number_or_dash}
use Rattle.era_line.specs.declared.parts.Part.{Part}
use Rattle.era_line.specs.declared.parts.Part.TheVariants.{Text, Number, OrDash, Hex}

-- The bytes of one part: a text as it stands, a number in decimal digits, a dash where there is no number, bytes as hexadecimal digits in lower case.
abbrev pub part_text : Part → List ℕ
part_text (Text bytes) = bytes.now
part_text (Number number) = decimal number
part_text (OrDash number) = number_or_dash number
part_text (Hex bytes) = encode_lower bytes.now

-- The bytes of all parts, one after another.
abbrev pub parts_text : List Part → List ℕ
parts_text parts = flat_map part_text parts
