-- The words of the kinds of refused lines.
use Rattle.std.specs.Prelude.{ℕ, List, codes}
use Rattle.era_plan.specs.declared.round.LineKind.{LineKind}
use Rattle.era_plan.specs.declared.round.LineKind.TheVariants.{LongLine, Unknown, BadNumber, BadHex, RoundBig, TooMany, NotYet}

-- The word of a kind.
abbrev pub kind_text : LineKind → List ℕ
kind_text LongLine = codes "LongLine"
kind_text Unknown = codes "Unknown"
kind_text BadNumber = codes "BadNumber"
kind_text BadHex = codes "BadHex"
kind_text RoundBig = codes "RoundBig"
kind_text TooMany = codes "TooMany"
kind_text NotYet = codes "NotYet"
