-- The lines of words that are refused, and the status of each.
use Rattle.std.specs.Prelude.{ℕ, List, codes}
use Rattle.era_tools.specs.ToolLines.{memory_line, usage_line}
use Rattle.era_tools.specs.declared.status.Status.{Status}
use Rattle.era_tools.specs.declared.status.Status.TheVariants.{Usage, Memory}
use Rattle.era_top.specs.declared.refusal.WordsRefusal.{WordsRefusal}
use Rattle.era_top.specs.declared.refusal.WordsRefusal.TheVariants.{NoCommand, NotYet, NoRoom}

-- The words are a command that isn't served yet.
abbrev pub not_yet_line : List ℕ
not_yet_line = codes "refused NotYet\n"

-- The line of words that are refused.
abbrev pub words_text : WordsRefusal → List ℕ
words_text NoCommand = usage_line
words_text NotYet = not_yet_line
words_text NoRoom = memory_line

-- The status of a call whose words are refused.
abbrev pub words_status : WordsRefusal → Status
words_status NoCommand = Usage
words_status NotYet = Usage
words_status NoRoom = Memory
