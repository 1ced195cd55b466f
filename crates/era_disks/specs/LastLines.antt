-- The last lines of a text, and what is kept of them.
use Rattle.std.specs.Prelude.{◌≡◌, ◌==◌, ℕ, ◌<◌, true, false, List, [], ◌∷◌, ◌++◌, length, take, if◌then◌else◌}
use Rattle.era_disks.specs.declared.last_lines.KeptLine.{KeptLine}
use Rattle.era_disks.specs.declared.last_lines.LastLines.{LastLines}

-- The end of a text: the line that isn't ended yet, the last one that is, and the one before that; where there is none, it is empty.
pub record TextEnd : Type 0 where
  pub begun : List ℕ
  pub last : List ℕ
  pub before : List ℕ

-- The end of an empty text.
abbrev pub no_text : TextEnd
no_text = record { begun = []; last = []; before = [] }

-- The end of a text that goes on by one byte.
abbrev pub end_after_byte : TextEnd → ℕ → TextEnd
end_after_byte end byte =
    if byte == 10
    then record { begun = []; last = end.begun; before = end.last }
    else record { begun = end.begun ++ byte ∷ []; last = end.last; before = end.before }

-- The end of a text that goes on.
abbrev pub end_after : TextEnd → List ℕ → TextEnd
end_after end [] = end
end_after end (byte ∷ text) = end_after (end_after_byte end byte) text

-- A line is kept whole, or is known to be longer than what is kept.
pub record IsKept (line : List ℕ) (kept : KeptLine) : Type 0 where
  pub whole : kept.cut ≡ false → take kept.count kept.bytes ≡ line
  pub longer : kept.cut ≡ true → 64 < length line

-- The three lines at the end of a text are kept.
pub record KeepsEnd (end : TextEnd) (lines : LastLines) : Type 0 where
  pub begun : IsKept end.begun lines.begun
  pub last : IsKept end.last lines.last
  pub before : IsKept end.before lines.before
