-- What the reader's own steps do with what was taken of a source.
use Rattle.std.specs.Prelude.{◌≡◌, ◌≢◌, ℕ, ◌+◌, ◌<◌, List, [], ◌++◌, length, Option}
use Rattle.era_line.specs.Lines.{HasNo}
use Rattle.era_line.specs.Cuts.{IsCut}
use Rattle.era_line.specs.Reading.{IsAhead}
use Rattle.era_line.specs.declared.next.Next.{Next}
use Rattle.era_line.specs.declared.next.Next.TheVariants.{Line, Long, End}
use Rattle.era_line.specs.declared.moved.Moved.{Moved}
use Rattle.era_line.specs.declared.moved.Moved.TheVariants.{Ended, TooLong, All as AllOfIt}

-- The rest of a line, up to its LF, stands behind what there was of it.
pub record EndsLine (line taken line' taken' : List ℕ) : Type 0 where
  pub part : List ℕ
  pub cut : IsCut 10 taken part taken'
  pub joined : line' ≡ line ++ part

-- A line has more bytes than it may have: a front of what was taken, without an LF, is too much for it.
pub record ExceedsLine (most : ℕ) (line taken : List ℕ) : Type 0 where
  pub part : List ℕ
  pub rest : List ℕ
  pub joined : taken ≡ part ++ rest
  pub inside : HasNo 10 part
  pub long : most < length line + length part

-- All that was taken belongs to the line, and nothing of it is held any more.
pub record TakesAll (line taken line' taken' : List ℕ) : Type 0 where
  pub inside : HasNo 10 taken
  pub joined : line' ≡ line ++ taken
  pub empty : taken' ≡ []

-- What a step did with a line and with what was taken: it ended the line, found it too long, or took all of it.
abbrev pub Moves : ℕ → List ℕ → List ℕ → List ℕ → List ℕ → Moved → Type 0
Moves most line taken line' taken' Ended = EndsLine line taken line' taken'
Moves most line taken line' taken' TooLong = ExceedsLine most line taken
Moves most line taken line' taken' AllOfIt = TakesAll line taken line' taken'

-- What a take makes of a text that a source had left: it is ahead, and it was none where nothing is held.
pub record Fills (text taken : List ℕ) (left : Option (List ℕ)) : Type 0 where
  pub ahead : IsAhead taken left text
  pub none : taken ≡ [] → text ≡ []

-- A text ends with a line without an LF, or with nothing behind the last LF.
abbrev pub IsLast : List ℕ → Next → Type 0
IsLast line Line = line ≢ []
IsLast line Long = ⊥
IsLast line End = line ≡ []
