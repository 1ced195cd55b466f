-- What a reader of lines gives of the text that is still to be read.
use Rattle.std.specs.Prelude.{◌≡◌, ℕ, ◌<◌, ◌≤◌, List, [], ◌∷◌, ◌++◌, length, Option, Some, Result, Ok, Err, ◌⊎◌}
use Rattle.era_base.specs.Faults.{Rose}
use Rattle.era_line.specs.Lines.{HasNo, lines_of}
use Rattle.era_line.specs.Cuts.{IsCut}
use Rattle.era_line.specs.declared.next.Next.{Next}
use Rattle.era_line.specs.declared.next.Next.TheVariants.{Line, Long, End}
use Rattle.era_line.specs.declared.next.ReadError.{ReadError}
use Rattle.era_line.specs.declared.next.ReadError.TheVariants.{Source, Memory}

-- A text is what is still to be read: what was taken of a source, and what the source has left.
pub record IsAhead (taken : List ℕ) (left : Option (List ℕ)) (text : List ℕ) : Type 0 where
  pub rest : List ℕ
  pub told : left ≡ Some rest
  pub joined : taken ++ rest ≡ text

-- What a source has left is a rest of these bytes.
pub record IsRest (bytes : List ℕ) (left : Option (List ℕ)) : Type 0 where
  pub front : List ℕ
  pub rest : List ℕ
  pub told : left ≡ Some rest
  pub joined : front ++ rest ≡ bytes

-- What a source has left is a rest of what it had left before.
abbrev pub LeavesRest : Option (List ℕ) → Option (List ℕ) → Type 0
LeavesRest before after = (bytes : List ℕ) → before ≡ Some bytes → IsRest bytes after

-- A line was read of a text: it is the first of its lines, and the others are still to be read.
pub record ReadsLine (text line taken : List ℕ) (left : Option (List ℕ)) : Type 0 where
  pub rest : List ℕ
  pub ahead : IsAhead taken left rest
  pub first : lines_of text ≡ line ∷ lines_of rest

-- The first line of a text has more bytes than this.
pub record BeginsLong (most : ℕ) (text : List ℕ) : Type 0 where
  pub line : List ℕ
  pub after : List (List ℕ)
  pub first : lines_of text ≡ line ∷ after
  pub long : most < length line

-- What a reader gives of a text: its first line; or that this one has more bytes than it may have; or that the text has ended.
abbrev pub Gives : ℕ → List ℕ → List ℕ → List ℕ → Option (List ℕ) → Next → Type 0
Gives most text line taken left Line = ReadsLine text line taken left
Gives most text line taken left Long = BeginsLong most text
Gives most text line taken left End = (text ≡ []) × IsAhead taken left []

-- A source failed inside the first line of a text, behind a front of it that may be a whole line, with the rest left.
pub record EndsInside (most : ℕ) (text : List ℕ) (left : Option (List ℕ)) : Type 0 where
  pub front : List ℕ
  pub rest : List ℕ
  pub told : left ≡ Some rest
  pub joined : front ++ rest ≡ text
  pub inside : HasNo 10 front
  pub short : length front ≤ most

-- What an error says of a text: a source that failed did so inside the first line that could not be read.
abbrev pub FailsInside : ℕ → List ℕ → Option (List ℕ) → ReadError → Type 0
FailsInside most text left (Source count) = EndsInside most text left
FailsInside most text left Memory = Unit {0}

-- What was taken tells the next line: it has a whole line, or more bytes than a line may have.
abbrev pub IsEnough : ℕ → List ℕ → Type 0
IsEnough most taken = ((line : List ℕ) × (rest : List ℕ) × IsCut 10 taken line rest) ⊎ (most < length taken)

-- What an error says of the source's count of failures: it rose where the source failed, and is as it was otherwise.
abbrev pub HasErrorCause : ℕ → ℕ → ReadError → Type 0
HasErrorCause before now (Source count) = (count ≡ now) × Rose before now
HasErrorCause before now Memory = now ≡ before

-- The source's count of failures rose exactly where the answer says so, and the answer tells it.
abbrev pub HasReadCause : {T : Type 0} → ℕ → ℕ → Result T ReadError → Type 0
HasReadCause before now (Ok value) = now ≡ before
HasReadCause before now (Err error) = HasErrorCause before now error
