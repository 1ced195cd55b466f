-- What a writing of a dump gives, and why it fails.
use Rattle.std.specs.Prelude.{◌≡◌, ℕ, List, ◌++◌, Option, Some, Result, Ok, Err, MatchResult}
use Rattle.era_base.specs.Faults.{Rose}
use Rattle.era_base.specs.Streams.{GivesFront}
use Rattle.era_model.specs.Marks.{BlockMarks}
use Rattle.era_text.specs.Dumps.{IsDumpOf}
use Rattle.era_text.specs.declared.text_end.TextEnd.{TextEnd}
use Rattle.era_text.specs.declared.text_end.TextEnd.TheVariants.{Line, Source, Sink, Memory}

-- The text of a dump was given behind what was given before.
pub record GivesWhole (m : BlockMarks) (before : List ℕ) (given' : Option (List ℕ)) : Type 0 where
  pub text : List ℕ
  pub dump : IsDumpOf m text
  pub given : given' ≡ Some (before ++ text)

-- A front of the text of a dump was given.
pub record GivesPart (m : BlockMarks) (before : List ℕ) (given' : Option (List ℕ)) : Type 0 where
  pub text : List ℕ
  pub dump : IsDumpOf m text
  pub front : GivesFront before text given'

-- What an error says of what was given behind what was given before: where the sink failed a front of the dump was, and where memory was refused nothing was.
abbrev pub GivesLess : BlockMarks → List ℕ → Option (List ℕ) → TextEnd → Type 0
GivesLess m before given' (Line line kind) = ⊥
GivesLess m before given' (Source count) = ⊥
GivesLess m before given' (Sink count) = GivesPart m before given'
GivesLess m before given' Memory = given' ≡ Some before

-- The dump of marks was given behind what was given before, or less of it.
abbrev pub GivesDump : {T : Type 0} → BlockMarks → Option (List ℕ) → Option (List ℕ) → Result T TextEnd → Type 0
GivesDump m given given' result = (before : List ℕ) → given ≡ Some before
    → MatchResult result (λ _. GivesWhole m before given') (GivesLess m before given')

-- What an error says of the sink's count of failures: it rose where the sink failed, which the answer tells, and is as it was where memory was refused.
abbrev pub HasEndCause : ℕ → ℕ → TextEnd → Type 0
HasEndCause before now (Line line kind) = ⊥
HasEndCause before now (Source count) = ⊥
HasEndCause before now (Sink count) = (count ≡ now) × Rose before now
HasEndCause before now Memory = now ≡ before

-- The sink's count of failures rose exactly where the answer says so.
abbrev pub HasWriteCause : {T : Type 0} → ℕ → ℕ → Result T TextEnd → Type 0
HasWriteCause before now (Ok value) = now ≡ before
HasWriteCause before now (Err error) = HasEndCause before now error
