-- How a run ends, and what of its text was given.
use Rattle.std.specs.Prelude.{◌≡◌, ◌⊎◌, ℕ, List, ◌++◌, Option, Some}
use Rattle.era_base.specs.Faults.{Rose}
use Rattle.era_base.specs.Streams.{GivesFront}
use Rattle.era_tools.specs.declared.status.Status.{Status}
use Rattle.era_tools.specs.declared.status.Status.TheVariants.{Done, Damage, Usage, Line, Fault, Memory, Refused, Source, Sink}

-- The number of a status.
abbrev pub number_of : Status → ℕ
number_of Done = 0
number_of Damage = 1
number_of Usage = 2
number_of Line = 3
number_of Fault = 4
number_of Memory = 5
number_of Refused = 6
number_of Source = 7
number_of Sink = 8

-- A text was given, and the run ends as it says; or the sink failed after a front of it.
abbrev pub Prints : Option (List ℕ) → Option (List ℕ) → List ℕ → Status → Status → Type 0
Prints given given' text ended result =
    ((result ≡ ended) × ((before : List ℕ) → given ≡ Some before → given' ≡ Some (before ++ text)))
    ⊎ ((result ≡ Sink) × ((before : List ℕ) → given ≡ Some before → GivesFront before text given'))

-- A run ended by the sink's failure exactly where it failed: its count of faults rose, and is as it was where the run ended otherwise.
pub record HasSinkCause (before now : ℕ) (result : Status) : Type 0 where
  pub rose : result ≡ Sink → Rose before now
  pub kept : (result ≡ Sink → ⊥) → now ≡ before
