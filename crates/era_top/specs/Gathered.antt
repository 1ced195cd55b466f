-- The end of a text that was gathered and is given in pieces.
use Rattle.std.specs.Prelude.{◌≡◌, ◌⊎◌, ℕ, List, ◌++◌, Option, Some}
use Rattle.era_base.specs.Streams.{GivesFront}
use Rattle.era_line.specs.declared.text_buffer.TextBuffer.{TextBuffer}
use Rattle.era_line.specs.TextBuffer.{Gathers}
use Rattle.era_tools.specs.declared.status.Status.{Status}
use Rattle.era_tools.specs.declared.status.Status.TheVariants.{Sink}

-- What was gathered of a text was given with these bytes behind it, and the run ends as it says; or the sink failed after a front of them.
abbrev pub PrintsBehind : Option (List ℕ) → TextBuffer → Option (List ℕ) → List ℕ → Status → Status → Type 0
PrintsBehind given buffer given' bytes ended result =
    ((result ≡ ended) × ((before text : List ℕ) → Gathers before text given buffer → given' ≡ Some (before ++ (text ++ bytes))))
    ⊎ ((result ≡ Sink) × ((before text : List ℕ) → Gathers before text given buffer → GivesFront before (text ++ bytes) given'))
