-- What a reader makes of the lines of a dump text: what it takes, and why it doesn't take a line.
use Rattle.std.specs.Prelude.{◌≡◌, ℕ, List, None, [], Result, Ok, Err}
use Rattle.era_text.specs.FirstLine.{Head, Refuses, Step, Tells, with_set_ended}
use Rattle.era_text.specs.Numbers.{number_of}
use Rattle.era_text.specs.declared.dump_head.DumpHead.{DumpHead}
use Rattle.era_text.specs.declared.dump_kind.DumpKind.TheVariants.{BadNumber}
use Rattle.era_text.specs.declared.line_fault.LineFault.{LineFault}
use Rattle.era_text.specs.declared.line_fault.LineFault.TheVariants.{NoMemory, Refused}
use Rattle.era_text.specs.declared.reading.Reading.{Reading}

-- The numbers of a first line.
abbrev pub head_of : DumpHead → Head
head_of head = record { sectors = head.geometry.sectors; block_sectors = head.geometry.block_sectors; era = head.era }

-- A line is refused for the kind that a step says, or memory was refused, whatever the line.
abbrev pub Faults : {A : Type 0} → Step A → LineFault → Type 0
Faults step (Refused kind) = step ≡ Refuses kind
Faults step NoMemory = Unit {0}

-- What a step tells was taken, or the line is refused as the step says.
abbrev pub Takes : {A T : Type 0} → Step A → A → Result T LineFault → Type 0
Takes step now (Ok value) = step ≡ Tells now
Takes step now (Err fault) = Faults step fault

-- A word is no number below a limit, which is why its line is refused.
pub record IsNoNumber (limit : ℕ) (word : List ℕ) (fault : LineFault) : Type 0 where
  pub none : number_of limit word ≡ None
  pub refused : fault ≡ Refused BadNumber

-- The set that is being read as the last archived one, without blocks of another.
abbrev pub with_set_put_away : Reading → Reading
with_set_put_away reading = record (with_set_ended reading) { blocks = [] }

-- What a step tells of the first line was taken, or the line is refused as the step says.
abbrev pub TakesHead : Step Head → Result DumpHead LineFault → Type 0
TakesHead step (Ok head) = step ≡ Tells (head_of head)
TakesHead step (Err fault) = Faults step fault
