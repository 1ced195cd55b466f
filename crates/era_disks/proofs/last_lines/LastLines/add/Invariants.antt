use Rattle.std.proofs.Common.{take}
use Rattle.era_disks.specs.LastLines.{TextEnd, KeepsEnd, end_after}
use Rattle.era_disks.proofs.last_lines.LastLines.add.Given as goal

-- the end of the text so far is kept
abbrev pub invariant-loop-byte : goal.invariant-loop-byte
invariant-loop-byte l =
    (end : TextEnd) → KeepsEnd end l.initial.self → KeepsEnd (end_after end (take l.byte-index l.text)) l.self
