use Rattle.std.proofs.Common.{◌≡◌, ℕ, List, [], ◌+◌, ◌-◌, ◌≤◌, length, vec_len}
use Rattle.era_line.specs.Reading.{IsAhead, IsEnough, LeavesRest}
use Rattle.era_line.proofs.Inside.{IsInside}
use Rattle.era_line.proofs.reader.LineReader.next.Given as goal

abbrev pub invariant-loop-self : goal.invariant-loop-self
invariant-loop-self g l = record {
  inside : (text : List ℕ) → IsAhead l.initial.self (g.S.Source.left l.initial.source) text
      → IsInside text l.line.items l.self (g.S.Source.left l.source);
  leaves : LeavesRest (g.S.Source.left l.initial.source) (g.S.Source.left l.source);
  short : vec_len l.line ≤ l.most;
  asked : IsEnough l.most l.initial.self → (l.source ≡ l.initial.source) × (l.self ≡ l.initial.self) × (l.line.items ≡ []);
  kept : g.S.Source.faults l.source ≡ g.S.Source.faults l.initial.source;
}

abbrev pub decreases-loop-self : goal.decreases-loop-self
decreases-loop-self g l = l.most + 1 - (vec_len l.line + length l.self)
