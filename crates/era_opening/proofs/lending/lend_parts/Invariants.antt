use Rattle.std.proofs.Common.{◌≡◌, length, vec_capacity}
use Rattle.era_base.specs.Bay.{KeepsSizes}
use Rattle.era_opening.specs.Lending.{HasLentParts}
use Rattle.era_tools.specs.Around.{bay_around}
use Rattle.era_opening.proofs.lending.lend_parts.Given as goal

-- the parts so far were lent
abbrev pub invariant-loop-stripe : goal.invariant-loop-stripe
invariant-loop-stripe g l = record {
  has : HasLentParts g.B.D.Disk (bay_around g.B.Bay l.initial.bay l.bay) l.line.origin l.geometry l.split.each l.parts.items;
  count : length l.parts.items ≡ l.stripe;
  room : vec_capacity l.parts ≡ vec_capacity l.initial.parts;
  sizes : KeepsSizes (g.B.Bay.sizes l.initial.bay) (g.B.Bay.sizes l.bay);
  faults : g.B.Bay.faults l.bay ≡ g.B.Bay.faults l.initial.bay;
}
