use Rattle.std.proofs.Common.{sym, ◌∙◌}
use Rattle.std.proofs.lemmas.Bool.{false≢true}
use Rattle.era_slots.proofs.Reading.{rest-of}
use Rattle.era_slots.proofs.opening.bodies_of.Goals as goal

-- the other gate is closed
pub returns-then-not-gate_is_open : goal.returns-then-not-gate_is_open
returns-then-not-gate_is_open c = record {
  body = c.in_ok-body.ensures ∙ rest-of c.args.active.now;
  beside_open = λ opened. false≢true (sym c.if-not-gate_is_open.true ∙ c.gate_is_open.ensures.1 opened);
}

-- the other gate is open
pub returns : goal.returns
returns c = record {
  body = c.in_ok-body.ensures ∙ rest-of c.args.active.now;
  beside_open = (c.gate_is_open.ensures.0 c.if-not-gate_is_open.false, c.in_ok-other.ensures ∙ rest-of c.args.beside.now);
}
