use Rattle.era_slots.specs.Promise.{Begins}
use Rattle.era_base.proofs.Moments.{went-none, went-wider, went-now}
use Rattle.era_slots.proofs.Stays.{begins-now, begins-none}
use Rattle.era_slots.proofs.Commits.{stands-begun}
use Rattle.era_slots.proofs.slots.Slots.begin.Goals as goal

-- no device call is made
pub returns-then-not-self-clause-moments : goal.returns-then-not-self-clause-moments
returns-then-not-self-clause-moments g c = λ told.
    went-none (Begins c.args.self.now.target c.args.self.now.number c.args.self.now.may_be_open) (g.D.Disk.history c.args.self.now.disk)
    (begins-none _ _ _ _ (c.requires.stands told))

-- the closing failed
pub returns-in_err-close_gate-clause-moments : goal.returns-in_err-close_gate-clause-moments
returns-in_err-close_gate-clause-moments g c = λ told.
    rw c.if-not-self.false
    (went-wider _ _ (g.D.Disk.history c.args.self.now.disk) (g.D.Disk.history c.close_gate.new.disk)
    (λ now s. begins-now c.args.self.now.target c.args.self.now.number _ now (rw c.if-not-self.false at (c.requires.stands told)) s)
    (c.close_gate.ensures.moments told))

pub returns-in_err-close_gate-clause-stands : goal.returns-in_err-close_gate-clause-stands
returns-in_err-close_gate-clause-stands g c = λ told.
    rw c.if-not-self.false
    (begins-now c.args.self.now.target c.args.self.now.number _ (g.D.Disk.history c.close_gate.new.disk).now
    (rw c.if-not-self.false at (c.requires.stands told)) (went-now _ _ _ (c.close_gate.ensures.moments told))).stands

-- the gate is closed
pub returns-clause-moments : goal.returns-clause-moments
returns-clause-moments g c = λ told.
    rw c.if-not-self.false
    (went-wider _ _ (g.D.Disk.history c.args.self.now.disk) (g.D.Disk.history c.close_gate.new.disk)
    (λ now s. begins-now c.args.self.now.target c.args.self.now.number _ now (rw c.if-not-self.false at (c.requires.stands told)) s)
    (c.close_gate.ensures.moments told))

pub returns-clause-stands : goal.returns-clause-stands
returns-clause-stands g c = λ told.
    stands-begun c.args.self.now.target c.args.self.now.number _
    (begins-now c.args.self.now.target c.args.self.now.number _ (g.D.Disk.history c.close_gate.new.disk).now
    (rw c.if-not-self.false at (c.requires.stands told)) (went-now _ _ _ (c.close_gate.ensures.moments told))).stands
    (c.in_ok-close_gate.ensures.written told)
