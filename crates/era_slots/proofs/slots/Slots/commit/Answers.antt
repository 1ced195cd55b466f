use Rattle.std.proofs.Common.{refl, sym, ◌∙◌, arith, rules}
use Rattle.std.proofs.lemmas.Bool.{false≢true}
use Rattle.era_base.proofs.Moments.{went-now}
use Rattle.era_slots.proofs.Commits.{on_err, commits-staged, went-body, went-gate, sealed-now, stands-stored, stored-now}
use Rattle.era_slots.proofs.slots.Slots.commit.Goals as goal

-- the body isn't on the disk
pub returns-in_err-write_body-clause-moments : goal.returns-in_err-write_body-clause-moments
returns-in_err-write_body-clause-moments g c = λ told.
    went-body c.args.self.now.target c.args.self.now.number c.args.body.now (g.D.Disk.history c.args.self.now.disk) (g.D.Disk.history c.write_body.new.disk)
    (rw c.requires.commit.begun at (c.requires.stands told)) (c.write_body.ensures.moments told)

pub returns-in_err-write_body-clause-stands : goal.returns-in_err-write_body-clause-stands
returns-in_err-write_body-clause-stands g c = λ told.
    rw c.requires.commit.begun
    (commits-staged c.args.self.now.target c.args.self.now.number c.args.body.now (g.D.Disk.history c.args.self.now.disk).now (g.D.Disk.history c.write_body.new.disk).now
    (rw c.requires.commit.begun at (c.requires.stands told)) (went-now _ _ _ (c.write_body.ensures.moments told))).stands

pub returns-in_err-write_body-clause-failed : goal.returns-in_err-write_body-clause-failed
returns-in_err-write_body-clause-failed g c =
    on_err c.from_residual.result (record {
      failed = λ told. record {
        staged = λ flag. commits-staged c.args.self.now.target c.args.self.now.number c.args.body.now (g.D.Disk.history c.args.self.now.disk).now
            (g.D.Disk.history c.write_body.new.disk).now (rw c.requires.commit.begun at (c.requires.stands told)) (went-now _ _ _ (c.write_body.ensures.moments told));
        sealed = λ flag. absurd (false≢true (sym c.requires.commit.begun ∙ flag));
      };
      next = record { target = refl; number = refl };
    })

-- the gate isn't open, or not for sure
pub returns-in_err-open_gate-clause-moments : goal.returns-in_err-open_gate-clause-moments
returns-in_err-open_gate-clause-moments g c = λ told.
    let put = c.in_ok-write_body.ensures.written told in
    went-gate c.args.self.now.target c.args.self.now.number c.args.body.now (g.D.Disk.history c.args.self.now.disk) (g.D.Disk.history c.write_body.new.disk)
    (g.D.Disk.history c.open_gate.new.disk) c.requires.commit.below
    (rw c.requires.commit.begun at (c.requires.stands told)) (c.write_body.ensures.moments told)
    put (c.open_gate.ensures.moments told)

pub returns-in_err-open_gate-clause-stands : goal.returns-in_err-open_gate-clause-stands
returns-in_err-open_gate-clause-stands g c = λ told.
    let put = c.in_ok-write_body.ensures.written told in
    (sealed-now c.args.self.now.target c.args.self.now.number c.args.body.now (g.D.Disk.history c.args.self.now.disk) (g.D.Disk.history c.write_body.new.disk)
    (g.D.Disk.history c.open_gate.new.disk) c.requires.commit.below
    (rw c.requires.commit.begun at (c.requires.stands told)) (c.write_body.ensures.moments told)
    put (c.open_gate.ensures.moments told)).stands

pub returns-in_err-open_gate-clause-failed : goal.returns-in_err-open_gate-clause-failed
returns-in_err-open_gate-clause-failed g c =
    on_err c.from_residual-in_err-open_gate.result (record {
      failed = λ told. record {
        staged = λ flag. absurd (false≢true (sym flag));
        sealed = λ flag. sealed-now c.args.self.now.target c.args.self.now.number c.args.body.now (g.D.Disk.history c.args.self.now.disk)
            (g.D.Disk.history c.write_body.new.disk) (g.D.Disk.history c.open_gate.new.disk) c.requires.commit.below
            (rw c.requires.commit.begun at (c.requires.stands told)) (c.write_body.ensures.moments told)
            (c.in_ok-write_body.ensures.written told) (c.open_gate.ensures.moments told);
      };
      next = record { target = refl; number = refl };
    })

-- the body is committed
pub returns-clause-moments : goal.returns-clause-moments
returns-clause-moments g c = λ told.
    let put = c.in_ok-write_body.ensures.written told in
    went-gate c.args.self.now.target c.args.self.now.number c.args.body.now (g.D.Disk.history c.args.self.now.disk) (g.D.Disk.history c.write_body.new.disk)
    (g.D.Disk.history c.open_gate.new.disk) c.requires.commit.below
    (rw c.requires.commit.begun at (c.requires.stands told)) (c.write_body.ensures.moments told)
    put (c.open_gate.ensures.moments told)

pub returns-clause-stands : goal.returns-clause-stands
returns-clause-stands g c = λ told.
    let put = c.in_ok-write_body.ensures.written told in
    stands-stored c.args.self.now.target c.args.self.now.number c.args.body.now (g.D.Disk.history c.args.self.now.disk).now (g.D.Disk.history c.open_gate.new.disk).now
    c.requires.commit.below
    (sealed-now c.args.self.now.target c.args.self.now.number c.args.body.now (g.D.Disk.history c.args.self.now.disk) (g.D.Disk.history c.write_body.new.disk)
    (g.D.Disk.history c.open_gate.new.disk) c.requires.commit.below
    (rw c.requires.commit.begun at (c.requires.stands told)) (c.write_body.ensures.moments told)
    put (c.open_gate.ensures.moments told))
    (c.in_ok-open_gate.ensures.written told)

pub returns-clause-stored : goal.returns-clause-stored
returns-clause-stored g c = record {
  stored = λ told.
      let put = c.in_ok-write_body.ensures.written told in
      stored-now c.args.self.now.target c.args.self.now.number c.args.body.now (g.D.Disk.history c.args.self.now.disk).now (g.D.Disk.history c.open_gate.new.disk).now
      c.requires.commit.below
      (sealed-now c.args.self.now.target c.args.self.now.number c.args.body.now (g.D.Disk.history c.args.self.now.disk) (g.D.Disk.history c.write_body.new.disk)
      (g.D.Disk.history c.open_gate.new.disk) c.requires.commit.below
      (rw c.requires.commit.begun at (c.requires.stands told)) (c.write_body.ensures.moments told) put (c.open_gate.ensures.moments told))
      (c.in_ok-open_gate.ensures.written told);
  target = search rules;
  number = search rules;
  may_be_open = search rules;
  calls = λ told. omega (arith, c.in_ok-write_body.ensures.calls told, c.in_ok-open_gate.ensures.calls told);
}
