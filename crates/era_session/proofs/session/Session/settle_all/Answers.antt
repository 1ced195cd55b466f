use Rattle.std.proofs.Common.{◌≡◌, ℕ, ◌+◌, ◌<◌, ◌≤◌, List, length, refl, sym, ap, ◌∙◌, subst, arith}
use Rattle.era_session.specs.Checkpoints.{Settlings}
use Rattle.era_session.proofs.AtStripes.{session-itself, session-then}
use Rattle.era_session.proofs.Settled.{settlings-next, settlings-none}
use Rattle.era_session.proofs.session.Session.settle_all.Goals as goal

pub loop-index-init : goal.loop-index-init
loop-index-init g c = record {
  fits = c.requires.may.fits;
  stands = λ opening stands. stands;
  settled = settlings-none g.D.Disk c.args.by c.args.self.now;
  same = session-itself g.D.Disk c.args.self.now;
  rooms = omega (arith, c.requires.rooms);
}

pub loop-index-preserved : goal.loop-index-preserved
loop-index-preserved g c =
    let held = c.loop-index.invariant in
    record {
      fits = c.settle_at.ensures.fits;
      stands = λ opening stands. c.settle_at.ensures.stands opening (held.stands opening stands);
      settled = settlings-next g.D.Disk c.args.by c.loop-index.index c.settle_at.ensures.did.0 c.args.self.now c.loop-index.self c.settle_at.new.self held.settled c.settle_at.ensures.did.1;
      same = session-then g.D.Disk c.args.self.now c.loop-index.self c.settle_at.new.self held.same c.settle_at.ensures.same;
      rooms = omega (arith, held.rooms, c.in-Some.ensures.cases);
    }

pub returns-clause-did : goal.returns-clause-did
returns-clause-did g c =
    let end : c.loop-index.index ≡ length c.args.self.now.stripes.items = omega arith in
    subst (λ n. Settlings g.D.Disk c.args.by n c.args.self.now c.loop-index.self) end c.loop-index.invariant.settled
