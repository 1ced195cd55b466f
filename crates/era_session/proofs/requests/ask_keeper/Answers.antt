use Rattle.std.proofs.Common.{sym, subst}
use Rattle.era_gate.specs.Passes.{no_write}
use Rattle.era_session.specs.Chunks.{ChunkDrew}
use Rattle.era_session.specs.Requests.{request_events}
use Rattle.era_session.proofs.Asked.{digest-drew, list-drew, snap-drew, status-drew, unsnap-drew}
use Rattle.era_session.proofs.requests.ask_keeper.Goals as goal

pub returns-in-TakeSnap-clause-drew : goal.returns-in-TakeSnap-clause-drew
returns-in-TakeSnap-clause-drew g c =
    subst (λ request. ChunkDrew (request_events c.args.id request c.snap.result) no_write c.args.pass.now c.snap.new.pass c.args.keeper.now.entries c.snap.new.self.entries) (sym c.in-TakeSnap.is)
    (snap-drew g.D.Disk c.args.id c.snap.result c.args.keeper.now c.snap.new.self c.args.pass.now c.snap.new.pass c.snap.ensures.did)

pub returns-in-DropSnap-clause-drew : goal.returns-in-DropSnap-clause-drew
returns-in-DropSnap-clause-drew g c =
    subst (λ request. ChunkDrew (request_events c.args.id request c.unsnap.result) no_write c.args.pass.now c.unsnap.new.pass c.args.keeper.now.entries c.unsnap.new.self.entries) (sym c.in-DropSnap.is)
    (unsnap-drew g.D.Disk c.args.id c.unsnap.result c.args.keeper.now c.unsnap.new.self c.args.pass.now c.unsnap.new.pass c.unsnap.ensures.did)

pub returns-in-Digest-clause-drew : goal.returns-in-Digest-clause-drew
returns-in-Digest-clause-drew g c =
    subst (λ request. ChunkDrew (request_events c.args.id request c.digest.result) no_write c.args.pass.now c.digest.new.pass c.args.keeper.now.entries c.digest.new.self.entries) (sym c.in-Digest.is)
    (digest-drew g.D.Disk c.args.id c.digest.result c.args.keeper.now c.digest.new.self c.args.pass.now c.digest.new.pass c.digest.ensures.did)

pub returns-in-Status-clause-drew : goal.returns-in-Status-clause-drew
returns-in-Status-clause-drew g c =
    subst (λ request. ChunkDrew (request_events c.args.id request c.status.result) no_write c.args.pass.now c.status.new.pass c.args.keeper.now.entries c.status.new.self.entries) (sym c.in-Status.is)
    (status-drew g.D.Disk c.args.id c.status.result c.args.keeper.now c.status.new.self c.args.pass.now c.status.new.pass c.status.ensures.did)

pub returns-in-List-clause-drew : goal.returns-in-List-clause-drew
returns-in-List-clause-drew g c =
    subst (λ request. ChunkDrew (request_events c.args.id request c.list.result) no_write c.args.pass.now c.list.new.pass c.args.keeper.now.entries c.list.new.self.entries) (sym c.in-List.is)
    (list-drew g.D.Disk c.args.id c.in-List.since c.in-List.snap c.list.result c.args.keeper.now c.list.new.self c.args.pass.now c.list.new.pass c.list.ensures.did)
