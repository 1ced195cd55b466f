use Rattle.std.proofs.Common.{[], refl, arith}
use Rattle.era_served.specs.Served.{HasServed, Served}
use Rattle.era_session.specs.Trails.{session_trail}
use Rattle.era_serve.specs.Replying.{told_at}
use Rattle.era_serve.proofs.MayServe.{may-begin, may-once}
use Rattle.era_serve.proofs.ServedSteps.{replied-one}
use Rattle.era_serve.proofs.round.serve_command.Goals as goal

pub serve-answer-requires-clause-may : goal.serve-answer-requires-clause-may
serve-answer-requires-clause-may g c = may-begin g.D.Disk c.args.session.now c.args.command.now [] c.requires.may

pub serve-answer-requires-clause-once : goal.serve-answer-requires-clause-once
serve-answer-requires-clause-once g c = may-once g.D.Disk c.args.session.now c.args.command.now [] c.requires.may

pub serve-answer-requires-clause-task : goal.serve-answer-requires-clause-task
serve-answer-requires-clause-task g c = c.requires.may.tasks 0 c.args.command.now (omega arith)

-- the trail is short
pub give_unless_lost-requires : goal.give_unless_lost-requires
give_unless_lost-requires g c =
    let trail = c.served_commands_leave_their_trail.ensures c.args.command.now.id c.args.command.now.task c.serve-answer.result c.args.session.now c.serve-answer.new.self
    c.requires.may.fits c.serve-answer.ensures.did in
    record {
      fits = c.serve-answer.ensures.fits;
      none = c.requires.memory.none;
      room = omega (arith, trail.few, c.requires.memory.trail);
    }

-- the command was served, and its reply given
pub returns : goal.returns
returns g c =
    let done = c.serve-answer.ensures in
    let one : Served = record { command = c.args.command.now; answer = c.serve-answer.result; trail = session_trail c.serve-answer.new.self c.args.command.now.task } in
    let has : HasServed g.D.Disk one c.args.session.now c.serve-answer.new.self = record {
      fits = c.requires.may.fits;
      fits' = done.fits;
      stands = done.stands;
      once = may-once g.D.Disk c.args.session.now c.args.command.now [] c.requires.may;
      did = done.did;
      trail = refl;
      same = done.same.0;
      draws = done.same.1;
    } in
    replied-one g.D.Disk one c.args.session.now c.serve-answer.new.self (told_at g.K.Sink c.args.replies.now c.args.sink.now) (told_at g.K.Sink c.note.new.self c.args.sink.now)
    (told_at g.K.Sink c.give_unless_lost.new.replies c.give_unless_lost.new.sink) has refl refl c.note.ensures c.give_unless_lost.ensures
