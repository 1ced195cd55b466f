use Rattle.std.proofs.Common.{◌≡◌, ◌+◌, length, vec_len}
use Rattle.era_model.specs.declared.opening.Opening.{Opening}
use Rattle.era_session.specs.Checkpoints.{Settlings}
use Rattle.era_session.specs.Sessions.{SameSession, SessionFits, SessionStands}
use Rattle.era_session.proofs.session.Session.settle_all.Given as goal

-- the stripes so far were settled or passed over, and each other one has its room
abbrev pub invariant-loop-index : goal.invariant-loop-index
invariant-loop-index g l = record {
  fits : SessionFits g.D.Disk l.self;
  stands : (opening : Opening) → SessionStands g.D.Disk opening l.initial.self → SessionStands g.D.Disk opening l.self;
  settled : Settlings g.D.Disk l.by l.index l.initial.self l.self;
  same : SameSession g.D.Disk l.initial.self l.self;
  rooms : vec_len l.rooms + l.index ≡ length l.initial.self.stripes.items;
}
