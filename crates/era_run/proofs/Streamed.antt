-- What stays of a session whose stream was served.
use Rattle.std.proofs.Common.{List, [], sym, subst, inl, inr}
use Rattle.era_base.specs.declared.disk.Disk.{Ghosts}
use Rattle.era_run.specs.Around.{StreamsAround}
use Rattle.era_run.specs.Steps.{ServesStream}
use Rattle.era_serve.specs.declared.stop.Stopped.{Stopped}
use Rattle.era_served.specs.Served.{HasServedAll, Served, joined}
use Rattle.era_session.specs.Sessions.{SessionFits}
use Rattle.era_session.specs.declared.session.Session.{Session}

-- it fits together
pub fits-after : {D : Type 0} (disk : Ghosts D) (old new : Session D) (streams : StreamsAround) (stopped : Stopped)
    → ServesStream disk old new streams stopped → SessionFits disk old → SessionFits disk new
fits-after disk old new streams stopped (inl served) fits = served.rounds.fits
fits-after disk old new streams stopped (inr lost) fits = subst (SessionFits disk) (sym lost.same) fits

-- it served some commands
pub all-served : {D : Type 0} (disk : Ghosts D) (old new : Session D) (streams : StreamsAround) (stopped : Stopped)
    → ServesStream disk old new streams stopped → (served : List Served) × HasServedAll disk served old new
all-served disk old new streams stopped (inl served) = (joined served.rounds.rounds, served.rounds.served)
all-served disk old new streams stopped (inr lost) = ([], lost.same)
