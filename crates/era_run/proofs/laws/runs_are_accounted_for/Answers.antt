use Rattle.era_run.proofs.Reported.{reports}
use Rattle.era_run.proofs.laws.runs_are_accounted_for.Goals as goal

pub returns : goal.returns
returns g c = reports g.D.Disk c.journals_are_runs.ensures c.commands_have_their_trails.ensures c.journals_end_as_their_sessions.ensures.era c.journals_end_as_their_sessions.ensures.places
    c.ended_sessions_have_legal_journals.ensures c.ended_sessions_devices_follow.ensures.follow c.ended_sessions_devices_follow.ensures.survive c.ended_sessions_metadata_is_durable.ensures
    c.sessions_keep_their_devices.ensures.stands
