use Rattle.std.proofs.lemmas.List.Elements.{All-contains}
use Rattle.era_served.specs.Served.{history_of}
use Rattle.era_served.proofs.ServedJournals.{command-events}
use Rattle.era_served.proofs.ServedPasses.{FixesAnswer, all-answer}
use Rattle.era_served.proofs.TrailEvents.{HasEvents, each-all}
use Rattle.era_served.proofs.laws.commands_have_their_trails.Goals as goal

pub returns : goal.returns
returns g c = λ journal lane served first last places acts one run there.
    let leave = c.served_commands_leave_their_trail.ensures in
    let numbered = (c.ended_sessions_have_legal_journals.ensures journal last places acts run.ended).numbered in
    let are = c.journals_are_the_trails.ensures journal lane served first last places acts run in (
      All-contains (HasEvents (history_of journal)) served one (command-events g.D.Disk leave journal lane served first last places acts run numbered are) there,
      All-contains FixesAnswer served one (each-all FixesAnswer served (all-answer g.D.Disk leave served first last run.all)) there,
    )
