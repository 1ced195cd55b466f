use Rattle.std.proofs.lemmas.List.Elements.{All-contains_itself}
use Rattle.std.proofs.Common.{slice_index_or}
use Rattle.era_served.specs.Served.{history_of, joined}
use Rattle.era_served.proofs.TrailEvents.{rounds-of}
use Rattle.era_served.proofs.laws.replies_are_the_journals.Goals as goal

pub returns : goal.returns
returns g c = λ journal lane rounds first last places acts run.
    rounds-of (history_of journal) rounds
    (λ k d below. (c.commands_have_their_trails.ensures journal lane (joined rounds) first last places acts (slice_index_or (joined rounds) k d) run (All-contains_itself (joined rounds) k d below)).0)
