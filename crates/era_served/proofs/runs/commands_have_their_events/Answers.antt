use Rattle.std.proofs.Common.{List, ◌∷◌, sym, subst, []}
use Rattle.era_model.specs.Journal.{history_after}
use Rattle.era_model.specs.Legal.{IsLegal}
use Rattle.era_model.specs.SessionRun.{HaveTheirEvents}
use Rattle.era_model.specs.declared.command.Command.{Command}
use Rattle.era_model.specs.declared.entry.Entry.{Entry}
use Rattle.era_model.specs.declared.history.Happening.TheVariants.{Opened}
use Rattle.era_served.specs.Served.{history_of, joined}
use Rattle.era_served.proofs.runs.Chain.{all-lawful, have-events, knows-none}
use Rattle.era_served.proofs.runs.Histories.{legal-history}
use Rattle.era_served.proofs.runs.Order.{IsTold, each-of, in-rounds}
use Rattle.era_served.proofs.runs.commands_have_their_events.Goals as goal

pub returns : goal.returns
returns g c = λ journal lane rounds first last places acts run.
    let served = joined rounds in
    let h = history_of journal in
    let are = c.journals_are_the_trails.ensures journal lane served first last places acts run in
    let legal = legal-history journal (c.ended_sessions_have_legal_journals.ensures journal last places acts run.ended) in
    let tolds = each-of (IsTold h) served (λ one at. (c.commands_have_their_trails.ensures journal lane served first last places acts one run at).0) in
    let lawful = all-lawful (Opened journal.opening ∷ []) served (subst (λ (entries : List Entry). IsLegal (history_after (Opened journal.opening ∷ []) entries)) are legal) in
    subst (λ (commands : List Command). HaveTheirEvents h commands) (sym (in-rounds rounds))
    (have-events g.D.Disk journal served first last run.all run.stands (knows-none h first run.uncut) tolds lawful)
