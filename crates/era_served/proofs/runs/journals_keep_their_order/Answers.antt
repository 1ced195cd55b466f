use Rattle.std.proofs.Common.{List, ◌∷◌, sym, subst, []}
use Rattle.era_model.specs.Journal.{AreNumberedFrom, history_after}
use Rattle.era_model.specs.SessionRun.{AreAllDrawnBy, KeepsLanes}
use Rattle.era_model.specs.declared.command.Command.{Command}
use Rattle.era_model.specs.declared.entry.Entry.{Entry}
use Rattle.era_model.specs.declared.history.Happening.TheVariants.{Opened}
use Rattle.era_served.specs.Served.{commands_of, entries_of, history_of, joined}
use Rattle.era_served.proofs.runs.Histories.{drawn-after}
use Rattle.era_served.proofs.runs.Order.{IsTold, all-own, each-drawn, each-of, in-rounds, keeps-lanes, keeps-rounds}
use Rattle.era_served.proofs.runs.journals_keep_their_order.Goals as goal

pub returns-clause-drawn : goal.returns-clause-drawn
returns-clause-drawn g c = λ journal lane rounds first last places acts run.
    let served = joined rounds in
    let are = c.journals_are_the_trails.ensures journal lane served first last places acts run in
    let own = all-own g.D.Disk c.served_commands_leave_their_trail.ensures served first last run.all in
    subst (λ (commands : List Command). AreAllDrawnBy commands (history_of journal)) (sym (in-rounds rounds))
    (subst (λ (entries : List Entry). AreAllDrawnBy (commands_of served) (history_after (Opened journal.opening ∷ []) entries)) (sym are)
    (drawn-after (commands_of served) (Opened journal.opening ∷ []) (entries_of served) tt (each-drawn served own)))

pub returns-clause-lanes : goal.returns-clause-lanes
returns-clause-lanes g c = λ journal lane rounds first last places acts run.
    let served = joined rounds in
    let are = c.journals_are_the_trails.ensures journal lane served first last places acts run in
    let numbered = subst (AreNumberedFrom 0) are (c.ended_sessions_have_legal_journals.ensures journal last places acts run.ended).numbered in
    let tolds = each-of (IsTold (history_of journal)) served (λ one at. (c.commands_have_their_trails.ensures journal lane served first last places acts one run at).0) in
    subst (λ (commands : List Command). KeepsLanes (history_of journal) commands) (sym (in-rounds rounds)) (keeps-lanes (history_of journal) 0 served numbered tolds)

pub returns-clause-borders : goal.returns-clause-borders
returns-clause-borders g c = λ journal lane rounds first last places acts run.
    let served = joined rounds in
    let are = c.journals_are_the_trails.ensures journal lane served first last places acts run in
    let numbered = subst (AreNumberedFrom 0) are (c.ended_sessions_have_legal_journals.ensures journal last places acts run.ended).numbered in
    let tolds = each-of (IsTold (history_of journal)) served (λ one at. (c.commands_have_their_trails.ensures journal lane served first last places acts one run at).0) in
    keeps-rounds (history_of journal) 0 rounds numbered tolds
