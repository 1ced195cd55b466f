-- Each command that a session served has events in the session's journal that it may have.
use Rattle.std.proofs.Common.{◌≡◌, List, ◌∷◌, refl, sym, ap, ◌∙◌, subst, []}
use Rattle.std.proofs.lemmas.Option.{none-some}
use Rattle.era_base.specs.declared.disk.Disk.{Ghosts}
use Rattle.era_gate.specs.Rule.{Each}
use Rattle.era_model.specs.Commands.{events_of}
use Rattle.era_model.specs.Journal.{history_after}
use Rattle.era_model.specs.Legal.{IsLegal}
use Rattle.era_model.specs.SessionRun.{AreEventsOf, AreTaskEvents, HaveTheirEvents, without_places}
use Rattle.era_model.specs.declared.entry.Entry.{Entry}
use Rattle.era_model.specs.declared.history.Happening.{Happening}
use Rattle.era_model.specs.declared.journal.Journal.{Journal}
use Rattle.era_served.proofs.runs.Cuts.{KnowsCuts}
use Rattle.era_served.proofs.runs.Histories.{history-both, legal-before, written-is}
use Rattle.era_served.proofs.runs.Order.{IsTold}
use Rattle.era_served.proofs.runs.Steps.{Known, is-over, task-step}
use Rattle.era_served.proofs.runs.Written.{after-entries, after_events}
use Rattle.era_served.specs.Served.{HasServed, HasServedAll, Served, commands_of, entries_of, history_of}
use Rattle.era_session.specs.Receipts.{events_in}
use Rattle.era_session.specs.Sessions.{IsUncut, SessionStands}
use Rattle.era_session.specs.Trails.{session_trail, with_places}
use Rattle.era_session.specs.declared.session.Session.{Session}

-- the events of a command's trail may happen one after the other, behind some history
abbrev IsLawful : Served → Type 0
IsLawful one = (before : List Happening) × IsLegal (after_events before (events_in one.trail))

pub all-lawful : (h : List Happening) (served : List Served) → IsLegal (history_after h (entries_of served)) → Each IsLawful served
all-lawful h [] legal = tt
all-lawful h (one ∷ more) legal =
    let both = subst IsLegal (history-both h one.trail (entries_of more)) legal in
    ((h, subst IsLegal (after-entries h one.trail) (legal-before (history_after h one.trail) (entries_of more) both)), all-lawful (history_after h one.trail) more both)

-- where no write is cut, all cut writes are known
pub knows-none : {D : Type 0} (h : List Happening) (session : Session D) → IsUncut session → KnowsCuts h session
knows-none h session uncut k stripe at cut is = absurd (none-some cut (sym (uncut k stripe at) ∙ is))

without-placed : (entries : List Entry) → without_places (with_places entries) ≡ events_in entries
without-placed [] = refl
without-placed (e ∷ entries) = ap (λ l. e.event ∷ l) (without-placed entries)

-- a command
record HasStep {D : Type 0} (h : List Happening) (one : Served) (new : Session D) : Type 0 where
  pub may : AreEventsOf h one.command
  pub knows : KnowsCuts h new

command-step : {D : Type 0} (disk : Ghosts D) (journal : Journal) (one : Served) (old new : Session D) → HasServed disk one old new → SessionStands disk journal.opening old → KnowsCuts (history_of journal) old
    → IsTold (history_of journal) one → IsLawful one → HasStep (history_of journal) one new
command-step disk journal one old new has stands knows told lawful =
    let h = history_of journal in
    let id = one.command.id in
    let task = one.command.task in
    let known : Known h lawful.0 id (events_in one.trail) = record { written = written-is journal id one.trail told; legal = lawful.1 } in
    let step = task-step disk h lawful.0 id task one.answer old new has.fits (is-over disk journal old has.fits stands) knows has.same.plan.geometry has.did
    (subst (λ (trail : List Entry). Known h lawful.0 id (events_in trail)) (sym has.trail) known) in
    let events : without_places (events_of h id) ≡ events_in (session_trail new task) = ap without_places told ∙ without-placed one.trail ∙ ap events_in (sym has.trail) in
    record { may = subst (AreTaskEvents h id task) (sym events) step.may; knows = step.knows }

-- all commands
pub have-events : {D : Type 0} (disk : Ghosts D) (journal : Journal) (served : List Served) (old new : Session D) → HasServedAll disk served old new → SessionStands disk journal.opening old → KnowsCuts (history_of journal) old
    → Each (IsTold (history_of journal)) served → Each IsLawful served → HaveTheirEvents (history_of journal) (commands_of served)
have-events disk journal [] old new all stands knows tolds lawful = tt
have-events disk journal (one ∷ more) old new (between, has, all) stands knows tolds lawful =
    let step = command-step disk journal one old between has stands knows tolds.0 lawful.0 in
    (step.may, have-events disk journal more between new all (has.stands journal.opening stands) step.knows tolds.1 lawful.1)
