-- What a session reports, from how it was opened and ran, by the laws of its journal.
use Rattle.std.proofs.Common.{◌≡◌, ℕ, ◌<◌, true, List, [], ◌++◌, refl, ap, ap₂, sym, ◌∙◌, subst, inl, inr, arith}
use Rattle.std.specs.Prelude.{Contains}
use Rattle.era_account.specs.Account.{HasEnded, session_devices}
use Rattle.era_base.specs.declared.disk.Disk.{Ghosts}
use Rattle.era_gate.specs.Acts.{Act}
use Rattle.era_gate.specs.declared.plan.Plan.{Plan}
use Rattle.era_journal.specs.ActsLog.{log_of}
use Rattle.era_journal.specs.SeenDevices.{StandsForMarks, metadata_seen}
use Rattle.era_keeper.specs.Keepers.{view_of as keeper_view}
use Rattle.era_keeper.specs.Recovery.{LeavesDurable}
use Rattle.era_line.specs.declared.table_line.TableLine.{TableLine}
use Rattle.era_model.specs.Commands.{answer_of, events_of}
use Rattle.era_model.specs.History.{era_of, next_place}
use Rattle.era_model.specs.Legal.{IsLegalJournal}
use Rattle.era_model.specs.SessionRun.{IsRun}
use Rattle.era_model.specs.Transcript.{end_line, open_line, stop_line}
use Rattle.era_model.specs.declared.journal.Journal.{Journal}
use Rattle.era_model.specs.declared.opening.Opening.{Opening}
use Rattle.era_notes.specs.Notes.{own_history}
use Rattle.era_opening.specs.Openings.{HasOpenedSession}
use Rattle.era_promise.specs.Owners.{logged_entries}
use Rattle.era_promise.specs.Sessions.{DevicesFollow, EndsDurable}
use Rattle.era_promise.specs.Survival.{SurvivesCrashes}
use Rattle.era_run.specs.Accounts.{Told}
use Rattle.era_run.specs.Around.{StreamsAround}
use Rattle.era_run.specs.Endings.{status_of, told_stop}
use Rattle.era_run.specs.Reports.{PrintsSession, ServesSession, told_status}
use Rattle.era_run.specs.Steps.{LosesOpen, RanOpened, ServesBehindOpen, SinkNow, first_line, from, up_to}
use Rattle.era_run.proofs.Accounted.{prints-told, rounds-told, some-answer-told}
use Rattle.era_run.proofs.Pieces.{PrintsPieces, prints-none, prints-pieces}
use Rattle.era_run.proofs.Texts.{HaveTrails, have-trails}
use Rattle.era_serve.specs.Answers.{says_fault, says_memory}
use Rattle.era_serve.specs.Stops.{StopsBy, TellsAnswers, commands_in}
use Rattle.era_serve.specs.declared.stop.Stop.{Stop}
use Rattle.era_serve.specs.declared.stop.Stop.TheVariants.{Read, Line, Source, Memory, Sink}
use Rattle.era_served.specs.Served.{AreOfLane, HasRun, HasServedAll, Served, commands_of, history_of, joined, rounds_of}
use Rattle.era_session.specs.Openings.{opening_of}
use Rattle.era_session.specs.Sessions.{SessionFits, SessionStands}
use Rattle.era_session.specs.Trails.{with_places}
use Rattle.era_session.specs.declared.session.Session.{Session}
use Rattle.era_plan.specs.Stream.{stream_rounds}
use Rattle.era_tools.specs.Around.{BayAround, Between, behind, lending}
use Rattle.era_tools.specs.declared.status.Status.{Status}

-- a stop says the same of streams that differ at the sink alone
stops-so : (streams : StreamsAround) (before now : SinkNow) (rounds : List (List Rattle.era_model.specs.declared.command.Command.Command)) (stop : Stop)
    → StopsBy (from (up_to streams before) now) rounds stop → StopsBy streams rounds stop
stops-so streams before now rounds Read stops = record { stream = stops.stream; at_end = stops.at_end; kept = stops.kept }
stops-so streams before now rounds (Line error) stops = stops
stops-so streams before now rounds (Source number) stops = record { told = stops.told; rose = stops.rose; stream = stops.stream }
stops-so streams before now rounds Memory stops = stops
stops-so streams before now rounds Sink stops = stops

-- and where nothing was read
stops-unread : (streams : StreamsAround) (stop : Stop) → stop ≡ Sink → streams.source_faults' ≡ streams.source_faults → StopsBy streams [] stop
stops-unread streams Sink is kept = ((λ text told. record { more = (stream_rounds text).rounds; joined = refl; rest = tt }), kept)
stops-unread streams Read is kept = cc
stops-unread streams (Line error) is kept = cc
stops-unread streams (Source number) is kept = cc
stops-unread streams Memory is kept = cc

module _ {D : Type 0} (disk : Ghosts D)
    (runs : (journal : Journal) (lane : ℕ) (rounds : List (List Served)) (first last : Session D) (places : ℕ) (acts : List Act)
    → HasRun disk journal lane (joined rounds) first last places acts → IsRun (history_of journal) (rounds_of rounds))
    (trails : (journal : Journal) (lane : ℕ) (served : List Served) (first last : Session D) (places : ℕ) (acts : List Act) (one : Served)
    → HasRun disk journal lane served first last places acts → Contains served one
    → (events_of (history_of journal) one.command.id ≡ with_places one.trail) × (answer_of (with_places one.trail) ≡ one.answer))
    (in_era : (journal : Journal) (lane : ℕ) (served : List Served) (first last : Session D) (places : ℕ) (acts : List Act)
    → HasRun disk journal lane served first last places acts → era_of (history_of journal) ≡ last.keeper.meta.marks.era)
    (at_place : (journal : Journal) (lane : ℕ) (served : List Served) (first last : Session D) (places : ℕ) (acts : List Act)
    → HasRun disk journal lane served first last places acts → next_place (history_of journal) ≡ places)
    (legal : (journal : Journal) (session : Session D) (places : ℕ) (acts : List Act) → HasEnded disk journal session places acts → IsLegalJournal journal)
    (follow : disk.tells ≡ true → (journal : Journal) (session : Session D) (places : ℕ) (acts : List Act) → HasEnded disk journal session places acts
    → DevicesFollow StandsForMarks journal (session_devices disk session))
    (survive : disk.tells ≡ true → (journal : Journal) (session : Session D) (places : ℕ) (acts : List Act) → HasEnded disk journal session places acts
    → SurvivesCrashes StandsForMarks journal (session_devices disk session))
    (durable : (journal : Journal) (session : Session D) (places : ℕ) (acts : List Act) → HasEnded disk journal session places acts
    → LeavesDurable (own_history journal.opening (keeper_view disk session.keeper).notes) (keeper_view disk session.keeper).history.now
    → EndsDurable StandsForMarks journal (metadata_seen (keeper_view disk session.keeper)))
    (stands : (opening : Opening) (served : List Served) (first last : Session D) → HasServedAll disk served first last
    → SessionStands disk opening first → SessionStands disk opening last)
    (bay : BayAround D) (between : Between D) (line : TableLine) (stripes : ℕ) (streams : StreamsAround) (first : Session D) (result : Status)
    (opened : HasOpenedSession disk (lending bay between) line stripes first)
    (ran : RanOpened disk (behind bay between) streams first result) where
  report : (rounds : List (List Served)) (lane : ℕ) → HasServedAll disk (joined rounds) first ran.last → SessionFits disk ran.last → lane < 64
      → AreOfLane lane 0 (commands_of (joined rounds)) → StopsBy streams (commands_in rounds) ran.stopped.stop → TellsAnswers (joined rounds) ran.stopped
      → PrintsPieces streams.given streams.given' (first_line first) rounds (stop_line (told_stop ran.stopped.stop) ++ end_line ran.last.keeper.meta.marks.era ran.places)
      (status_of ran.stopped.stop ran.stopped.some_fault ran.stopped.some_memory) result
      → ServesSession disk bay line stripes streams result
  report rounds lane all fits lane_is of_lane stops answers pieces =
      let ready = opened.opened.over.ready in
      let parts = opened.opened.parts in
      let opening : Opening = opening_of disk parts first in
      let acts = ran.closed.acts in
      let journal : Journal = record { opening = opening; entries = logged_entries (log_of opening.stripes acts) } in
      let stands' = stands opening (joined rounds) first ran.last all ready.stands in
      let ended : HasEnded disk journal ran.last ran.places acts = record { fits = fits; stands = stands'; drew = ran.closed.drew; entries = refl } in
      let run : HasRun disk journal lane (joined rounds) first ran.last ran.places acts = record {
        begun = ready.prepared.over.pass;
        uncut = ready.prepared.over.uncut;
        stands = ready.stands;
        all = all;
        lane_is = lane_is;
        of_lane = of_lane;
        ended = ended;
      } in
      let told : Told = record { journal = journal; rounds = commands_in rounds; stop = ran.stopped.stop } in
      let have : HaveTrails (history_of journal) (joined rounds) = have-trails (history_of journal) (joined rounds)
      (λ one among. (trails journal lane (joined rounds) first ran.last ran.places acts one run among).0) in
      let given : (one : Served) → Contains (joined rounds) one → answer_of (events_of (history_of journal) one.command.id) ≡ one.answer =
      λ one among. let both = trails journal lane (joined rounds) first ran.last ran.places acts one run among in ap answer_of both.0 ∙ both.1 in
      let fault = some-answer-told told says_fault rounds refl given ∙ sym answers.fault in
      let memory = some-answer-told told says_memory rounds refl given ∙ sym answers.memory in
      let status_is : told_status told ≡ status_of ran.stopped.stop ran.stopped.some_fault ran.stopped.some_memory = ap₂ (status_of ran.stopped.stop) fault memory in
      record {
        between = between;
        first = first;
        last = ran.last;
        told = told;
        opened = opened;
        account = record {
          opening = refl;
          legal = legal journal ran.last ran.places acts ended;
          run = subst (IsRun (history_of journal)) (sym (rounds-told rounds)) (runs journal lane rounds first ran.last ran.places acts run);
          follow = λ tells. follow tells journal ran.last ran.places acts ended;
          survive = λ tells. survive tells journal ran.last ran.places acts ended;
          durable = λ tells. durable journal ran.last ran.places acts ended (ran.closed.durable opening stands' tells);
        };
        stopped = stops;
        printed = subst (λ (status : Status). PrintsSession told streams.given streams.given' status result) (sym status_is)
            (prints-told told rounds refl have (first_line first) (ap (open_line first.geometry) (ap (λ (plan : Plan). plan.era) ready.prepared.over.plan))
            ran.last.keeper.meta.marks.era ran.places streams.given streams.given' _ result
            (in_era journal lane (joined rounds) first ran.last ran.places acts run) (at_place journal lane (joined rounds) first ran.last ran.places acts run) pieces);
        back = ran.back;
      }

  behind-open : ServesBehindOpen disk first ran.last (up_to streams ran.sink) ran.stopped → ServesSession disk bay line stripes streams result
  behind-open served =
      let rounds = served.rounds in
      report rounds.rounds rounds.lane rounds.served rounds.fits rounds.lane_is rounds.of_lane
      (stops-so streams ran.sink served.opened (commands_in rounds.rounds) ran.stopped.stop rounds.stops) rounds.answers
      (prints-pieces ran.stopped.stop ran.stopped (from (up_to streams ran.sink) served.opened) rounds.rounds streams.given streams.given' ran.sink.faults streams.sink_faults'
      (first_line first) _ result served.given rounds.replies ran.ended)

  lost-open : LosesOpen first ran.last (up_to streams ran.sink) ran.stopped → ServesSession disk bay line stripes streams result
  lost-open lost =
      report [] 0 lost.same (subst (SessionFits disk) (sym lost.same) opened.opened.over.ready.fits) (omega arith) tt
      (stops-unread streams ran.stopped.stop lost.stop lost.unread.faults) (record { fault = lost.quiet.0; memory = lost.quiet.1 })
      (prints-none ran.stopped.stop ran.stopped streams.given ran.sink.given streams.given' ran.sink.faults streams.sink_faults' (first_line first) _ _ result lost.stop lost.front ran.ended)

  pub reports : ServesSession disk bay line stripes streams result
  reports = elim ran.served [
    | inl served ↦ behind-open served
    | inr lost ↦ lost-open lost
  ]
