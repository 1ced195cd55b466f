-- How a session went, from the run of its rounds and the lines that were given.
use Rattle.std.proofs.Common.{◌≡◌, ℕ, ◌+◌, ◌*◌, ◌≤◌, true, false, List, [], ◌∷◌, ◌++◌, length, get_or, Option, Some, None, refl, ap, sym, ◌∙◌, subst, arith, inl, inr, append_assoc}
use Rattle.std.proofs.lemmas.List.{append-nil}
use Rattle.std.proofs.lemmas.List.Sums.{sum_by-cons}
use Rattle.era_base.specs.declared.geometry.Geometry.{Geometry}
use Rattle.era_base.specs.Streams.{GivesFront}
use Rattle.era_model.specs.declared.history.Happening.{Happening}
use Rattle.era_model.specs.declared.history.Happening.TheVariants.{Opened}
use Rattle.era_model.specs.declared.command.Command.{Command}
use Rattle.era_model.specs.declared.command.Task.{Task}
use Rattle.era_model.specs.Counts.{CountsAreWithin}
use Rattle.era_model.specs.History.{at_opening, era_of, next_place}
use Rattle.era_model.specs.Journal.{session_opening}
use Rattle.era_model.specs.Transcript.{Stop, ReadToEnd, NoMemory, open_line, stop_line, end_line, rounds_text}
use Rattle.era_model.specs.Writes.{block_bytes}
use Rattle.era_plan.specs.Stream.{stream_rounds}
use Rattle.era_top.specs.declared.outcome.Outcome.{Outcome}
use Rattle.era_top.specs.declared.outcome.Outcome.TheVariants.{OutOfRange, Done, Cut, Moved, LastEra, Listed, NoMemory as NoMemoryOutcome}
use Rattle.era_tools.specs.declared.status.Status.{Status}
use Rattle.era_tools.specs.declared.status.Status.TheVariants.{Memory, Sink}
use Rattle.era_top.specs.Outcomes.{answers_text, era_after, event_count, total_events}
use Rattle.era_top.specs.Runs.{commands_from, tasks_of, AreAnswered, AreNumbered, IsJournalOf, ReadsAsJournal}
use Rattle.era_top.specs.Endings.{Goes, GoesOn}
use Rattle.era_top.specs.Sessions.{Session, Around, IsSession, joined, rounds_of, session_text, text_behind_open}
use Rattle.era_tools.specs.Printing.{Prints}
use Rattle.era_line.proofs.Gathering.{front-longer}
use Rattle.era_top.proofs.Gives.{gives_front-within}
use Rattle.era_top.proofs.Journals.{at_opening-known}
use Rattle.era_top.proofs.Relined.{lists-relined, numbered-relined}
use Rattle.era_top.proofs.RoundRuns.{rounds-replies}
use Rattle.era_top.proofs.RunLaws.{answered-replies}
use Rattle.era_top.proofs.RunOrder.{journal-run, opening-legal}
use Rattle.era_top.proofs.StreamSteps.{never-empty}

-- a text that was given behind another one
pub prints-behind : (given given' given'' : Option (List ℕ)) (first rest : List ℕ) (ended result : Status)
    → ((before : List ℕ) → given ≡ Some before → given' ≡ Some (before ++ first)) → Prints given' given'' rest ended result → Prints given given'' (first ++ rest) ended result
prints-behind given given' given'' first rest ended result was printed = elim printed [
  | inl all ↦ inl (all.0, (λ before is. all.1 (before ++ first) (was before is) ∙ ap (λ bytes. Some bytes) (append_assoc before first rest)))
  | inr some ↦ inr (
    some.0,
    (λ before is.
        subst (λ bytes. GivesFront before bytes given'') (ap (λ bytes. first ++ bytes) (append-nil rest))
        (gives_front-within before first rest [] given'' (some.1 (before ++ first) (was before is)))),
  )
]

-- a text of which the first part was refused
pub prints-first : (given given' : Option (List ℕ)) (first rest : List ℕ) (ended : Status)
    → ((before : List ℕ) → given ≡ Some before → GivesFront before first given') → Prints given given' (first ++ rest) ended Sink
prints-first given given' first rest ended front = inr (refl, (λ before is. front-longer before first rest given' (front before is)))

-- the next place is behind all events
pub answered-total : (g : Geometry) (h : List Happening) (number era start : ℕ) (tasks : List Task) (outcomes : List Outcome) (next : ℕ) → AreAnswered g h number era start tasks outcomes next → next ≡ start + total_events outcomes
answered-total g h number era start [] [] next answered = omega (arith, answered)
answered-total g h number era start [] (outcome ∷ outcomes) next answered = absurd answered
answered-total g h number era start (task ∷ tasks) [] next answered = absurd answered
answered-total g h number era start (task ∷ tasks) (outcome ∷ outcomes) next answered =
    let rest = answered-total g h (number + 1) (era_after era outcome) (start + event_count outcome) tasks outcomes next answered.2 in
    let more : total_events (outcome ∷ outcomes) ≡ event_count outcome + total_events outcomes = sum_by-cons event_count outcome outcomes in omega arith

-- at most four events a command
pub total-few : (outcomes : List Outcome) → total_events outcomes ≤ 4 * length outcomes
total-few [] = omega arith
total-few (outcome ∷ outcomes) =
    let rest = total-few outcomes in
    let more : total_events (outcome ∷ outcomes) ≡ event_count outcome + total_events outcomes = sum_by-cons event_count outcome outcomes in
    let few = count-few outcome in
    omega (arith, rest, more, few)
  where
    count-few : (outcome : Outcome) → event_count outcome ≤ 4
    count-few OutOfRange = omega arith
    count-few (Done true) = omega arith
    count-few (Done false) = omega arith
    count-few (Cut true faults) = omega arith
    count-few (Cut false faults) = omega arith
    count-few (Moved era) = omega arith
    count-few LastEra = omega arith
    count-few (Listed blocks) = omega arith
    count-few NoMemoryOutcome = omega arith

four : (a b c d : List ℕ) → a ++ b ++ c ++ d ≡ a ++ (b ++ (c ++ d))
four a b c d = simp append_assoc

-- the text of a session is its first line and what stands behind it
pub session-text-is : (g : Geometry) (contents : List ℕ) (session : Session) → at_opening None (λ opening. Some opening) session.journal ≡ Some (session_opening g contents)
    → session_text session ≡ open_line g 1 ++ text_behind_open session
session-text-is g contents session opened =
    let open_text = at_opening [] (λ opening. open_line opening.geometry opening.era) session.journal in
    four open_text (rounds_text session.journal (rounds_of session.rounds)) (stop_line session.stop) (end_line (era_of session.journal) (next_place session.journal))
    ∙ ap (λ first. first ++ text_behind_open session) (at_opening-known [] (λ opening. open_line opening.geometry opening.era) (session_opening g contents) session.journal opened)

-- a session that went on behind its first line
pub goes-behind : (g : Geometry) (contents : List ℕ) (around : Around) (given given' given'' : Option (List ℕ)) (result : Status)
    → ((before : List ℕ) → given ≡ Some before → given' ≡ Some (before ++ open_line g 1)) → GoesOn g contents around given' given'' result → Goes g contents around given given'' result
goes-behind g contents around given given' given'' result was on = record {
  session = on.session;
  ended = on.ended;
  right = on.right;
  cause = on.cause;
  printed = subst (λ text. Prints given given'' text on.ended result) (sym (session-text-is g contents on.session on.right.opened))
      (prints-behind given given' given'' (open_line g 1) (text_behind_open on.session) on.ended result was on.printed);
}

-- What is known of the journal of rounds that were run: it is that of their commands, which are numbered, and went so.
pub record RanRounds (g : Geometry) (contents : List ℕ) (around : Around) (rounds : List (List Command)) (outcomes : List Outcome) (h : List Happening) : Type 0 where
  pub journal : IsJournalOf g contents (tasks_of (joined rounds)) outcomes h
  pub numbered : AreNumbered 0 (joined rounds)
  pub counts : CountsAreWithin (λ _. around.disk_faults) (λ _. around.disk_faults') h
  pub reads : around.tells ≡ true → contents ≡ around.disk.seen → ReadsAsJournal g h around.disk'.seen

-- rounds that were run are a session
pub session-right : (g : Geometry) (contents : List ℕ) (around : Around) (rounds : List (List Command)) (outcomes : List Outcome) (h : List Happening) (stop : Stop)
    → RanRounds g contents around rounds outcomes h → IsSession g contents around (record { journal = h; rounds = rounds; stop = stop })
session-right g contents around rounds outcomes h stop ran = record {
  opened = ran.journal.opened;
  legal = ran.journal.legal;
  run = journal-run g contents rounds outcomes h ran.numbered ran.journal;
  lists = lists-relined g h (commands_from 0 (tasks_of (joined rounds))) (joined rounds) (numbered-relined 0 (joined rounds) ran.numbered) ran.journal.lists;
  counts = ran.counts;
  reads = ran.reads;
}

-- and its text behind the first line is that of the outcomes
pub behind-text : (g : Geometry) (contents : List ℕ) (around : Around) (rounds : List (List Command)) (outcomes : List Outcome) (h : List Happening) (stop : Stop) (era : ℕ)
    → RanRounds g contents around rounds outcomes h → era ≡ era_of h
    → text_behind_open (record { journal = h; rounds = rounds; stop = stop })
    ≡ answers_text 0 (joined rounds) outcomes ++ (stop_line stop ++ end_line era (total_events outcomes))
behind-text g contents around rounds outcomes h stop era ran present =
    ap (λ text. text ++ (stop_line stop ++ end_line (era_of h) (next_place h)))
    (rounds-replies h rounds ∙ answered-replies g h 0 1 0 (joined rounds) outcomes (next_place h) ran.numbered ran.journal.answered)
    ∙ ap (λ n. answers_text 0 (joined rounds) outcomes ++ (stop_line stop ++ end_line n (next_place h))) (sym present)
    ∙ ap (λ n. answers_text 0 (joined rounds) outcomes ++ (stop_line stop ++ end_line era n))
    (answered-total g h 0 1 0 (tasks_of (joined rounds)) outcomes (next_place h) ran.journal.answered ∙ omega arith)

-- a session that ran nothing
nothing : (g : Geometry) (contents : List ℕ) (around : Around) → (around.tells ≡ true → around.disk' ≡ around.disk)
    → RanRounds g contents around [] [] (Opened (session_opening g contents) ∷ [])
nothing g contents around same = record {
  journal = record {
    opened = refl;
    ongoing = refl;
    legal = opening-legal g contents;
    era = refl;
    answered = refl;
    drawn = tt;
    lists = λ before after list since among asks. absurd (never-empty before list after among);
  };
  numbered = tt;
  counts = tt;
  reads = λ told is block within. record {
    size = ap (λ bytes. length (block_bytes g.block_sectors bytes block)) (ap (λ state. state.seen) (same told) ∙ sym is);
    same = λ offset _. ap (λ bytes. get_or (block_bytes g.block_sectors bytes block) offset 0) (ap (λ state. state.seen) (same told) ∙ sym is);
  };
}

-- the first line was refused, and nothing was read
pub goes-unopened : (g : Geometry) (contents : List ℕ) (around : Around) (given given' : Option (List ℕ)) → (around.tells ≡ true → around.disk' ≡ around.disk)
    → around.disk_faults' ≡ around.disk_faults → around.left' ≡ around.left → around.source_faults' ≡ around.source_faults
    → ((before : List ℕ) → given ≡ Some before → GivesFront before (open_line g 1) given') → Goes g contents around given given' Sink
goes-unopened g contents around given given' same kept left unread front =
    let session : Session = record { journal = Opened (session_opening g contents) ∷ []; rounds = []; stop = ReadToEnd } in
    record {
      session = session;
      ended = Sink;
      right = session-right g contents around [] [] (Opened (session_opening g contents) ∷ []) ReadToEnd (nothing g contents around same);
      cause = inl (record { rounds = refl; no_event = refl; same = same; kept = kept }, left, unread);
      printed = subst (λ text. Prints given given' text Sink Sink) (sym (session-text-is g contents session refl))
          (prints-first given given' (open_line g 1) (text_behind_open session) Sink front);
    }

-- memory for the marks was refused
pub goes-no_marks : (g : Geometry) (contents : List ℕ) (around : Around) (given given' : Option (List ℕ)) (result : Status) → (around.tells ≡ true → around.disk' ≡ around.disk)
    → around.disk_faults' ≡ around.disk_faults → around.source_faults' ≡ around.source_faults
    → Prints given given' (stop_line NoMemory ++ end_line 1 0) Memory result → GoesOn g contents around given given' result
goes-no_marks g contents around given given' result same kept unread printed = record {
  session = record { journal = Opened (session_opening g contents) ∷ []; rounds = []; stop = NoMemory };
  ended = Memory;
  right = session-right g contents around [] [] (Opened (session_opening g contents) ∷ []) NoMemory (nothing g contents around same);
  cause = (
    record { quiet = refl; clean = λ told block written. absurd (never-empty written.before written.write written.after written.among); kept = kept },
    inl (record { stop = refl; stream = λ text is. record { more = (stream_rounds text).rounds; joined = refl; rest = tt }; kept = unread }),
  );
  printed = printed;
}
