-- Each legal history is scheduled: steps that the machine accepts lead to it, but for the numbers of eras that were kept.
use Rattle.std.proofs.Common.{◌≡◌, ◌≢◌, ℕ, zero, suc, ◌<◌, ◌≤◌, Bool, true, false, List, [], ◌∷◌, ◌++◌, length, Some, None, Option, replicate, refl, ap, sym, ◌∙◌, arith}
use Rattle.std.specs.Prelude.{slice_set}
use Rattle.std.proofs.lemmas.Bool.{cond_both}
use Rattle.std.proofs.lemmas.List.{length-replicate}
use Rattle.std.proofs.lemmas.Option.{same_Some}
use Rattle.era_base.specs.Flags.{has}
use Rattle.era_base.specs.declared.ids.CmdId.{CmdId}
use Rattle.era_model.specs.declared.event.Event.{Event}
use Rattle.era_model.specs.declared.event.Event.TheVariants.{Go, Done, Cut, Settle, Unsettled, Roll, Kept}
use Rattle.era_model.specs.declared.history.Happening.{Happening}
use Rattle.era_model.specs.declared.history.Happening.TheVariants.{Opened, Happened, Crashed}
use Rattle.era_model.specs.declared.history.Images.{Images}
use Rattle.era_model.specs.declared.opening.Opening.{Opening}
use Rattle.era_model.specs.CommandEvents.{written_stripe}
use Rattle.era_model.specs.Crashes.{IsReopening, MayCrash}
use Rattle.era_model.specs.Events.{same_id}
use Rattle.era_model.specs.History.{at_opening, in_flight, is_open, stripe_now}
use Rattle.era_model.specs.Legal.{IsLegal, IsOpening, MayHappen}
use Rattle.era_core.specs.declared.step.Step.TheVariants.{Enter, Take, Crash, Reopen}
use Rattle.era_core.specs.AfterSteps.{Run, is_metadata_event, reopening, with_event, with_stripe}
use Rattle.era_core.specs.Machine.{AllowsInside, CoreState, IsInside, count_inside, opened_core, was_kept}
use Rattle.era_core.specs.Schedules.{IsScheduled, unnumbered, unnumbered_event}
use Rattle.era_core.proofs.Accepted.{HasOpened, has-opened}
use Rattle.era_core.proofs.Insides.{count-length, count-outside, entered, kept-one, none-inside, some-inside}
use Rattle.era_core.proofs.Numbers.{crash-same, may-same}
use Rattle.era_core.proofs.Ready.{IsReady, LeadsOut, LeadsTo, all-leave, cut-flying, entered-ready, flying-with_cut, flying-without, is_flying, leads-on, may-enter, run-append, step-first, stripe-within, writing-flying}
use Rattle.era_core.proofs.Words.{SaysSame, at-known, same-event, same-kept, same-opened}

-- after an event the stripe of each write in flight is inside, as the event asks
covered-event : (core : CoreState) (event : Event) → ((id : CmdId) → is_flying (in_flight core.history) id ≡ true → IsInside core (written_stripe core.history id)) → AllowsInside core event
    → (id : CmdId) → is_flying (in_flight (Happened event ∷ core.history)) id ≡ true → IsInside core (written_stripe (Happened event ∷ core.history) id)
covered-event core (Go other block era first bytes) covered allowed id flying =
    by_command (same_id other id) refl
  where
    by_command : (own : Bool) → same_id other id ≡ own → IsInside core (written_stripe (Happened (Go other block era first bytes) ∷ core.history) id)
    by_command true own = rw own allowed
    by_command false apart = rw apart (covered id (rw apart at flying))
covered-event core (Done other) covered allowed id flying = covered id (flying-without (in_flight core.history) other id flying)
covered-event core (Cut other faults) covered allowed id flying = covered id (sym (flying-with_cut (in_flight core.history) other id) ∙ flying)
covered-event core (Settle by cut bytes) covered allowed id flying = covered id (flying-without (in_flight core.history) cut id flying)
covered-event core event covered allowed id flying = covered id flying

-- what is inside stands in the list of stripes alone
inside-same : (core after : CoreState) (stripe : Option ℕ) → core.inside ≡ after.inside → IsInside core stripe → IsInside after stripe
inside-same core after None same inside = inside
inside-same core after (Some stripe) same inside = ap (λ flags. has flags stripe) (sym same) ∙ inside

-- an event is taken that the stripes inside allow
takes : (h : List Happening) (core : CoreState) (event drawn : Event) → IsReady h core → MayHappen core.history drawn → AllowsInside core drawn
    → SaysSame (Happened event ∷ h) (Happened drawn ∷ core.history) → unnumbered_event drawn ≡ unnumbered_event event → LeadsTo core (Happened event ∷ h)
takes h core event drawn ready may allowed same numbers =
    let after : CoreState = with_event core drawn in
    record {
      steps = Take drawn ∷ [];
      last = after;
      ran = (record { open_session = ready.ongoing; happens = may; inside = allowed }, refl);
      ready = record {
        ongoing = ready.ongoing;
        same = same;
        numbers = ap (λ e. Happened e ∷ unnumbered core.history) numbers ∙ ap (λ rest. Happened (unnumbered_event event) ∷ rest) ready.numbers;
        sized = ready.sized;
        some = ready.some;
        covered = λ id flying. inside-same core after (written_stripe (Happened drawn ∷ core.history) id) refl (covered-event core drawn ready.covered allowed id flying);
        kept = cond_both (is_metadata_event drawn) (count_inside core.inside ∷ []) core.kept (λ kept. was_kept kept (count_inside core.inside) ≡ true)
            (λ metadata. kept-one (count_inside core.inside)) (λ origin. ready.kept);
      };
    }

-- an event that is drawn as it stands
takes-as_is : (h : List Happening) (core : CoreState) (event : Event) → IsReady h core → MayHappen h event → AllowsInside core event → LeadsTo core (Happened event ∷ h)
takes-as_is h core event ready may allowed = takes h core event event ready (may-same h core.history event ready.same may) allowed (same-event event h core.history ready.same) refl

-- the stripe of a write is inside, or enters
go-led : (h : List Happening) (core : CoreState) (id : CmdId) (block era first : ℕ) (bytes : List ℕ) → IsReady h core → MayHappen h (Go id block era first bytes) → LeadsTo core (Happened (Go id block era first bytes) ∷ h)
go-led h core id block era first bytes ready may = by_flag (has core.inside (stripe_now core.history block)) refl
  where
    within : stripe_now core.history block < length core.inside
    within = stripe-within h core block ready (may-same h core.history (Go id block era first bytes) ready.same may).of_origin

    by_flag : (flag : Bool) → has core.inside (stripe_now core.history block) ≡ flag → LeadsTo core (Happened (Go id block era first bytes) ∷ h)
    by_flag true inside = takes-as_is h core (Go id block era first bytes) ready may inside
    by_flag false outside =
        let s = stripe_now core.history block in
        step-first core (Enter s) (Happened (Go id block era first bytes) ∷ h) (may-enter h core s ready within outside)
        (takes-as_is h (with_stripe core s true) (Go id block era first bytes) (entered-ready h core s ready) may (entered core.inside s within))

-- an era is kept with the number of stripes that are inside
kept-takes : (h : List Happening) (core : CoreState) (id : CmdId) (inside : ℕ) → IsReady h core → 1 ≤ count_inside core.inside → LeadsTo core (Happened (Kept id inside) ∷ h)
kept-takes h core id inside ready some =
    takes h core (Kept id inside) (Kept id (count_inside core.inside)) ready
    (record { some = some; stripes = let few = count-length core.inside in let size = ready.sized in omega arith })
    ready.kept
    (same-kept id inside (count_inside core.inside) h core.history ready.same)
    refl

-- where none is inside, one enters before
kept-led : (h : List Happening) (core : CoreState) (id : CmdId) (inside : ℕ) → IsReady h core → LeadsTo core (Happened (Kept id inside) ∷ h)
kept-led h core id inside ready = by_count (count_inside core.inside) refl
  where
    by_count : (count : ℕ) → count_inside core.inside ≡ count → LeadsTo core (Happened (Kept id inside) ∷ h)
    by_count zero none =
        let within : 0 < length core.inside = (let s = ready.some in omega arith) in
        step-first core (Enter 0) (Happened (Kept id inside) ∷ h) (may-enter h core 0 ready within (none-inside core.inside 0 none))
        (kept-takes h (with_stripe core 0 true) id inside (entered-ready h core 0 ready) (some-inside (slice_set core.inside 0 true) 0 (entered core.inside 0 within)))
    by_count (suc count) some = kept-takes h core id inside ready (omega arith)

-- all stripes leave before the era moves
roll-led : (h : List Happening) (core : CoreState) (id : CmdId) (era : ℕ) → IsReady h core → MayHappen h (Roll id era) → LeadsTo core (Happened (Roll id era) ∷ h)
roll-led h core id era ready may =
    let out : LeadsOut core h = all-leave h core ready (sym ready.same.flights ∙ may.quiet) in
    leads-on core h (Happened (Roll id era) ∷ h) out.leads (takes-as_is h out.leads.last (Roll id era) out.leads.ready may out.none)

-- each event of a legal history is scheduled
event-led : (h : List Happening) (core : CoreState) (event : Event) → IsReady h core → MayHappen h event → LeadsTo core (Happened event ∷ h)
event-led h core (Go id block era first bytes) ready may = go-led h core id block era first bytes ready may
event-led h core (Done id) ready may =
    takes-as_is h core (Done id) ready may (ready.covered id (writing-flying (in_flight core.history) id (may-same h core.history (Done id) ready.same may).writing))
event-led h core (Cut id faults) ready may =
    takes-as_is h core (Cut id faults) ready may (ready.covered id (writing-flying (in_flight core.history) id (may-same h core.history (Cut id faults) ready.same may).writing))
event-led h core (Settle by cut bytes) ready may =
    takes-as_is h core (Settle by cut bytes) ready may (ready.covered cut (cut-flying (in_flight core.history) cut (may-same h core.history (Settle by cut bytes) ready.same may).pending))
event-led h core (Unsettled by cut faults) ready may =
    takes-as_is h core (Unsettled by cut faults) ready may (ready.covered cut (cut-flying (in_flight core.history) cut (may-same h core.history (Unsettled by cut faults) ready.same may).pending))
event-led h core (Roll id era) ready may = roll-led h core id era ready may
event-led h core (Kept id inside) ready may = kept-led h core id inside ready
event-led h core event ready may = takes-as_is h core event ready may tt

-- an opening that was reopened is the machine's
opening-is : (h : List Happening) (before opening : Opening) (images : Images) → at_opening None (λ o. Some o) h ≡ Some before → IsReopening h images opening → reopening before images opening.stripes ≡ opening
opening-is h before opening images is re =
    let geometry : before.geometry ≡ opening.geometry = same_Some before.geometry opening.geometry (sym (at-known None (λ o. Some o.geometry) h before is) ∙ re.geometry) in
    let total : before.total ≡ opening.total = sym (re.total ∙ at-known 0 (λ o. o.total) h before is) in
    λ i. record {
      geometry = geometry i;
      era = sym re.era i;
      marks = sym re.marks i;
      held = sym re.held i;
      total = total i;
      stripes = opening.stripes;
      contents = sym re.contents i;
    }

-- the core right after an opening
abbrev pub opened_after : List Happening → Opening → CoreState
opened_after h opening = record { history = Opened opening ∷ h; inside = replicate opening.stripes false; kept = 0 ∷ [] }

-- it is ready
opened-ready : (h h' : List Happening) (opening : Opening) → unnumbered h' ≡ unnumbered h → 1 ≤ opening.stripes → IsReady (Opened opening ∷ h) (opened_after h' opening)
opened-ready h h' opening numbers some = record {
  ongoing = refl;
  same = same-opened opening h h';
  numbers = ap (λ rest. Opened opening ∷ rest) numbers;
  sized = length-replicate opening.stripes false;
  some = let e = length-replicate opening.stripes false in omega arith;
  covered = λ id flying. absurd (cc);
  kept = rw (count-outside opening.stripes) refl;
}

-- a crash and a reopening are scheduled
reopening-led : (h : List Happening) (core : CoreState) (images : Images) (opening : Opening) → IsReady h core → MayCrash h images → IsReopening h images opening → LeadsTo core (Opened opening ∷ Crashed images ∷ h)
reopening-led h core images opening ready may re =
    let known : HasOpened core.history = has-opened core.history ready.ongoing in
    let of_h : at_opening None (λ o. Some o) h ≡ Some known.opening = ready.same.opening ∙ known.is in
    record {
      steps = Crash images ∷ Reopen opening.stripes ∷ [];
      last = opened_after (Crashed images ∷ core.history) opening;
      ran = (
        record { open_session = ready.ongoing; possible = crash-same h core.history images ready.same may },
        (
          record { goes_on = re.below_last; some_stripe = re.some_stripe; few_stripes = re.few_stripes },
          ap (λ o. opened_after (Crashed images ∷ core.history) o) (sym (opening-is h known.opening opening images of_h re))
              ∙ sym (at-known _ _ core.history known.opening known.is),
        ),
      );
      ready = opened-ready (Crashed images ∷ h) (Crashed images ∷ core.history) opening (ap (λ rest. Crashed images ∷ rest) ready.numbers) re.some_stripe;
    }

-- Steps from the opening of a first session on.
pub record StartsTo (h : List Happening) : Type 0 where
  pub opening : Opening
  pub opens : IsOpening opening
  pub leads : LeadsTo (opened_core opening) h

-- each legal history of an open session is scheduled
open-scheduled : (h : List Happening) → IsLegal h → is_open h ≡ true → StartsTo h
open-scheduled [] legal open_now = absurd (cc)
open-scheduled (Opened opening ∷ []) legal open_now = record {
  opening = opening;
  opens = legal.0;
  leads = record { steps = []; last = opened_core opening; ran = refl; ready = opened-ready [] [] opening refl legal.0.some_stripe };
}
open-scheduled (Opened opening ∷ Opened before ∷ h) legal open_now = absurd legal.0
open-scheduled (Opened opening ∷ Happened event ∷ h) legal open_now = absurd legal.0
open-scheduled (Opened opening ∷ Crashed images ∷ h) legal open_now =
    let before : StartsTo h = open-scheduled h legal.1.2 legal.1.0 in
    record {
      opening = before.opening;
      opens = before.opens;
      leads = leads-on (opened_core before.opening) h (Opened opening ∷ Crashed images ∷ h) before.leads
          (reopening-led h before.leads.last images opening before.leads.ready legal.1.1 legal.0);
    }
open-scheduled (Happened event ∷ h) legal open_now =
    let before : StartsTo h = open-scheduled h legal.2 legal.0 in
    record {
      opening = before.opening;
      opens = before.opens;
      leads = leads-on (opened_core before.opening) h (Happened event ∷ h) before.leads (event-led h before.leads.last event before.leads.ready legal.1);
    }
open-scheduled (Crashed images ∷ h) legal open_now = absurd (cc)

-- each legal history but the empty one is scheduled
pub legal-scheduled : (h : List Happening) → IsLegal h → h ≢ [] → IsScheduled h
legal-scheduled [] legal some = absurd (some refl)
legal-scheduled (Opened opening ∷ h) legal some = by_start (open-scheduled (Opened opening ∷ h) legal refl)
  where
    by_start : StartsTo (Opened opening ∷ h) → IsScheduled (Opened opening ∷ h)
    by_start start = record { opening = start.opening; steps = start.leads.steps; last = start.leads.last; schedule = record { opens = start.opens; ran = start.leads.ran }; same = start.leads.ready.numbers }
legal-scheduled (Happened event ∷ h) legal some =
    let start = open-scheduled (Happened event ∷ h) legal legal.0 in
    record { opening = start.opening; steps = start.leads.steps; last = start.leads.last; schedule = record { opens = start.opens; ran = start.leads.ran }; same = start.leads.ready.numbers }
legal-scheduled (Crashed images ∷ h) legal some =
    let start = open-scheduled h legal.2 legal.0 in
    let before = start.leads.last in
    let last : CoreState = record { history = Crashed images ∷ before.history; inside = before.inside; kept = before.kept } in
    let crash : Run before (Crash images ∷ []) last = (record { open_session = start.leads.ready.ongoing; possible = crash-same h before.history images start.leads.ready.same legal.1 }, refl) in
    record {
      opening = start.opening;
      steps = start.leads.steps ++ Crash images ∷ [];
      last = last;
      schedule = record { opens = start.opens; ran = run-append start.leads.steps (Crash images ∷ []) (opened_core start.opening) before last start.leads.ran crash };
      same = ap (λ rest. Crashed images ∷ rest) start.leads.ready.numbers;
    }
