-- The journal of a run: what one command more adds to it.
use Rattle.std.proofs.Common.{◌≡◌, ℕ, suc, ◌+◌, ◌<◌, Bool, true, false, ◌||◌, ◌==◌, List, [], ◌∷◌, ◌++◌, length, Some, None, refl, ap, sym, ◌∙◌, subst, arith}
use Rattle.std.proofs.Common.{inl, inr}
use Rattle.std.proofs.lemmas.Bool.{eq-eqb}
use Rattle.std.proofs.lemmas.Bool.Decides.{eqb_tells}
use Rattle.era_base.specs.declared.geometry.Geometry.{Geometry}
use Rattle.era_base.specs.declared.ids.CmdId.{CmdId}
use Rattle.era_model.specs.declared.event.Event.{Event}
use Rattle.era_model.specs.declared.opening.Opening.{Opening}
use Rattle.era_model.specs.declared.history.Happening.{Happening}
use Rattle.era_model.specs.declared.history.Happening.TheVariants.{Opened, Happened, Crashed}
use Rattle.era_model.specs.Commands.{events_of}
use Rattle.era_model.specs.Events.{same_id, drawn_by}
use Rattle.era_model.specs.History.{at_opening, next_place}
use Rattle.era_model.specs.SessionRun.{AreAllDrawnBy, is_among}
use Rattle.era_model.specs.declared.command.Task.{Task}
use Rattle.era_top.specs.declared.outcome.Outcome.{Outcome}
use Rattle.era_top.specs.Outcomes.{era_after, era_after_all, event_count, outcome_events}
use Rattle.era_top.specs.Runs.{lane_zero, commands_from, subject_of, FitsTask, AreAnswered}

-- a number equals itself
pub same_number : (n : ℕ) → (n == n) ≡ true
same_number n = eq-eqb n n refl

-- two numbers of which one is greater differ
pub other_number : (m n : ℕ) → m < n → (m == n) ≡ false
other_number m n h = elim (eqb_tells m n) [ inl same ↦ absurd (let e = same.1 in omega arith) | inr apart ↦ apart.0 ]

-- the same the other way round
pub other_number_back : (m n : ℕ) → n < m → (m == n) ≡ false
other_number_back m n h = elim (eqb_tells m n) [ inl same ↦ absurd (let e = same.1 in omega arith) | inr apart ↦ apart.0 ]

-- a command of the lane is itself
pub same_command : (n : ℕ) → same_id (lane_zero n) (lane_zero n) ≡ true
same_command n = same_number n

-- what is read off the opening, where the opening is known
pub at_opening-known : {T : Type 0} (none : T) (of : Opening → T) (opening : Opening) (h : List Happening) → at_opening None (λ o. Some o) h ≡ Some opening → at_opening none of h ≡ of opening
at_opening-known none of opening [] is = absurd (cc)
at_opening-known none of opening (Opened o ∷ h) is = ap of (let e : o ≡ opening = cc in e)
at_opening-known none of opening (Happened event ∷ h) is = at_opening-known none of opening h is
at_opening-known none of opening (Crashed images ∷ h) is = at_opening-known none of opening h is

-- or of a truth on the right
or-true : (a : Bool) → (a || true) ≡ true
or-true true = refl
or-true false = refl

-- an event of the command is one more of its events
pub own-event : (h : List Happening) (event : Event) (n : ℕ) (events : List (ℕ × Event)) (place : ℕ) → drawn_by event ≡ lane_zero n → events_of h (lane_zero n) ≡ events → next_place h ≡ place → events_of (Happened event ∷ h) (lane_zero n) ≡ events ++ (place, event) ∷ []
own-event h event n events place drawn before at = rw (drawn, same_command n, before, at) refl

-- an event of another command leaves a command's events
pub other-event : (h : List Happening) (event : Event) (n m : ℕ) → drawn_by event ≡ lane_zero n → (n == m) ≡ false → events_of (Happened event ∷ h) (lane_zero m) ≡ events_of h (lane_zero m)
other-event h event n m drawn apart = rw (drawn, apart) refl

-- commands that are answered stay so where their events stay
pub answered-kept : (g : Geometry) (h h' : List Happening) (number era start : ℕ) (tasks : List Task) (outcomes : List Outcome) (next : ℕ)
    → ((m : ℕ) → m < number + length tasks → events_of h' (lane_zero m) ≡ events_of h (lane_zero m))
    → AreAnswered g h number era start tasks outcomes next → AreAnswered g h' number era start tasks outcomes next
answered-kept g h h' number era start [] [] next same answered = answered
answered-kept g h h' number era start [] (outcome ∷ outcomes) next same answered = answered
answered-kept g h h' number era start (task ∷ tasks) [] next same answered = answered
answered-kept g h h' number era start (task ∷ tasks) (outcome ∷ outcomes) next same answered = (
  answered.0,
  same number (omega arith) ∙ answered.1,
  answered-kept g h h' (number + 1) (era_after era outcome) (start + event_count outcome) tasks outcomes next (λ m h. same m (omega arith)) answered.2,
)

-- one command more is answered
pub answered-push : (g : Geometry) (h : List Happening) (number era start : ℕ) (tasks : List Task) (outcomes : List Outcome) (next : ℕ) (task : Task) (outcome : Outcome) (next' : ℕ)
    → AreAnswered g h number era start tasks outcomes next
    → FitsTask g (era_after_all era outcomes) task outcome
    → events_of h (lane_zero (number + length tasks)) ≡ outcome_events (subject_of g (number + length tasks) (era_after_all era outcomes) task) next outcome
    → next' ≡ next + event_count outcome
    → AreAnswered g h number era start (tasks ++ task ∷ []) (outcomes ++ outcome ∷ []) next'
answered-push g h number era start [] [] next task outcome next' answered fits events counted = (
  fits,
  subst (λ n. events_of h (lane_zero n) ≡ outcome_events (subject_of g n era task) start outcome) (let e : number + 0 ≡ number = omega arith in e) (rw answered events),
  rw answered (sym counted),
)
answered-push g h number era start [] (other ∷ outcomes) next task outcome next' answered fits events counted = absurd answered
answered-push g h number era start (other ∷ tasks) [] next task outcome next' answered fits events counted = absurd answered
answered-push g h number era start (other ∷ tasks) (went ∷ outcomes) next task outcome next' answered fits events counted = (
  answered.0,
  answered.1,
  answered-push g h (number + 1) (era_after era went) (start + event_count went) tasks outcomes next task outcome next' answered.2 fits
      (subst (λ n. events_of h (lane_zero n) ≡ outcome_events (subject_of g n (era_after_all (era_after era went) outcomes) task) next outcome)
      (let e : number + suc (length tasks) ≡ number + 1 + length tasks = omega arith in e) events)
      counted,
)

-- the era after one command more
pub era_after_all-push : (era : ℕ) (outcomes : List Outcome) (outcome : Outcome) → era_after_all era (outcomes ++ outcome ∷ []) ≡ era_after (era_after_all era outcomes) outcome
era_after_all-push era [] outcome = refl
era_after_all-push era (other ∷ outcomes) outcome = era_after_all-push (era_after era other) outcomes outcome

-- the command of the last of some tasks is among their commands
pub among-last : (number : ℕ) (tasks : List Task) (task : Task) → is_among (lane_zero (number + length tasks)) (commands_from number (tasks ++ task ∷ [])) ≡ true
among-last number [] task = rw (let e : number + 0 ≡ number = omega arith in e) (rw (same_number number) refl)
among-last number (other ∷ tasks) task =
    let rest : is_among (lane_zero (number + suc (length tasks))) (commands_from (number + 1) (tasks ++ task ∷ [])) ≡ true
    = subst (λ n. is_among (lane_zero n) (commands_from (number + 1) (tasks ++ task ∷ [])) ≡ true) (let e : number + 1 + length tasks ≡ number + suc (length tasks) = omega arith in e) (among-last (number + 1) tasks task) in
    rw rest (or-true (same_id (lane_zero number) (lane_zero (number + suc (length tasks)))))

or-left : (a b : Bool) → a ≡ true → (a || b) ≡ true
or-left a b h = rw h refl

-- what is among some commands is among more
among-more : (id : CmdId) (number : ℕ) (tasks : List Task) (task : Task) → is_among id (commands_from number tasks) ≡ true → is_among id (commands_from number (tasks ++ task ∷ [])) ≡ true
among-more id number [] task h = absurd (cc)
among-more id number (other ∷ tasks) task h = elim (same_id (lane_zero number) id) as (λ b. (b || is_among id (commands_from (number + 1) tasks)) ≡ true → (b || is_among id (commands_from (number + 1) (tasks ++ task ∷ []))) ≡ true) [
  | true ↦ λ _. refl
  | false ↦ λ rest. among-more id (number + 1) tasks task rest
] h

-- events that are drawn by some commands are drawn by more
pub drawn-more : (tasks : List Task) (task : Task) (h : List Happening) → AreAllDrawnBy (commands_from 0 tasks) h → AreAllDrawnBy (commands_from 0 (tasks ++ task ∷ [])) h
drawn-more tasks task [] drawn = tt
drawn-more tasks task (Opened opening ∷ h) drawn = tt
drawn-more tasks task (Happened event ∷ h) drawn = (among-more (drawn_by event) 0 tasks task drawn.0, drawn-more tasks task h drawn.1)
drawn-more tasks task (Crashed images ∷ h) drawn = tt

-- an event of the last of the commands
pub drawn-last : (tasks : List Task) (task : Task) (h : List Happening) (event : Event) → drawn_by event ≡ lane_zero (length tasks) → AreAllDrawnBy (commands_from 0 (tasks ++ task ∷ [])) h → AreAllDrawnBy (commands_from 0 (tasks ++ task ∷ [])) (Happened event ∷ h)
drawn-last tasks task h event drawn all =
    (rw drawn (subst (λ n. is_among (lane_zero n) (commands_from 0 (tasks ++ task ∷ [])) ≡ true) (let e : 0 + length tasks ≡ length tasks = omega arith in e) (among-last 0 tasks task)), all)
