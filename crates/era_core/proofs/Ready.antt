-- A core that is ready for the next happening of a legal history, and the steps that keep it so.
use Rattle.std.proofs.Common.{◌≡◌, ℕ, zero, suc, ◌+◌, ◌*◌, ◌<◌, ◌≤◌, Bool, true, false, not, ◌&&◌, ◌||◌, List, [], ◌∷◌, ◌++◌, length, Some, None, Option, refl, ap, sym, ◌∙◌, subst, arith, inl, inr}
use Rattle.std.specs.Prelude.{slice_set, if◌then◌else◌}
use Rattle.std.proofs.Math.Nat.{div-lt_iff_lt-mul, mul_comm}
use Rattle.std.proofs.lemmas.Bool.{and_parts, cases_lt, cond_both, or_cases, or_left, or_right}
use Rattle.std.proofs.lemmas.Grind.{div_ceil_times}
use Rattle.std.proofs.lemmas.List.{get_or_past, length-set}
use Rattle.era_base.specs.Flags.{has}
use Rattle.era_base.specs.Geometry.{stripe_blocks, stripe_of}
use Rattle.era_base.specs.declared.ids.CmdId.{CmdId}
use Rattle.era_model.specs.declared.flight.FlightWrite.{FlightWrite}
use Rattle.era_model.specs.declared.history.Happening.{Happening}
use Rattle.era_model.specs.CommandEvents.{written_stripe}
use Rattle.era_model.specs.Events.{same_id}
use Rattle.era_model.specs.History.{at_opening, blocks_at, blocks_now, in_flight, is_open, stripe_now}
use Rattle.era_model.specs.Writes.{is_cut, is_writing, with_cut, without}
use Rattle.era_core.specs.declared.step.Step.{Step}
use Rattle.era_core.specs.declared.step.Step.TheVariants.{Enter, Leave}
use Rattle.era_core.specs.AfterSteps.{Run, after_step, with_stripe}
use Rattle.era_core.specs.Machine.{CoreState, IsEnabled, IsInside, count_inside, was_kept}
use Rattle.era_core.specs.Schedules.{unnumbered}
use Rattle.era_core.proofs.Accepted.{HasOpened, has-opened}
use Rattle.era_core.proofs.Insides.{count-none, inside-within, kept-push, left-behind, still-inside}
use Rattle.era_core.proofs.Words.{SaysSame, at-known}

-- whether the command has a write among those in flight
abbrev pub is_flying : List FlightWrite → CmdId → Bool
is_flying [] id = false
is_flying (write ∷ writes) id = same_id write.id id || is_flying writes id

-- fewer writes, fewer commands
pub flying-without : (writes : List FlightWrite) (id other : CmdId) → is_flying (without writes id) other ≡ true → is_flying writes other ≡ true
flying-without [] id other flying = flying
flying-without (write ∷ writes) id other flying =
    cond_both (not (same_id write.id id)) (write ∷ without writes id) (without writes id) (λ left. is_flying left other ≡ true → (same_id write.id other || is_flying writes other) ≡ true)
    (λ kept is. elim (or_cases (same_id write.id other) (is_flying (without writes id) other) is) [
      | inl own ↦ or_left (same_id write.id other) (is_flying writes other) own
      | inr rest ↦ or_right (same_id write.id other) (is_flying writes other) (flying-without writes id other rest)
    ])
    (λ gone is. or_right (same_id write.id other) (is_flying writes other) (flying-without writes id other is)) flying

-- a write that is cut stays its command's
pub flying-with_cut : (writes : List FlightWrite) (id other : CmdId) → is_flying (with_cut writes id) other ≡ is_flying writes other
flying-with_cut [] id other = refl
flying-with_cut (write ∷ writes) id other =
    ap (λ rest. same_id (if same_id write.id id then record write { cut = true } else write).id other || rest) (flying-with_cut writes id other)
    ∙ ap (λ own. own || is_flying writes other) (same_own (same_id write.id id))
  where
    same_own : (cut : Bool) → same_id (if cut then record write { cut = true } else write).id other ≡ same_id write.id other
    same_own true = refl
    same_own false = refl

-- a command whose write isn't cut has one in flight
pub writing-flying : (writes : List FlightWrite) (id : CmdId) → is_writing writes id ≡ true → is_flying writes id ≡ true
writing-flying [] id writing = writing
writing-flying (write ∷ writes) id writing = elim (or_cases (same_id write.id id && not write.cut) (is_writing writes id) writing) [
  | inl own ↦ or_left (same_id write.id id) (is_flying writes id) (and_parts (same_id write.id id) (not write.cut) own).0
  | inr rest ↦ or_right (same_id write.id id) (is_flying writes id) (writing-flying writes id rest)
]

-- and so has one whose write is cut
pub cut-flying : (writes : List FlightWrite) (id : CmdId) → is_cut writes id ≡ true → is_flying writes id ≡ true
cut-flying [] id pending = pending
cut-flying (write ∷ writes) id pending = elim (or_cases (same_id write.id id && write.cut) (is_cut writes id) pending) [
  | inl own ↦ or_left (same_id write.id id) (is_flying writes id) (and_parts (same_id write.id id) write.cut own).0
  | inr rest ↦ or_right (same_id write.id id) (is_flying writes id) (cut-flying writes id rest)
]

-- The core is ready where its history says the same as the legal one, and the stripe of each write in flight is inside.
pub record IsReady (h : List Happening) (core : CoreState) : Type 0 where
  pub ongoing : is_open core.history ≡ true
  pub same : SaysSame h core.history
  pub numbers : unnumbered core.history ≡ unnumbered h
  pub sized : length core.inside ≡ at_opening 0 (λ o. o.stripes) core.history
  pub some : 1 ≤ length core.inside
  pub covered : (id : CmdId) → is_flying (in_flight core.history) id ≡ true → IsInside core (written_stripe core.history id)
  pub kept : was_kept core.kept (count_inside core.inside) ≡ true

-- Steps that lead from a core to one that is ready.
pub record LeadsTo (core : CoreState) (h : List Happening) : Type 0 where
  pub steps : List Step
  pub last : CoreState
  pub ran : Run core steps last
  pub ready : IsReady h last

-- steps after others
pub run-append : (first second : List Step) (core middle last : CoreState) → Run core first middle → Run middle second last → Run core (first ++ second) last
run-append [] second core middle last ran more = subst (λ c. Run c second last) ran more
run-append (step ∷ first) second core middle last ran more = (ran.0, run-append first second (after_step core step) middle last ran.1 more)

pub leads-on : (core : CoreState) (h h' : List Happening) (first : LeadsTo core h) → LeadsTo first.last h' → LeadsTo core h'
leads-on core h h' first more = record {
  steps = first.steps ++ more.steps;
  last = more.last;
  ran = run-append first.steps more.steps core first.last more.last first.ran more.ran;
  ready = more.ready;
}

-- a stripe that is inside is so with more of them inside
more-inside : (core after : CoreState) (stripe : Option ℕ) → ((s : ℕ) → has core.inside s ≡ true → has after.inside s ≡ true) → IsInside core stripe → IsInside after stripe
more-inside core after None more inside = inside
more-inside core after (Some stripe) more inside = more stripe inside

-- one step first
pub step-first : (core : CoreState) (step : Step) (h : List Happening) → IsEnabled core step → LeadsTo (after_step core step) h → LeadsTo core h
step-first core step h may more = record { steps = step ∷ more.steps; last = more.last; ran = (may, more.ran); ready = more.ready }

-- a stripe that is outside may enter
pub may-enter : (h : List Happening) (core : CoreState) (stripe : ℕ) → IsReady h core → stripe < length core.inside → has core.inside stripe ≡ false → IsEnabled core (Enter stripe)
may-enter h core stripe ready within outside = record { open_session = ready.ongoing; of_session = subst (λ n. stripe < n) ready.sized within; outside = outside }

-- and then the core is ready
pub entered-ready : (h : List Happening) (core : CoreState) (stripe : ℕ) → IsReady h core → IsReady h (with_stripe core stripe true)
entered-ready h core stripe ready = record {
  ongoing = ready.ongoing;
  same = ready.same;
  numbers = ready.numbers;
  sized = length-set core.inside stripe true ∙ ready.sized;
  some = let e = length-set core.inside stripe true in let s = ready.some in omega arith;
  covered = λ id flying. more-inside core (with_stripe core stripe true) (written_stripe core.history id) (still-inside core.inside stripe) (ready.covered id flying);
  kept = kept-push core.kept (count_inside (slice_set core.inside stripe true));
}

-- Steps after which no stripe is inside.
pub record LeadsOut (core : CoreState) (h : List Happening) : Type 0 where
  pub leads : LeadsTo core h
  pub none : count_inside leads.last.inside ≡ 0

-- a stripe may leave, where nothing is in flight
may-leave : (h : List Happening) (core : CoreState) (stripe : ℕ) → IsReady h core → in_flight core.history ≡ [] → has core.inside stripe ≡ true → IsEnabled core (Leave stripe)
may-leave h core stripe ready quiet inside = record { open_session = ready.ongoing; inside = inside; quiet = rw quiet refl }

-- and then the core is ready
left-ready : (h : List Happening) (core : CoreState) (stripe : ℕ) → IsReady h core → in_flight core.history ≡ [] → IsReady h (with_stripe core stripe false)
left-ready h core stripe ready quiet = record {
  ongoing = ready.ongoing;
  same = ready.same;
  numbers = ready.numbers;
  sized = length-set core.inside stripe false ∙ ready.sized;
  some = let e = length-set core.inside stripe false in let s = ready.some in omega arith;
  covered = λ id flying. absurd (let none : false ≡ true = ap (λ writes. is_flying writes id) (sym quiet) ∙ flying in cc);
  kept = kept-push core.kept (count_inside (slice_set core.inside stripe false));
}

-- so many stripes leave, from one on, where those before it are outside
leave-from : (count stripe : ℕ) (h : List Happening) (core : CoreState) → count + stripe ≡ length core.inside → IsReady h core → in_flight core.history ≡ []
    → ((other : ℕ) → other < stripe → has core.inside other ≡ false) → LeadsOut core h
unfolding step-first
leave-from zero stripe h core size ready quiet before = record {
  leads = record { steps = []; last = core; ran = refl; ready = ready };
  none = count-none core.inside (λ other. elim (cases_lt other stripe) [
    | inl less ↦ before other less
    | inr past ↦ get_or_past core.inside other false (omega arith)
  ]);
}
leave-from (suc count) stripe h core size ready quiet before =
    by_flag (has core.inside stripe) refl (λ after. leave-from count (stripe + 1) h after)
  where
    by_flag : (flag : Bool) → has core.inside stripe ≡ flag
        → ((after : CoreState) → count + (stripe + 1) ≡ length after.inside → IsReady h after → in_flight after.history ≡ [] → ((other : ℕ) → other < stripe + 1 → has after.inside other ≡ false) → LeadsOut after h)
        → LeadsOut core h
    by_flag true inside more =
        let after : CoreState = with_stripe core stripe false in
        let rest : LeadsOut after h = more after (let e = length-set core.inside stripe false in omega arith) (left-ready h core stripe ready quiet) quiet
        (left-behind core.inside stripe (inside-within core.inside stripe inside) before) in
        record { leads = step-first core (Leave stripe) h (may-leave h core stripe ready quiet inside) rest.leads; none = rest.none }
    by_flag false outside more = more core (omega arith) ready quiet (λ other less. elim (cases_lt other stripe) [
      | inl below ↦ before other below
      | inr past ↦ ap (λ s. has core.inside s) (let e : other ≡ stripe = omega arith in e) ∙ outside
    ])

-- all stripes leave, where nothing is in flight
pub all-leave : (h : List Happening) (core : CoreState) → IsReady h core → in_flight core.history ≡ [] → LeadsOut core h
all-leave h core ready quiet = leave-from (length core.inside) 0 h core (omega arith) ready quiet (λ other less. absurd (omega arith))

-- each stripe of a block is one of those that there are
pub stripe-within : (h : List Happening) (core : CoreState) (block : ℕ) → IsReady h core → block < blocks_now core.history → stripe_now core.history block < length core.inside
stripe-within h core block ready within =
    let known : HasOpened core.history = has-opened core.history ready.ongoing in
    let o = known.opening in
    let stripe : stripe_now core.history block ≡ stripe_of (blocks_at o) o.stripes block = at-known 0 (λ o. stripe_of (blocks_at o) o.stripes block) core.history o known.is in
    let stripes : at_opening 0 (λ o. o.stripes) core.history ≡ o.stripes = at-known 0 (λ o. o.stripes) core.history o known.is in
    let here : block < blocks_at o = subst (λ blocks. block < blocks) (at-known 0 blocks_at core.history o known.is) within in
    let some : 1 ≤ o.stripes = let s = ready.some in let e = ready.sized in omega arith in
    subst (λ s. s < length core.inside) (sym stripe) (subst (λ n. stripe_of (blocks_at o) o.stripes block < n) (sym (ready.sized ∙ stripes)) (below (blocks_at o) o.stripes here some))
  where
    below : (blocks stripes : ℕ) → block < blocks → 1 ≤ stripes → stripe_of blocks stripes block < stripes
    below blocks stripes here some =
        let enough = (div_ceil_times blocks stripes some).0 in
        let size : 0 < stripe_blocks blocks stripes = positive (stripe_blocks blocks stripes) (omega arith) in
        (div-lt_iff_lt-mul {k = stripe_blocks blocks stripes} {x = block} {y = stripes} size).1 (turned (stripe_blocks blocks stripes) (omega arith))
      where
        positive : (size : ℕ) → blocks ≤ size * stripes → 0 < size
        positive zero enough = absurd (omega arith)
        positive (suc size) enough = omega arith

        turned : (size : ℕ) → block < size * stripes → block < stripes * size
        turned size less = subst (λ n. block < n) (mul_comm size stripes) less
