-- Calls, and more calls: what holds at each of their moments, for any relation of states. A clause can't speak of all relations, so these are lemmas.
use Rattle.std.proofs.Common.{◌≡◌, ℕ, ◌≤◌, arith, sym, ◌∙◌, ap, subst, inl, inr}
use Rattle.std.proofs.lemmas.Bool.{cases_lt}
use Rattle.era_base.specs.CrashModel.{State, History, Stepped, Continues, Went, AllBetween, clock, state_at}
use Rattle.era_base.proofs.CrashImages.{stepped-clock, continues-none, continues-step, continues-join, state-now}

pub went-none : (Relates : State → State → Type 0) (history : History) → Relates history.now history.now → Went Relates history history
went-none Relates history holds = record {
  continues = continues-none history;
  moments = λ moment begun ended.
      let present : moment ≡ clock history = omega (arith, begun, ended) in
      subst (Relates history.now) (sym (ap (state_at history) present ∙ state-now history)) holds;
}

pub went-now : (Relates : State → State → Type 0) (old new : History) → Went Relates old new → Relates old.now new.now
went-now Relates old new went = subst (Relates old.now) (state-now new) (went.moments (clock new) went.continues.later (omega arith))

pub went-step : (Relates : State → State → Type 0) (old new : History) → Stepped old new → Relates old.now old.now → Relates old.now new.now → Went Relates old new
went-step Relates old new step before after =
    let ticks = stepped-clock old new step in
    let goes = continues-step old new step in
    record {
      continues = goes;
      moments = λ moment begun ended. elim (cases_lt (clock old) moment) [
        | inl late ↦
            let last : moment ≡ clock new = omega (arith, ticks, late, ended) in
            subst (Relates old.now) (sym (ap (state_at new) last ∙ state-now new)) after
        | inr early ↦
            let first : moment ≡ clock old = omega (arith, begun, early) in
            subst (Relates old.now) (sym (goes.past moment early ∙ ap (state_at old) first ∙ state-now old)) before
      ];
    }

pub went-join : (One Two Both : State → State → Type 0) (old mid new : History) → Went One old mid → Went Two mid new
    → ((state : State) → One old.now state → Both old.now state)
    → ((state : State) → One old.now mid.now → Two mid.now state → Both old.now state) → Went Both old new
went-join One Two Both old mid new one two first second = record {
  continues = continues-join old mid new one.continues two.continues;
  moments = λ moment begun ended. elim (cases_lt (clock mid) moment) [
    | inl late ↦ second (state_at new moment) (went-now One old mid one) (two.moments moment (omega (arith, late)) ended)
    | inr early ↦ subst (Both old.now) (sym (two.continues.past moment early)) (first (state_at mid moment) (one.moments moment begun early))
  ];
}

pub went-wider : (One Both : State → State → Type 0) (old new : History) → ((state : State) → One old.now state → Both old.now state)
    → Went One old new → Went Both old new
went-wider One Both old new more went = record {
  continues = went.continues;
  moments = λ moment begun ended. more (state_at new moment) (went.moments moment begun ended);
}

-- windows of moments
pub all_between-later : (Holds : State → Type 0) (old new : History) (first last : ℕ) → Continues old new → last ≤ clock old
    → AllBetween old first last Holds → AllBetween new first last Holds
all_between-later Holds old new first last goes le all moment begun ended = subst Holds (sym (goes.past moment (omega (arith, ended, le)))) (all moment begun ended)

pub all_between-joined : (Holds : State → Type 0) (history : History) (first mid last : ℕ)
    → AllBetween history first mid Holds → AllBetween history mid last Holds → AllBetween history first last Holds
all_between-joined Holds history first mid last one two moment begun ended = elim (cases_lt moment mid) [
  | inl low ↦ one moment begun (omega (arith, low))
  | inr high ↦ two moment high ended
]
