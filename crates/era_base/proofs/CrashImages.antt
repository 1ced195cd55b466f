-- Crash images of one moment and of several.
use Rattle.std.proofs.Common.{◌≡◌, ◌⊎◌, ◌↔◌, ℕ, zero, suc, ◌+◌, ◌≤◌, ◌<◌, Bool, true, false, List, [], ◌∷◌, ◌++◌, length, slice_index_or, arith, refl, sym, ◌∙◌, ap, subst, inl, inr, length-append}
use mathlib.Core.Bool.{true≢false}
use Rattle.std.specs.Prelude.{slice_index, slice_set}
use Rattle.std.proofs.lemmas.List.{length-set, get_or-set_same, get_or-set_other, get_or_past}
use Rattle.std.proofs.lemmas.Grind.{same_number_lists}
use Rattle.std.proofs.lemmas.Bool.{cases_lt}
use Rattle.era_base.specs.CrashModel.{State, History, Stepped, Continues, IsClean, IsCrashImage, clock, state_at, is_pending}
use Rattle.era_base.specs.CrashLaws.{IsImageBetween}

-- in a state with nothing pending
pub clean-only : (state : State) → IsClean state → (image : List ℕ) → IsCrashImage state image → image ≡ state.seen
clean-only state clean image is =
    same_number_lists image state.seen is.size (λ offset below. is.kept offset (clean offset (omega (arith, below, is.size))))

not-pending : (state : State) → ((image : List ℕ) → IsCrashImage state image → image ≡ state.seen)
    → (offset : ℕ) → offset < length state.seen → (flag : Bool) → is_pending state offset ≡ flag → is_pending state offset ≡ false
not-pending state only offset below false is = is
not-pending state only offset below true is =
    let other : ℕ = slice_index state.seen offset + 1 in
    let image : List ℕ = slice_set state.seen offset other in
    let left : IsCrashImage state image = record {
      size = length-set state.seen offset other;
      kept = λ at clean. get_or-set_other state.seen offset at other 0
          (λ same. absurd (true≢false (sym is ∙ ap (is_pending state) (sym same) ∙ clean)));
    } in
    absurd (omega (arith, get_or-set_same state.seen offset other 0 below, ap (λ xs. slice_index xs offset) (only image left)))

pub only-clean : (state : State) → ((image : List ℕ) → IsCrashImage state image → image ≡ state.seen) → IsClean state
only-clean state only offset below = not-pending state only offset below (is_pending state offset) refl

pub as-it-reads : (state : State) → IsCrashImage state state.seen
as-it-reads state = record { size = refl; kept = λ offset clean. refl }

-- the states of past moments
state-kept : (past : List State) (now after : State) (moment : ℕ) → moment ≤ length past
    → slice_index_or (past ++ now ∷ []) moment after ≡ slice_index_or past moment now
state-kept [] now after zero le = refl
state-kept [] now after (suc moment) le = absurd (omega arith)
state-kept (first ∷ past) now after zero le = refl
state-kept (first ∷ past) now after (suc moment) le = state-kept past now after moment (omega arith)

pub continues-none : (history : History) → Continues history history
continues-none history = record { later = omega arith; past = λ moment le. refl }

pub stepped-clock : (old new : History) → Stepped old new → clock new ≡ clock old + 1
stepped-clock old new step = ap length step.past ∙ length-append old.past (old.now ∷ [])

pub continues-step : (old new : History) → Stepped old new → Continues old new
continues-step old new step = record {
  later = omega (arith, stepped-clock old new step);
  past = λ moment le. ap (λ past. slice_index_or past moment new.now) step.past ∙ state-kept old.past old.now new.now moment le;
}

pub continues-join : (old mid new : History) → Continues old mid → Continues mid new → Continues old new
continues-join old mid new one two = record {
  later = omega (arith, one.later, two.later);
  past = λ moment le. two.past moment (omega (arith, one.later)) ∙ one.past moment le;
}

pub state-now : (history : History) → state_at history (clock history) ≡ history.now
state-now history = get_or_past history.past (clock history) history.now (omega arith)

-- the images from one moment to another
pub images-stay : (old new : History) (first last : ℕ) (image : List ℕ) → Continues old new → last ≤ clock old
    → IsImageBetween new first last image ↔ IsImageBetween old first last image
images-stay old new first last image goes le = (
  λ is. record {
    moment = is.moment;
    begun = is.begun;
    ended = is.ended;
    left = subst (λ state. IsCrashImage state image) (goes.past is.moment (omega (arith, is.ended))) is.left;
  },
  λ is. record {
    moment = is.moment;
    begun = is.begun;
    ended = is.ended;
    left = subst (λ state. IsCrashImage state image) (sym (goes.past is.moment (omega (arith, is.ended)))) is.left;
  },
)

pub image-now : (history : History) (image : List ℕ)
    → IsImageBetween history (clock history) (clock history) image ↔ IsCrashImage history.now image
image-now history image = (
  λ is.
      let same : is.moment ≡ clock history = omega (arith, is.begun, is.ended) in
      subst (λ state. IsCrashImage state image) (ap (state_at history) same ∙ state-now history) is.left,
  λ is. record {
    moment = clock history;
    begun = omega arith;
    ended = omega arith;
    left = subst (λ state. IsCrashImage state image) (sym (state-now history)) is;
  },
)

pub images-joined : (history : History) (first mid last : ℕ) (image : List ℕ) → first ≤ mid → mid ≤ last
    → IsImageBetween history first last image ↔ (IsImageBetween history first mid image ⊎ IsImageBetween history mid last image)
images-joined history first mid last image one two = (
  λ is. elim (cases_lt is.moment mid) [
    | inl low ↦ inl (record { moment = is.moment; begun = is.begun; ended = omega arith; left = is.left })
    | inr high ↦ inr (record { moment = is.moment; begun = high; ended = is.ended; left = is.left })
  ],
  λ is. elim is [
    | inl low ↦ record { moment = low.moment; begun = low.begun; ended = omega (arith, low.ended); left = low.left }
    | inr high ↦ record { moment = high.moment; begun = omega (arith, high.begun); ended = high.ended; left = high.left }
  ],
)

pub call-adds : (old new : History) (first : ℕ) (image : List ℕ) → Stepped old new → first ≤ clock old
    → IsImageBetween new first (clock new) image ↔ (IsImageBetween old first (clock old) image ⊎ IsCrashImage new.now image)
call-adds old new first image step le =
    let ticks = stepped-clock old new step in
    let stays = images-stay old new first (clock old) image (continues-step old new step) (omega arith) in
    let present = image-now new image in (
      λ is. elim (cases_lt (clock old) is.moment) [
        | inl late ↦ inr (present.0 (record { moment = is.moment; begun = omega (arith, ticks, late); ended = is.ended; left = is.left }))
        | inr early ↦ inl (stays.0 (record { moment = is.moment; begun = is.begun; ended = early; left = is.left }))
      ],
      λ is. elim is [
        | inl was ↦
            let still = stays.1 was in
            record { moment = still.moment; begun = still.begun; ended = omega (arith, ticks, still.ended); left = still.left }
        | inr now ↦
            let is_now = present.1 now in
            record { moment = is_now.moment; begun = omega (arith, ticks, is_now.begun); ended = is_now.ended; left = is_now.left }
      ],
    )
