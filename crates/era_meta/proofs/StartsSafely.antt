-- A start from its first call to its end: its trials by the gates, and the images of all its moments.
use Rattle.std.proofs.Common.{◌≡◌, ℕ, zero, suc, ◌<◌, ◌≤◌, true, false, Bool, List, [], ◌∷◌, ◌++◌, sym, ap, ◌∙◌, subst, arith}
use Rattle.std.specs.Prelude.{◌==◌, ◌||◌, slice_index, if◌then◌else◌}
use Rattle.std.proofs.lemmas.Bool.Decides.{nat_tests}
use Rattle.era_base.specs.CrashModel.{State, History, Went, SameBut, Continues, clock, state_at}
use Rattle.era_base.specs.Geometry.{blocks_of, need_of}
use Rattle.era_base.specs.declared.geometry.Geometry.{Geometry}
use Rattle.era_base.proofs.CrashImages.{continues-join, state-now}
use Rattle.era_base.proofs.Moments.{went-now}
use Rattle.era_slots.specs.declared.opened.SlotError.{SlotError}
use Rattle.era_slots.specs.declared.opened.SlotError.TheVariants.{Fault as SlotFault, BadSequence, SequenceTie, Memory as SlotMemory}
use Rattle.era_slots.specs.Opening.{RefusedBy}
use Rattle.era_slots.specs.Slot.{SlotIsOpen, IsActive, IsBlank}
use Rattle.era_meta.specs.Starting.{LeavesOpening, OpensSafely}
use Rattle.era_meta.specs.Trials.{Trial, Room, Calls, HoldAll, begin_trials, has_open_gate, number_trials, opened_trials, start_trials}
use Rattle.era_meta.proofs.EraBegins.{leaves-as}
use Rattle.era_meta.proofs.Looks.{seen-same}
use Rattle.era_meta.proofs.Refusals.{numbers-hold}
use Rattle.era_meta.proofs.SlotsTried.{RefusesBehind}
use Rattle.era_meta.proofs.Tried.{bad-ends, tie-ends}

first-open : (first second : ℕ) → first ≡ 1 → ◌≡◌ {A = Bool} ((first == 1) || (second == 1)) true
first-open first second opened = grind (arith, nat_tests)

second-open : (first second : ℕ) → second ≡ 1 → ◌≡◌ {A = Bool} ((first == 1) || (second == 1)) true
second-open first second opened = grind (arith, nat_tests)

none-open : (first second : ℕ) → ¬ (first ≡ 1) → ¬ (second ≡ 1) → ◌≡◌ {A = Bool} ((first == 1) || (second == 1)) false
none-open first second closed closed' = grind (arith, nat_tests)

pub open-gate : (seen : List ℕ) (slot : ℕ) → slot < 2 → SlotIsOpen slot seen → has_open_gate seen ≡ true
open-gate seen zero two opened = first-open (slice_index seen 0) (slice_index seen 4096) opened
open-gate seen (suc zero) two opened = second-open (slice_index seen 0) (slice_index seen 4096) opened
open-gate seen (suc (suc slot)) two opened = absurd (omega arith)

pub no-gate : (seen : List ℕ) → IsBlank seen → has_open_gate seen ≡ false
no-gate seen blank = none-open (slice_index seen 0) (slice_index seen 4096) blank.0 blank.1

-- the trials behind the first calls
abbrev pub start_rest : Geometry → List ℕ → List Trial
start_rest asked seen = if has_open_gate seen then number_trials ++ opened_trials seen ++ begin_trials asked else []

behind-gate : (have : ℕ) (asked : Geometry) (seen : List ℕ) (error : SlotError) → has_open_gate seen ≡ true
    → RefusesBehind have seen (number_trials ++ (opened_trials seen ++ begin_trials asked)) error → RefusesBehind have seen (start_rest asked seen) error
behind-gate have asked seen error opened refuses =
    subst (λ (flag : Bool). RefusesBehind have seen (if flag then number_trials ++ opened_trials seen ++ begin_trials asked else []) error) (sym opened) refuses

start-behind : (have : ℕ) (asked : Geometry) (now : State) (error : SlotError) → RefusedBy now error → RefusesBehind have now.seen (start_rest asked now.seen) error
start-behind have asked now (SlotFault count) refused = tt
start-behind have asked now (BadSequence slot) refused =
    let bad = refused.1 in
    behind-gate have asked now.seen (BadSequence slot) (open-gate now.seen slot bad.two bad.bad.0) (bad-ends have 0 now.seen slot (opened_trials now.seen ++ begin_trials asked) bad)
start-behind have asked now SequenceTie refused =
    behind-gate have asked now.seen SequenceTie (open-gate now.seen 0 (omega arith) refused.1.first) (tie-ends have 0 now.seen (opened_trials now.seen ++ begin_trials asked) refused.1)
start-behind have asked now SlotMemory refused = tt

pub start-refused : (have : ℕ) (asked : Geometry) (old now : State) (error : SlotError) → SameBut 0 0 old now → RefusedBy now error
    → RefusesBehind have old.seen (start_rest asked old.seen) error
start-refused have asked old now error same refused =
    subst (λ (seen : List ℕ). RefusesBehind have seen (start_rest asked seen) error) (seen-same old now same) (start-behind have asked now error refused)

abbrev pub start_front : ℕ → List Trial
start_front need = Room need ∷ Calls 3 ∷ number_trials

pub start-holds : (have need : ℕ) (old now : State) (active : ℕ) → need ≤ have → active < 2 → SameBut 0 0 old now → IsActive active now.seen → HoldAll have old.seen (start_front need)
start-holds have need old now active large two same stands =
    subst (λ (seen : List ℕ). HoldAll have seen (start_front need)) (seen-same old now same) (large, (tt, numbers-hold have now.seen active two stands))

-- where a slot is the active one, and where neither gate is open
pub trials-whole : (asked : Geometry) (old now : State) (active : ℕ) → active < 2 → SameBut 0 0 old now → IsActive active now.seen
    → start_front (need_of (blocks_of asked.sectors asked.block_sectors)) ++ (opened_trials old.seen ++ begin_trials asked) ≡ start_trials asked old.seen
trials-whole asked old now active two same stands =
    let opened : has_open_gate old.seen ≡ true = ap has_open_gate (sym (seen-same old now same)) ∙ open-gate now.seen active two stands.opened in
    ap (λ (flag : Bool). Room (need_of (blocks_of asked.sectors asked.block_sectors)) ∷ Calls 3 ∷ (if flag then number_trials ++ opened_trials old.seen ++ begin_trials asked else [])) (sym opened)

pub trials-blank : (asked : Geometry) (old now : State) → SameBut 0 0 old now → IsBlank now.seen
    → (Room (need_of (blocks_of asked.sectors asked.block_sectors)) ∷ Calls 3 ∷ []) ++ [] ≡ start_trials asked old.seen
trials-blank asked old now same blank =
    let closed : has_open_gate old.seen ≡ false = ap has_open_gate (sym (seen-same old now same)) ∙ no-gate now.seen blank in
    ap (λ (flag : Bool). Room (need_of (blocks_of asked.sectors asked.block_sectors)) ∷ Calls 3 ∷ (if flag then number_trials ++ opened_trials old.seen ++ begin_trials asked else [])) (sym closed)

-- the state of before
before-is : (old new : History) → Continues old new → state_at new (clock old) ≡ old.now
before-is old new goes = goes.past (clock old) (omega arith) ∙ state-now old

-- nothing was written
pub quiet-safely : (asked : Geometry) (old new : History) → Went (SameBut 0 0) old new → OpensSafely asked new (clock old) (clock new)
quiet-safely asked old new went = record {
  synced = clock new;
  first = went.continues.later;
  then_begun = omega arith;
  until = λ moment begun ended. subst (λ (state : State). SameBut 0 0 state (state_at new moment)) (sym (before-is old new went.continues)) (went.moments moment begun ended);
  since = λ lt. absurd (omega arith);
}

-- an opening, and what was begun behind it
pub opens-safely : (asked : Geometry) (old mid new : History) → Went (SameBut 0 0) old mid → Went (LeavesOpening asked) mid new → OpensSafely asked new (clock old) (clock new)
opens-safely asked old mid new one two =
    let is = before-is old new (continues-join old mid new one.continues two.continues) in
    record {
      synced = clock mid;
      first = one.continues.later;
      then_begun = two.continues.later;
      until = λ moment begun ended.
          subst (λ (state : State). SameBut 0 0 state (state_at new moment)) (sym is)
          (subst (λ (state : State). SameBut 0 0 old.now state) (sym (two.continues.past moment ended)) (one.moments moment begun ended));
      since = λ lt moment begun ended.
          subst (λ (state : State). LeavesOpening asked state (state_at new moment)) (sym is)
          (leaves-as asked old.now mid.now (state_at new moment) (seen-same old.now mid.now (went-now (SameBut 0 0) old mid one)) (two.moments moment begun ended));
    }
