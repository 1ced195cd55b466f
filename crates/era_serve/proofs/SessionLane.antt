-- All commands of a session are of its one lane, and those of its next round may be served.
use Rattle.std.proofs.Common.{◌≡◌, ℕ, zero, suc, ◌+◌, ◌*◌, ◌<◌, ◌≤◌, ◌==◌, false, List, [], ◌∷◌, ◌++◌, length, get_or, All, Some, refl, ap, ap₂, sym, ◌∙◌, subst, inl, inr, arith, append_assoc, append-nil}
use Rattle.std.specs.Prelude.{cond}
use Rattle.std.proofs.lemmas.List.{length-map}
use Rattle.std.proofs.lemmas.List.Sums.{sum_by-cons}
use Rattle.std.proofs.lemmas.Bool.Decides.{eqb_tells}
use Rattle.era_base.specs.declared.disk.Disk.{Ghosts}
use Rattle.era_base.specs.declared.ids.CmdId.{CmdId}
use Rattle.era_gate.specs.Calls.{has_gone}
use Rattle.era_gate.specs.declared.parts.PassPart.{PassPart}
use Rattle.era_model.specs.SessionRun.{is_among}
use Rattle.era_model.specs.Tasks.{IsTask}
use Rattle.era_model.specs.declared.command.Command.{Command}
use Rattle.era_plan.specs.Commands.{count_of_lane}
use Rattle.era_plan.specs.Reading.{AreNext}
use Rattle.era_serve.specs.Lanes.{IsOfLane, lane_of}
use Rattle.era_serve.specs.Replying.{MayServe}
use Rattle.era_serve.proofs.MayServe.{others}
use Rattle.era_served.specs.Served.{AreOfLane, HasServedAll, IsNew, Served, commands_of}
use Rattle.era_session.specs.Sessions.{SessionFits}
use Rattle.era_session.specs.declared.session.Session.{Session}

-- Commands are those of one lane, numbered from 0.
abbrev pub OneLane : List Command → Type 0
OneLane commands = (lane : ℕ) × (lane < 64) × AreOfLane lane 0 commands

abbrev named : ℕ → ℕ → CmdId
named lane number = record { lane = lane; number = number }

-- as many of the lane as there are
count-lane : (lane number : ℕ) (commands : List Command) → AreOfLane lane number commands → count_of_lane lane commands ≡ length commands
count-lane lane number [] are = refl
count-lane lane number (command ∷ commands) are =
    sum_by-cons (λ (c : Command). cond (c.id.lane == lane) 1 0) command commands
    ∙ ap₂ (λ a b. a + b) (ap (λ (id : CmdId). cond (id.lane == lane) 1 0) are.0 ∙ own lane) (count-lane lane (number + 1) commands are.1)
    ∙ (let e : 1 + length commands ≡ suc (length commands) = omega arith in e)
  where
    own : (lane : ℕ) → ◌≡◌ {A = ℕ} (cond (lane == lane) 1 0) 1
    own lane = elim (eqb_tells lane lane) [
      | inl same ↦ rw same.0 refl
      | inr other ↦ absurd (other.1 refl)
    ]

lane-append : (lane number : ℕ) (first second : List Command) → AreOfLane lane number first → AreOfLane lane (number + length first) second → AreOfLane lane number (first ++ second)
lane-append lane number [] second one other = subst (λ n. AreOfLane lane n second) (let e : number + 0 ≡ number = omega arith in e) other
lane-append lane number (command ∷ first) second one other = (
  one.0,
  lane-append lane (number + 1) first second one.1
      (subst (λ n. AreOfLane lane n second) (let e : number + suc (length first) ≡ number + 1 + length first = omega arith in e) other),
)

lane-rest : (lane number : ℕ) (first second : List Command) → AreOfLane lane number (first ++ second) → AreOfLane lane (number + length first) second
lane-rest lane number [] second are = subst (λ n. AreOfLane lane n second) (let e : number ≡ number + 0 = omega arith in e) are
lane-rest lane number (command ∷ first) second are =
    subst (λ n. AreOfLane lane n second) (let e : number + 1 + length first ≡ number + suc (length first) = omega arith in e) (lane-rest lane (number + 1) first second are.1)

some-same : (a b : ℕ) → Some a ≡ Some b → b ≡ a
some-same a b is = cc

tail-of : (lane : ℕ) (command : Command) (commands : List Command) → All (IsOfLane (Some lane)) (command ∷ commands) → All (IsOfLane (Some lane)) commands
tail-of lane command commands all = λ k d less. all (suc k) d (omega (arith, less))

-- the next commands of the lane
next-lane : (lane lines : ℕ) (before round : List Command) → AreOfLane lane 0 before → AreNext lines before round → All (IsOfLane (Some lane)) round → AreOfLane lane 0 (before ++ round)
next-lane lane lines before [] are next all = subst (AreOfLane lane 0) (sym (append-nil before)) are
next-lane lane lines before (command ∷ round) are next all =
    let own : command.id.lane ≡ lane = some-same lane command.id.lane (all 0 command (omega arith)) in
    let number : command.id.number ≡ 0 + length before = next.0.numbered ∙ ap (λ l. count_of_lane l before) own ∙ count-lane lane 0 before are ∙ (let e : length before ≡ 0 + length before = omega arith in e) in
    let named : command.id ≡ named lane (0 + length before) = ap₂ named own number in
    subst (AreOfLane lane 0) (append_assoc before (command ∷ []) round)
    (next-lane lane command.line (before ++ command ∷ []) round (lane-append lane 0 before (command ∷ []) are (named, tt)) next.1 (tail-of lane command round all))

-- the lane is that of the first command
pub one-lane : (lines : ℕ) (before round : List Command) → OneLane before → AreNext lines before round → All (IsOfLane (lane_of (before ++ round))) round → OneLane (before ++ round)
one-lane lines [] [] one next all = one
one-lane lines [] (command ∷ round) one next all = (command.id.lane, next.0.lane, next-lane command.id.lane lines [] (command ∷ round) tt next all)
one-lane lines (command ∷ before) round (lane, less, are) next all =
    let own : command.id.lane ≡ lane = ap (λ (id : CmdId). id.lane) are.0 in
    (lane, less, next-lane lane lines (command ∷ before) round are next (subst (λ l. All (IsOfLane (Some l)) round) own all))

tasks-more : (command : Command) (round : List Command) → IsTask command.task → All (λ (one : Command). IsTask one.task) round → (k : ℕ) (d : Command) → k < length (command ∷ round) → IsTask (get_or (command ∷ round) k d).task
tasks-more command round own all zero d less = own
tasks-more command round own all (suc k) d less = all k d (omega (arith, less))

-- tasks of lines
pub next-tasks : (lines : ℕ) (before round : List Command) → AreNext lines before round → All (λ (command : Command). IsTask command.task) round
next-tasks lines before [] next = λ k d less. absurd (omega (arith, less))
next-tasks lines before (command ∷ round) next = tasks-more command round next.0.task (next-tasks command.line (before ++ command ∷ []) round next.1)

-- a later number is none of them
none-later : (lane first number : ℕ) (commands : List Command) → AreOfLane lane first commands → first + length commands ≤ number → is_among (named lane number) commands ≡ false
none-later lane first number [] are after = refl
none-later lane first number (command ∷ commands) are after =
    rw are.0 (rw (others lane first number (omega (arith, after))) (none-later lane (first + 1) number commands are.1 (omega (arith, after))))

-- Of a session that began with nothing drawn: other commands have issued nothing, and each one drew little.
pub record Laws {D : Type 0} (disk : Ghosts D) : Type 0 where
  pub gone : (served : List Served) (first last : Session D) (id : CmdId) → IsNew first → HasServedAll disk served first last → is_among id (commands_of served) ≡ false
      → has_gone id last.pass.part.lanes ≡ false
  pub budget : (served : List Served) (first last : Session D) → HasServedAll disk served first last → first.pass.part.budget ≤ last.pass.part.budget + 24 * length served

-- the commands of the next round may be served
pub may-round : {D : Type 0} (disk : Ghosts D) → Laws disk → (first now : Session D) (served : List Served) (round : List Command) → IsNew first → HasServedAll disk served first now → SessionFits disk now
    → OneLane (commands_of served ++ round) → All (λ (command : Command). IsTask command.task) round → length (commands_of served) + length round ≤ 65536 → MayServe disk now round
may-round disk laws first now served round new all fits (lane, less, are) tasks few = record {
  fits = fits;
  lane = lane;
  lane_is = less;
  first = 0 + length (commands_of served);
  numbered = lane-rest lane 0 (commands_of served) round are;
  fresh = λ number after. laws.gone served first now (named lane number) new all (none-later lane 0 number (commands_of served) (lane-front lane 0 (commands_of served) round are) after);
  tasks = tasks;
  budget =
      let begun : first.pass.part.budget ≡ 1152921504606846976 = ap (λ (p : PassPart). p.budget) new in
      let left = laws.budget served first now all in
      let count = length-map served (λ (one : Served). one.command) in
      omega (arith, begun, left, count, few);
}
  where
    lane-front : (lane number : ℕ) (front back : List Command) → AreOfLane lane number (front ++ back) → AreOfLane lane number front
    lane-front lane number [] back are = tt
    lane-front lane number (command ∷ front) back are = (are.0, lane-front lane (number + 1) front back are.1)
