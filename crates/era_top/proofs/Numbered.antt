-- Commands of one lane, numbered one after the other.
use Rattle.std.proofs.Common.{◌≡◌, ℕ, ◌+◌, ◌==◌, List, [], ◌∷◌, ◌++◌, length, take, All, refl, ap, ap₂, sym, ◌∙◌, subst, length-append, zero, suc, arith}
use Rattle.std.specs.Prelude.{cond}
use Rattle.std.proofs.lemmas.List.Elements.{All-nil, All-cons}
use Rattle.std.proofs.lemmas.List.Sums.{sum_by-cons}
use Rattle.era_base.specs.declared.ids.CmdId.{CmdId}
use Rattle.era_model.specs.declared.command.Command.{Command}
use Rattle.era_model.specs.Tasks.{IsTask}
use Rattle.era_plan.specs.Commands.{count_of_lane}
use Rattle.era_plan.specs.Reading.{AreNext, HasGivenRound}
use Rattle.era_plan.specs.Stream.{Standing}
use Rattle.era_plan.specs.declared.stream_reader.Lines.{Lines}
use Rattle.era_top.specs.Runs.{lane_zero, AreNumbered, IsServedCommand}

-- numbered commands behind numbered ones
numbered-append : (number : ℕ) (first second : List Command) → AreNumbered number first → AreNumbered (number + length first) second → AreNumbered number (first ++ second)
numbered-append number [] second one other = subst (λ n. AreNumbered n second) (let e : number + 0 ≡ number = omega arith in e) other
numbered-append number (command ∷ first) second one other = (
  one.0,
  numbered-append (number + 1) first second one.1
      (subst (λ n. AreNumbered n second) (let e : number + suc (length first) ≡ number + 1 + length first = omega arith in e) other),
)

-- and so behind those of a whole session
pub numbered-behind : (first second : List Command) → AreNumbered 0 first → AreNumbered (length first) second → AreNumbered 0 (first ++ second)
numbered-behind first second one other =
    numbered-append 0 first second one (subst (λ n. AreNumbered n second) (let e : length first ≡ 0 + length first = omega arith in e) other)

-- the first of numbered commands
pub numbered-take : (count number : ℕ) (commands : List Command) → AreNumbered number commands → AreNumbered number (take count commands)
numbered-take zero number commands numbered = tt
numbered-take (suc count) number [] numbered = tt
numbered-take (suc count) number (command ∷ commands) numbered = (numbered.0, numbered-take count (number + 1) commands numbered.1)

-- Commands of which as many are of lane 0 as there are.
abbrev AllCount : List Command → Type 0
AllCount commands = count_of_lane 0 commands ≡ length commands

-- The name of a command of a lane.
abbrev named : ℕ → ℕ → CmdId
named lane number = record { lane = lane; number = number }

same-id : (id : CmdId) (number : ℕ) → id.lane ≡ 0 → id.number ≡ number → id ≡ lane_zero number
same-id id number lane same = ap₂ named lane same

-- all commands of a lane count
count-numbered : (number : ℕ) (commands : List Command) → AreNumbered number commands → AllCount commands
count-numbered number [] numbered = refl
count-numbered number (command ∷ commands) numbered =
    sum_by-cons (λ (c : Command). cond (c.id.lane == 0) 1 0) command commands
    ∙ ap₂ (λ a b. a + b) (ap (λ (id : CmdId). cond (id.lane == 0) 1 0) numbered.0) (count-numbered (number + 1) commands numbered.1)
    ∙ (let e : 1 + length commands ≡ suc (length commands) = omega arith in e)

-- commands that are served come one after the other in lane 0
next-numbered : (lines : ℕ) (session commands : List Command) → AreNumbered 0 session → AreNext lines session commands → All IsServedCommand commands → AreNumbered (length session) commands
next-numbered lines session [] before next served = tt
next-numbered lines session (command ∷ commands) before next served =
    let lane = (served 0 command (omega arith)).lane in
    let counted = next.0.numbered ∙ ap (λ n. count_of_lane n session) lane ∙ count-numbered 0 session before in
    let named = same-id command.id (length session) lane counted in
    let more = numbered-behind session (command ∷ []) before (named, tt) in (
      named,
      subst (λ n. AreNumbered n commands) (length-append session (command ∷ []))
          (next-numbered command.line (session ++ command ∷ []) commands more next.1 (λ k d kept. served (suc k) d (omega arith))),
    )

-- and so those of a round behind the others
pub numbered-next : (at : Standing) (commands round : List Command) (lines' : Lines) → at.session ≡ commands → AreNumbered 0 commands → HasGivenRound at round lines'.counts → All IsServedCommand round
    → AreNumbered (length commands) round
numbered-next at commands round lines' same numbered is_round served =
    subst (λ n. AreNumbered n round) (ap length same)
    (next-numbered at.lines at.session round (subst (AreNumbered 0) (sym same) numbered) is_round.is.order served)

-- and each of them does what a line spells
pub next-tasks : (lines : ℕ) (session commands : List Command) → AreNext lines session commands → All (λ (command : Command). IsTask command.task) commands
next-tasks lines session [] next = All-nil _
next-tasks lines session (command ∷ commands) next =
    All-cons (λ (command : Command). IsTask command.task) command commands next.0.task (next-tasks command.line (session ++ command ∷ []) commands next.1)
