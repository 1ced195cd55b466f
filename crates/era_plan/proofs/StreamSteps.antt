-- How lines go on with a round, and what commands they add to it.
use Rattle.std.proofs.Common.{◌≡◌, ℕ, ◌+◌, ◌||◌, List, [], ◌∷◌, ◌++◌, length, sym, ◌∙◌, refl, ap, subst, arith}
use Rattle.std.specs.Prelude.{Bool, true, false, nat_le}
use Rattle.std.proofs.lemmas.List.{append_assoc, append-nil}
use Rattle.era_model.specs.declared.command.Command.{Command}
use Rattle.era_plan.specs.Forms.{line_says}
use Rattle.era_plan.specs.Reading.{AreNext, IsNext}
use Rattle.era_plan.specs.Stream.{Ends, GoOn, Goes, Standing, Step, after_step, is_round_big, is_session_big, line_step, next_command, says_step, stream_from, unless, with_command, with_round_ended}
use Rattle.era_plan.specs.Taking.{IsSayable}
use Rattle.era_plan.specs.declared.round.LineKind.{LineKind}
use Rattle.era_plan.specs.declared.round.LineKind.TheVariants.{RoundBig, TooMany}
use Rattle.era_plan.specs.declared.says.Says.{Says}
use Rattle.era_plan.specs.declared.says.Says.TheVariants.{Run, Does, Nothing}
use Rattle.era_plan.proofs.Sayable.{sayable}

-- the stream of lines that go on with a round is that of the lines behind them
pub stream-GoOn : (ended rest : List (List ℕ)) (at now : Standing) → GoOn ended at now → stream_from (ended ++ rest) at ≡ stream_from rest now
stream-GoOn [] rest at now goes = ap (λ s. stream_from rest s) (sym goes)
stream-GoOn (line ∷ ended) rest at now goes =
    ap (after_step at (λ next. stream_from (ended ++ rest) next)) goes.1 ∙ stream-GoOn ended rest goes.0 now goes.2

-- one line more goes on with a round
pub GoOn-push : (ended : List (List ℕ)) (line : List ℕ) (at now next : Standing) → GoOn ended at now → line_step now line ≡ Goes next → GoOn (ended ++ line ∷ []) at next
GoOn-push [] line at now next goes step = (next, rw goes at step, refl)
GoOn-push (first ∷ ended) line at now next goes step = (goes.0, goes.1, GoOn-push ended line goes.0 now next goes.2 step)

-- a step that goes on isn't one that is refused
unless-goes : (fault : Bool) (kind : LineKind) (step : Step) (next : Standing) → unless fault kind step ≡ Goes next → step ≡ Goes next
unless-goes true kind step next is = cc
unless-goes false kind step next is = is

unless-ends : (fault : Bool) (kind : LineKind) (at next : Standing) → unless fault kind (Ends at) ≡ Goes next → ⊥
unless-ends true kind at next is = cc
unless-ends false kind at next is = cc

-- a line that goes on with a round adds a command to it
pub record AddsCommand (at next : Standing) : Type 0 where
  pub command : Command
  pub line : command.line ≡ at.lines + 1
  pub is : next ≡ with_command at command
  pub right : IsNext at.lines at.session command

adds-command : (at next : Standing) (says : Says) → IsSayable says → says_step at says ≡ Goes next → AddsCommand at next
adds-command at next Run is step = absurd (unless-ends (nat_le 131072 at.lines) TooMany (with_round_ended at) next step)
adds-command at next (Nothing kind) is step = cc
adds-command at next (Does lane task) is step =
    let command = next_command at lane task in
    let behind : Step = Goes (with_command at command) in
    let first = unless-goes (is_round_big at.round task) RoundBig
    (unless (nat_le 131072 at.lines || is_session_big at.session task) TooMany behind) next step in
    let second = unless-goes (nat_le 131072 at.lines || is_session_big at.session task) TooMany behind next first in
    record {
      command = command;
      line = refl;
      is = cc;
      right = record { later = omega arith; lane = is.0; numbered = refl; task = is.1 };
    }

-- what lines that go on with a round add to it
pub record HasGoneOn (at now : Standing) : Type 0 where
  pub more : List Command
  pub session : now.session ≡ at.session ++ more
  pub round : now.round ≡ at.round ++ more
  pub lines : now.lines ≡ at.lines + length more
  pub order : AreNext at.lines at.session more

-- a command before others
gone-before : (at next now : Standing) → AddsCommand at next → HasGoneOn next now → HasGoneOn at now
gone-before at next now adds gone =
    let c = adds.command in
    let session : next.session ≡ at.session ++ c ∷ [] = ap (λ (s : Standing). s.session) adds.is in
    let round : next.round ≡ at.round ++ c ∷ [] = ap (λ (s : Standing). s.round) adds.is in
    let lines : next.lines ≡ at.lines + 1 = ap (λ (s : Standing). s.lines) adds.is in
    record {
      more = c ∷ gone.more;
      session = gone.session ∙ ap (λ l. l ++ gone.more) session ∙ append_assoc at.session (c ∷ []) gone.more;
      round = gone.round ∙ ap (λ l. l ++ gone.more) round ∙ append_assoc at.round (c ∷ []) gone.more;
      lines = let later = gone.lines in omega arith;
      order = (
        adds.right,
        subst (λ (n : ℕ). AreNext n (at.session ++ c ∷ []) gone.more) (lines ∙ sym adds.line)
            (subst (λ (l : List Command). AreNext next.lines l gone.more) session gone.order),
      );
    }

pub GoOn-gone : (ended : List (List ℕ)) (at now : Standing) → GoOn ended at now → HasGoneOn at now
GoOn-gone [] at now goes = rw goes (record {
  more = [];
  session = sym (append-nil at.session);
  round = sym (append-nil at.round);
  lines = omega arith;
  order = tt;
})
GoOn-gone (line ∷ ended) at now goes =
    gone-before at goes.0 now (adds-command at goes.0 (line_says line) (sayable line) goes.1) (GoOn-gone ended goes.0 now goes.2)
