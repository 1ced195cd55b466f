-- How the lines of a round are read, one after the other, and what they make of it.
use Rattle.std.proofs.Common.{◌≡◌, ℕ, ◌+◌, ◌<◌, List, [], ◌∷◌, ◌++◌, length, Option, sym, ◌∙◌, refl, ap, subst, arith}
use Rattle.std.proofs.lemmas.List.{append_assoc}
use Rattle.era_line.specs.Lines.{lines_of}
use Rattle.era_line.specs.Reading.{IsAhead, LeavesRest, ReadsLine}
use Rattle.era_model.specs.declared.command.Command.{Command}
use Rattle.era_plan.specs.Reading.{HasCounted, HasGivenRound, IsBetween, IsRound, behind_round}
use Rattle.era_plan.specs.Stream.{GoOn, Standing, after_step, line_step, stream_from}
use Rattle.era_plan.specs.Taking.{GoesOn, IsReading, StandsIn}
use Rattle.era_plan.specs.declared.counts.Counts.{Counts}
use Rattle.era_plan.specs.declared.gathering.Gathering.{Gathering}
use Rattle.era_plan.proofs.StreamSteps.{GoOn-gone, GoOn-push, stream-GoOn}

-- no line of the round was read yet
pub reading-start : (at : Standing) (taken : List ℕ) (left : Option (List ℕ)) (counts : Counts) (round : Gathering)
    → IsBetween counts at → round.commands ≡ [] → IsReading at taken left taken left counts round
reading-start at taken left counts round between none = record {
  ended = [];
  now = at;
  goes = refl;
  stands = record { read = between.read; counted = between.counted; gathered = none ∙ sym between.between };
  behind = λ text ahead. record { next = text; ahead = ahead; split = refl };
}

-- the lines of a text behind those that have ended, with the next one
split-line : (text : List ℕ) (ended : List (List ℕ)) (line : List ℕ) (next rest : List ℕ) → lines_of text ≡ ended ++ lines_of next
    → lines_of next ≡ line ∷ lines_of rest → lines_of text ≡ (ended ++ line ∷ []) ++ lines_of rest
split-line text ended line next rest split first =
    split ∙ ap (λ l. ended ++ l) first ∙ sym (append_assoc ended (line ∷ []) (lines_of rest))

-- a line more goes on with the round
pub reading-line : (at : Standing) (taken taken' taken'' : List ℕ) (left left' left'' : Option (List ℕ)) (counts counts' : Counts) (round round' : Gathering) (line : List ℕ)
    (reading : IsReading at taken left taken' left' counts round)
    → ((text : List ℕ) → IsAhead taken' left' text → ReadsLine text line taken'' left'')
    → GoesOn (line_step reading.now line) counts' round'
    → IsReading at taken left taken'' left'' counts' round'
reading-line at taken taken' taken'' left left' left'' counts counts' round round' line reading reads goes = record {
  ended = reading.ended ++ line ∷ [];
  now = goes.next;
  goes = GoOn-push reading.ended line at reading.now goes.next reading.goes goes.is;
  stands = goes.stands;
  behind = λ text ahead.
      let here = reading.behind text ahead in
      let read = reads here.next here.ahead in
      record {
        next = read.rest;
        ahead = read.ahead;
        split = split-line text reading.ended line here.next read.rest here.split read.first;
      };
}

-- the stream of a text, from a line behind those that have ended
pub stream-behind : (at now : Standing) (text : List ℕ) (ended : List (List ℕ)) (line : List ℕ) (after : List (List ℕ)) → GoOn ended at now
    → lines_of text ≡ ended ++ line ∷ after → stream_from (lines_of text) at ≡ after_step now (λ next. stream_from after next) (line_step now line)
stream-behind at now text ended line after goes split =
    ap (λ l. stream_from l at) split ∙ stream-GoOn ended (line ∷ after) at now goes

-- what has gone on of a round that began empty is the round
pub record IsMade (at now : Standing) (commands : List Command) : Type 0 where
  pub session : now.session ≡ at.session ++ commands
  pub round : IsRound at commands
  pub lines : now.lines ≡ at.lines + length commands

pub made : (at now : Standing) (ended : List (List ℕ)) (round : Gathering) → GoOn ended at now → at.round ≡ [] → round.commands ≡ now.round → IsMade at now round.commands
made at now ended round goes empty gathered =
    let gone = GoOn-gone ended at now goes in
    let more : round.commands ≡ gone.more = gathered ∙ gone.round ∙ ap (λ l. l ++ gone.more) empty in
    record {
      session = gone.session ∙ ap (λ l. at.session ++ l) (sym more);
      round = record {
        order = rw more gone.order;
        count = round.few;
        payload = let little = round.little in let counted = round.counted in omega arith;
      };
      lines = gone.lines ∙ ap (λ l. at.lines + length l) (sym more);
    }

-- counts of a session are within its limits
pub between : (counts : Counts) (at : Standing) → counts.lines ≡ at.lines → HasCounted counts at.session → at.round ≡ [] → IsBetween counts at
between counts at read counted empty =
    let lines = counts.few_lines in
    let commands = counts.few_commands in
    let payload = counts.little_payload in
    record {
      read = read;
      counted = counted;
      between = empty;
      limits = record { lines = omega arith; commands = omega (arith, counted.commands); payload = omega (arith, counted.payload) };
    }

-- a round was given
pub given : (at now : Standing) (commands : List Command) (counts : Counts) → IsMade at now commands → HasCounted counts now.session → at.lines < counts.lines
    → HasGivenRound at commands counts
given at now commands counts is counted later = record {
  is = is.round;
  stands = between counts (behind_round at commands counts.lines) refl (subst (λ l. HasCounted counts l) is.session counted) refl;
  later = later;
}

-- the reading stands where it stood
pub reading-with : (at : Standing) (taken taken' : List ℕ) (left left' : Option (List ℕ)) (counts counts' : Counts) (round round' : Gathering)
    (reading : IsReading at taken left taken' left' counts round) → StandsIn counts' round' reading.now → IsReading at taken left taken' left' counts' round'
reading-with at taken taken' left left' counts counts' round round' reading stands =
    record { ended = reading.ended; now = reading.now; goes = reading.goes; stands = stands; behind = reading.behind }

-- a rest of a rest
pub leaves-more : (before now now' : Option (List ℕ)) → LeavesRest before now → LeavesRest now now' → LeavesRest before now'
leaves-more before now now' one more = λ bytes told.
    let first = one bytes told in
    let second = more first.rest first.told in
    record {
      front = first.front ++ second.front;
      rest = second.rest;
      told = second.told;
      joined = append_assoc first.front second.front second.rest ∙ ap (λ l. first.front ++ l) second.joined ∙ first.joined;
    }
