-- How a round ends: by a line, or with the input.
use Rattle.std.proofs.Common.{◌==◌, ◌≡◌, ◌≢◌, ℕ, ◌+◌, ◌<◌, List, [], ◌∷◌, ◌++◌, length, Option, Some, None, sym, ◌∙◌, refl, ap, subst, arith}
use Rattle.std.specs.Prelude.{true, false, Result, Ok, Err, IfSome, IfNone, MatchResult}
use Rattle.std.proofs.lemmas.List.{append-nil}
use Rattle.std.proofs.lemmas.Bool.{eq-eqb, ne_eqb}
use Rattle.era_line.specs.Lines.{lines_of}
use Rattle.era_line.specs.Reading.{IsAhead, ReadsLine}
use Rattle.era_model.specs.declared.command.Command.{Command}
use Rattle.era_plan.specs.Reading.{FailsRound, GivesRound, HasCounted, HasGiven, HasGivenRound, HasNoRound, IsBetween, TellsEnd, ReadsRound, behind_round}
use Rattle.era_plan.specs.Stream.{AtEnd, GoOn, Standing, after_step, input_end, line_step, no_round, stream_from, with_round, with_round_ended}
use Rattle.era_plan.specs.Taking.{HasEnded, IsReading, StandsIn}
use Rattle.era_plan.specs.declared.counts.Counts.{Counts}
use Rattle.era_plan.specs.declared.gathering.Gathering.{Gathering}
use Rattle.era_plan.specs.declared.round.PlanError.{PlanError}
use Rattle.era_plan.specs.declared.round.Round.{Round}
use Rattle.era_plan.specs.declared.stream_reader.Lines.{Lines}
use Rattle.era_plan.proofs.StreamSteps.{stream-GoOn}
use Rattle.era_plan.proofs.ReadingSteps.{between, given, made, reading-with, stream-behind}

-- a line has ended the round
pub given-ended : (at : Standing) (taken taken' : List ℕ) (left left' : Option (List ℕ)) (counts counts' : Counts) (round round' : Gathering) (line : List ℕ)
    (reading : IsReading at taken left taken' left' counts round) → at.round ≡ [] → round'.commands ≡ reading.now.round
    → HasEnded reading.now (line_step reading.now line) counts' → HasGivenRound at round'.commands counts'
given-ended at taken taken' left left' counts counts' round round' line reading empty same ends =
    let is = made at reading.now reading.ended round' reading.goes empty same in
    let lines = is.lines in
    let read = ends.read in
    given at reading.now round'.commands counts' is ends.counted (omega arith)

-- where the reading stands behind a round that a line ended
standing-ended : (at now : Standing) (commands : List Command) (lines : ℕ) → now.session ≡ at.session ++ commands → lines ≡ now.lines + 1
    → with_round_ended now ≡ behind_round at commands lines
standing-ended at now commands lines session read = rw (session, read) refl

pub reads-ended : (at : Standing) (taken taken' : List ℕ) (left left' left'' : Option (List ℕ)) (counts : Counts) (lines : Lines) (round round' : Gathering) (line : List ℕ)
    (reading : IsReading at taken left taken' left' counts round) → at.round ≡ [] → round'.commands ≡ reading.now.round
    → ((text : List ℕ) → IsAhead taken' left' text → ReadsLine text line lines.reader left'')
    → HasEnded reading.now (line_step reading.now line) lines.counts → lines.ended ≡ false
    → (text : List ℕ) → IsAhead taken left text → ReadsRound at text round'.commands lines.counts.lines lines.ended lines.reader left''
reads-ended at taken taken' left left' left'' counts lines round round' line reading empty same reads ends going = λ text ahead.
    let here = reading.behind text ahead in
    let read = reads here.next here.ahead in
    let is = made at reading.now reading.ended round' reading.goes empty same in
    let behind = λ (next : Standing). stream_from (lines_of read.rest) next in
    record {
      rest = read.rest;
      ahead = record { ahead = read.ahead; behind_end = λ ended. absurd (let no : true ≡ false = sym ended ∙ going in cc) };
      goes =
          stream-behind at reading.now text reading.ended line (lines_of read.rest) reading.goes (here.split ∙ ap (λ l. reading.ended ++ l) read.first)
          ∙ ap (after_step reading.now behind) ends.is
          ∙ ap (λ l. with_round l (behind (with_round_ended reading.now))) (sym same)
          ∙ ap (λ next. with_round round'.commands (behind next)) (standing-ended at reading.now round'.commands lines.counts.lines is.session ends.read);
    }

-- the input has ended
stream-end : (at now : Standing) (text : List ℕ) (ended : List (List ℕ)) (next : List ℕ) → GoOn ended at now → lines_of text ≡ ended ++ lines_of next → next ≡ []
    → stream_from (lines_of text) at ≡ input_end now.round
stream-end at now text ended next goes split none =
    ap (λ l. stream_from l at) (split ∙ ap (λ l. ended ++ lines_of l) none) ∙ stream-GoOn ended [] at now goes

end-some : (commands : List Command) → (commands ≡ [] → ⊥) → input_end commands ≡ with_round commands (no_round AtEnd)
end-some [] some = absurd (some refl)
end-some (command ∷ commands) some = refl

some-length : (commands : List Command) → (commands ≡ [] → ⊥) → 0 < length commands
some-length [] some = absurd (some refl)
some-length (command ∷ commands) some = omega arith

-- the round is the last one
pub given-last : (at : Standing) (taken taken' : List ℕ) (left left' : Option (List ℕ)) (counts : Counts) (round : Gathering)
    (reading : IsReading at taken left taken' left' counts round) → at.round ≡ [] → (round.commands ≡ [] → ⊥) → HasGivenRound at round.commands counts
given-last at taken taken' left left' counts round reading empty some =
    let is = made at reading.now reading.ended round reading.goes empty reading.stands.gathered in
    let lines = is.lines in
    let read = reading.stands.read in
    let count = some-length round.commands some in
    given at reading.now round.commands counts is reading.stands.counted (omega arith)

pub reads-last : (at : Standing) (taken taken' : List ℕ) (left left' left'' : Option (List ℕ)) (lines : Lines) (round : Gathering)
    (reading : IsReading at taken left taken' left' lines.counts round) → at.round ≡ [] → (round.commands ≡ [] → ⊥)
    → ((text : List ℕ) → IsAhead taken' left' text → (text ≡ []) × IsAhead lines.reader left'' [])
    → (text : List ℕ) → IsAhead taken left text → ReadsRound at text round.commands lines.counts.lines lines.ended lines.reader left''
reads-last at taken taken' left left' left'' lines round reading empty some ends = λ text ahead.
    let here = reading.behind text ahead in
    let end = ends here.next here.ahead in
    let same = reading.stands.gathered in
    record {
      rest = [];
      ahead = record { ahead = end.1; behind_end = λ ended. refl };
      goes =
          stream-end at reading.now text reading.ended here.next reading.goes here.split end.0 ∙ ap input_end (sym same)
          ∙ end-some round.commands some;
    }

-- there is no round any more
pub given-none : (at : Standing) (taken taken' : List ℕ) (left left' : Option (List ℕ)) (counts : Counts) (round : Gathering)
    (reading : IsReading at taken left taken' left' counts round) → at.round ≡ [] → round.commands ≡ [] → IsBetween counts at
given-none at taken taken' left left' counts round reading empty none =
    let is = made at reading.now reading.ended round reading.goes empty reading.stands.gathered in
    let lines : reading.now.lines ≡ at.lines + 0 = is.lines ∙ ap (λ (l : List Command). at.lines + length l) none in
    let read = reading.stands.read in
    let session : reading.now.session ≡ at.session = is.session ∙ ap (λ l. at.session ++ l) none ∙ append-nil at.session in
    between counts at (omega arith) (subst (λ l. HasCounted counts l) session reading.stands.counted) empty

pub reads-none : (at : Standing) (taken taken' taken'' : List ℕ) (left left' left'' : Option (List ℕ)) (counts : Counts) (round : Gathering)
    (reading : IsReading at taken left taken' left' counts round) → round.commands ≡ []
    → ((text : List ℕ) → IsAhead taken' left' text → (text ≡ []) × IsAhead taken'' left'' [])
    → (text : List ℕ) → IsAhead taken left text → HasNoRound at text taken'' left''
reads-none at taken taken' taken'' left left' left'' counts round reading none ends = λ text ahead.
    let here = reading.behind text ahead in
    let end = ends here.next here.ahead in
    record {
      none =
          stream-end at reading.now text reading.ended here.next reading.goes here.split end.0
          ∙ ap input_end (sym reading.stands.gathered ∙ none);
      ahead = end.1;
    }

-- what is given at the end of the input
pub over-given : (at : Standing) (taken taken' : List ℕ) (left left' : Option (List ℕ)) (counts : Counts) (round round' : Gathering) (lines : Lines) (given : Option Round)
    (reading : IsReading at taken left taken' left' counts round) → at.round ≡ [] → StandsIn lines.counts round' reading.now
    → IfSome given (λ r. r.commands ≡ round'.commands) → IfSome given (λ r. r.commands ≢ []) → IfNone given (round'.commands ≡ [])
    → HasGiven at lines given
over-given at taken taken' left left' counts round round' lines None reading empty stands same full none =
    given-none at taken taken' left left' lines.counts round' (reading-with at taken taken' left left' counts lines.counts round round' reading stands) empty none
over-given at taken taken' left left' counts round round' lines (Some r) reading empty stands same full none =
    subst (λ commands. HasGivenRound at commands lines.counts) (sym same)
    (given-last at taken taken' left left' lines.counts round' (reading-with at taken taken' left left' counts lines.counts round round' reading stands) empty
    (λ is. full (same ∙ is)))

pub over-told : (at : Standing) (taken taken' : List ℕ) (left left' left'' : Option (List ℕ)) (counts : Counts) (round round' : Gathering) (lines : Lines) (given : Option Round)
    (reading : IsReading at taken left taken' left' counts round) → at.round ≡ [] → StandsIn lines.counts round' reading.now
    → IfSome given (λ r. r.commands ≡ round'.commands) → IfSome given (λ r. r.commands ≢ []) → IfNone given (round'.commands ≡ [])
    → ((text : List ℕ) → IsAhead taken' left' text → (text ≡ []) × IsAhead lines.reader left'' [])
    → (text : List ℕ) → IsAhead taken left text → GivesRound at text lines left'' given
over-told at taken taken' left left' left'' counts round round' lines None reading empty stands same full none ends = λ text ahead.
    reads-none at taken taken' lines.reader left left' left'' lines.counts round'
    (reading-with at taken taken' left left' counts lines.counts round round' reading stands) none ends text ahead
over-told at taken taken' left left' left'' counts round round' lines (Some r) reading empty stands same full none ends = λ text ahead.
    subst (λ commands. ReadsRound at text commands lines.counts.lines lines.ended lines.reader left'') (sym same)
    (reads-last at taken taken' left left' left'' lines round'
    (reading-with at taken taken' left left' counts lines.counts round round' reading stands) empty (λ is. full (same ∙ is)) ends text ahead)

-- a line has ended the round: it is one line more than its commands
pub tells-ended : (at : Standing) (taken taken' : List ℕ) (left left' : Option (List ℕ)) (counts : Counts) (lines : Lines) (round : Gathering) (round' : Gathering) (line : List ℕ)
    (reading : IsReading at taken left taken' left' counts round) → at.round ≡ [] → round'.commands ≡ reading.now.round
    → HasEnded reading.now (line_step reading.now line) lines.counts → lines.ended ≡ false
    → lines.ended ≡ (lines.counts.lines == at.lines + length round'.commands)
tells-ended at taken taken' left left' counts lines round round' line reading empty same ends going =
    let is = made at reading.now reading.ended round' reading.goes empty same in
    let count = is.lines in
    let read = ends.read in
    going ∙ sym (ne_eqb lines.counts.lines (at.lines + length round'.commands) (λ equal. omega (arith, equal, count, read)))

-- the input has ended it, or there is none
pub over-tells : (at : Standing) (taken taken' : List ℕ) (left left' : Option (List ℕ)) (counts : Counts) (round round' : Gathering) (lines : Lines) (given : Option Round)
    (reading : IsReading at taken left taken' left' counts round) → at.round ≡ [] → StandsIn lines.counts round' reading.now
    → IfSome given (λ r. r.commands ≡ round'.commands) → lines.ended ≡ true → TellsEnd at lines given
over-tells at taken taken' left left' counts round round' lines None reading empty stands same over = over
over-tells at taken taken' left left' counts round round' lines (Some r) reading empty stands same over =
    let is = made at reading.now reading.ended round' reading.goes empty stands.gathered in
    let count = is.lines in
    let read = stands.read in
    over ∙ sym (ap (λ (l : List Command). lines.counts.lines == at.lines + length l) same
    ∙ eq-eqb lines.counts.lines (at.lines + length round'.commands) (omega (arith, count, read)))

-- what was given is so whether or not the reader has failed
pub told-alike : (at : Standing) (text : List ℕ) (lines lines' : Lines) (left : Option (List ℕ)) (result : Result (Option Round) PlanError)
    → lines'.counts ≡ lines.counts → lines'.reader ≡ lines.reader → lines'.ended ≡ lines.ended
    → MatchResult result (GivesRound at text lines left) (FailsRound at text left)
    → MatchResult result (GivesRound at text lines' left) (FailsRound at text left)
told-alike at text lines lines' left (Ok None) counts reader ended told = rw reader told
told-alike at text lines lines' left (Ok (Some round)) counts reader ended told = rw (counts, reader, ended) told
told-alike at text lines lines' left (Err error) counts reader ended told = told
