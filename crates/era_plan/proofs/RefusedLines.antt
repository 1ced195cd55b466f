-- What a line that is refused or was taken says of a text.
use Rattle.std.proofs.Common.{◌≡◌, ℕ, ◌+◌, ◌<◌, List, ◌∷◌, ◌++◌, length, Option, sym, ◌∙◌, refl, ap, subst}
use Rattle.std.specs.Prelude.{Result, Ok, Err, IfOk, IfErr}
use Rattle.std.proofs.lemmas.Bool.{lt-ltb}
use Rattle.era_line.specs.Lines.{lines_of}
use Rattle.era_line.specs.Reading.{BeginsLong, FailsInside, IsAhead, ReadsLine}
use Rattle.era_line.specs.declared.next.ReadError.{ReadError}
use Rattle.era_line.specs.declared.next.ReadError.TheVariants.{Source as SourceFailed, Memory as NoMemory}
use Rattle.era_plan.specs.Errors.{HasPlanCause, plan_error}
use Rattle.era_plan.specs.Forms.{line_says}
use Rattle.era_plan.specs.Reading.{FailsRound}
use Rattle.era_plan.specs.Stream.{GoOn, RefusedAt, Refuses, Standing, after_step, line_step, no_round, says_step, stream_from}
use Rattle.era_plan.specs.Taking.{FailsStep, IsOwn, IsReading, ReadsTo, RefusesLine, Takes, refused_line}
use Rattle.era_plan.specs.declared.counts.Counts.{Counts}
use Rattle.era_plan.specs.declared.gathering.Gathering.{Gathering}
use Rattle.era_plan.specs.declared.progress.Progress.{Progress}
use Rattle.era_plan.specs.declared.progress.Progress.TheVariants.{Goes as GoesFurther, Ends as EndsIt, Over}
use Rattle.era_plan.specs.declared.round.LineKind.{LineKind}
use Rattle.era_plan.specs.declared.round.LineKind.TheVariants.{LongLine}
use Rattle.era_plan.specs.declared.round.PlanError.{PlanError}
use Rattle.era_plan.specs.declared.round.PlanError.TheVariants.{Line, Source, Memory}
use Rattle.era_plan.specs.declared.says.Says.{Says}
use Rattle.era_plan.specs.declared.says.Says.TheVariants.{Nothing}
use Rattle.era_plan.proofs.ReadingSteps.{stream-behind}

-- a line was refused
refused-at : (at now : Standing) (text : List ℕ) (ended : List (List ℕ)) (line : List ℕ) (after : List (List ℕ)) (kind : LineKind) (number : ℕ) → GoOn ended at now
    → lines_of text ≡ ended ++ line ∷ after → line_step now line ≡ Refuses kind → number ≡ now.lines + 1
    → stream_from (lines_of text) at ≡ no_round (RefusedAt number kind)
refused-at at now text ended line after kind number goes split step is =
    stream-behind at now text ended line after goes split ∙ ap (after_step now (λ next. stream_from after next)) step
    ∙ ap (λ n. no_round (RefusedAt n kind)) (sym is)

refuses-by : (at now : Standing) (text : List ℕ) (ended : List (List ℕ)) (line : List ℕ) (after : List (List ℕ)) (left : Option (List ℕ)) (error : PlanError) → GoOn ended at now
    → lines_of text ≡ ended ++ line ∷ after → RefusesLine now (line_step now line) error → FailsRound at text left error
refuses-by at now text ended line after left (Line error) goes split why = refused-at at now text ended line after error.kind error.line goes split why.0 why.1
refuses-by at now text ended line after left (Source count) goes split why = absurd why
refuses-by at now text ended line after left Memory goes split why = tt

-- a line could not be taken
pub fails-step : (at : Standing) (taken taken' : List ℕ) (left left' left'' : Option (List ℕ)) (counts : Counts) (round : Gathering) (error : PlanError)
    (reading : IsReading at taken left taken' left' counts round)
    → ((text : List ℕ) → IsAhead taken' left' text → FailsStep reading.now text left'' error)
    → (text : List ℕ) → IsAhead taken left text → FailsRound at text left'' error
fails-step at taken taken' left left' left'' counts round (Line error) reading fails = λ text ahead.
    let here = reading.behind text ahead in
    let first = fails here.next here.ahead in
    refuses-by at reading.now text reading.ended first.line first.after left'' (Line error) reading.goes
    (here.split ∙ ap (λ l. reading.ended ++ l) first.first) first.why
fails-step at taken taken' left left' left'' counts round (Source count) reading fails = λ text ahead.
    let here = reading.behind text ahead in
    record {
      ended = reading.ended;
      now = reading.now;
      goes = reading.goes;
      next = here.next;
      split = here.split;
      inside = fails here.next here.ahead;
    }
fails-step at taken taken' left left' left'' counts round Memory reading fails = λ text ahead. tt

-- a line is too long
long-says : (line : List ℕ) → 131200 < length line → line_says line ≡ Nothing LongLine
long-says line long = rw (lt-ltb 131200 (length line) long) refl

pub step-long : (now : Standing) (text : List ℕ) (left : Option (List ℕ)) (lines : ℕ) → BeginsLong 131200 text → lines ≡ now.lines
    → FailsStep now text left (refused_line (lines + 1) LongLine)
step-long now text left lines begins read = record {
  line = begins.line;
  after = begins.after;
  first = begins.first;
  why = (ap (says_step now) (long-says begins.line begins.long), ap (λ n. n + 1) read);
}

-- what a line says was taken
pub step-reads : (text line taken : List ℕ) (left : Option (List ℕ)) (result : Result Progress PlanError) → (result ≡ Ok Over → ⊥)
    → ReadsLine text line taken left → IfOk result (λ progress. ReadsTo text line taken left progress)
step-reads text line taken left (Ok GoesFurther) some reads = reads
step-reads text line taken left (Ok EndsIt) some reads = reads
step-reads text line taken left (Ok Over) some reads = absurd (some refl)
step-reads text line taken left (Err error) some reads = tt

-- or the line is refused
refuses-first : (now : Standing) (text line : List ℕ) (after : List (List ℕ)) (left : Option (List ℕ)) (error : PlanError)
    → lines_of text ≡ line ∷ after → RefusesLine now (line_step now line) error → FailsStep now text left error
refuses-first now text line after left (Line error) first why = record { line = line; after = after; first = first; why = why }
refuses-first now text line after left (Source count) first why = absurd why
refuses-first now text line after left Memory first why = tt

pub step-fails : (now : Standing) (text line taken : List ℕ) (left : Option (List ℕ)) (says : Says) (counts : Counts) (round : Gathering)
    (result : Result Progress PlanError) → says ≡ line_says line → ReadsLine text line taken left
    → Takes now (says_step now says) counts round result → IfErr result (λ error. FailsStep now text left error)
step-fails now text line taken left says counts round (Ok progress) is reads takes = tt
step-fails now text line taken left says counts round (Err error) is reads takes =
    refuses-first now text line (lines_of reads.rest) left error reads.first (subst (λ s. RefusesLine now (says_step now s) error) is takes)

pub step-fails-read : (now : Standing) (text : List ℕ) (left : Option (List ℕ)) (error : ReadError) → FailsInside 131200 text left error
    → FailsStep now text left (plan_error error)
step-fails-read now text left (SourceFailed count) fails = fails
step-fails-read now text left NoMemory fails = tt

pub step-cause : (before after : ℕ) (result : Result Progress PlanError) → IfErr result IsOwn → after ≡ before → HasPlanCause before after result
step-cause before after (Ok progress) own kept = kept
step-cause before after (Err (Line error)) own kept = kept
step-cause before after (Err (Source count)) own kept = absurd own
step-cause before after (Err Memory) own kept = kept
