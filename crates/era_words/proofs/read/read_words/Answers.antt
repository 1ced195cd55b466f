use Rattle.std.proofs.Common.{rules, ◌≡◌, [], ap, sym, ◌∙◌}
use Rattle.std.proofs.lemmas.Result.{IfOk-weaker}
use Rattle.clap.specs.Words.{fault_of, matches_of}
use Rattle.era_words.specs.Commands.{app_for}
use Rattle.era_words.specs.Words.{texts_of}
use Rattle.era_words.proofs.Named.{not_taken, asks_nothing, asks_same}
use Rattle.era_words.proofs.read.read_words.Goals as goal

-- `clap` doesn't take the words
pub returns-in_err-matches-clause-usage : goal.returns-in_err-matches-clause-usage
returns-in_err-matches-clause-usage c = λ is_usage.
    not_taken (texts_of c.args.words.now) c.in_ok-name.name c.in_ok-name.ensures.ok
    (λ taken. c.in_err-matches.ensures.usage (search rules) (ap (λ app. fault_of app (texts_of c.args.words.now)) c.in_ok-command.ensures ∙ taken))

-- the arguments ask for the job
pub returns-clause-ok : goal.returns-clause-ok
returns-clause-ok c =
    let words = texts_of c.args.words.now in
    let given = c.in_ok-matches.ensures.given ∙ ap (λ app. matches_of app words) c.in_ok-command.ensures in
    let taken : fault_of (app_for c.in_ok-name.name) words ≡ [] = sym (ap (λ app. fault_of app words) c.in_ok-command.ensures) ∙ c.in_ok-matches.ensures.taken in
    IfOk-weaker c.job_of.result _ _ (λ job asked. (c.in_ok-name.name, record { first = c.in_ok-name.ensures.ok; taken = taken; asked = asks_same c.in_ok-name.name _ _ job given asked })) c.job_of.ensures.ok

-- the arguments ask for nothing
pub returns-clause-usage : goal.returns-clause-usage
returns-clause-usage c =
    let words = texts_of c.args.words.now in
    let given = c.in_ok-matches.ensures.given ∙ ap (λ app. matches_of app words) c.in_ok-command.ensures in
    λ is_usage. asks_nothing words c.in_ok-name.name _ c.in_ok-name.ensures.ok given (c.job_of.ensures.usage is_usage)
