-- The words begin with the name of one command at most, and are no other command.
use Rattle.std.proofs.Common.{◌≡◌, List, [], ◌∷◌, ap, sym, ◌∙◌, subst, refl}
use Rattle.std.specs.Prelude.{Option, Some, None, if◌then◌else◌}
use Rattle.std.specs.Str.{bytes_eq}
use Rattle.clap.specs.Words.{Row, Text, fault_of, matches_of}
use Rattle.era_words.specs.declared.command_name.CommandName.{CommandName}
use Rattle.era_words.specs.declared.command_name.CommandName.TheVariants.{Serve, Load, Need, Invalidate, Check}
use Rattle.era_words.specs.declared.command_name.CommandName.TheVariants.{Dump, Restore, Backup, Apply}
use Rattle.era_words.specs.declared.job.Job.{Job}
use Rattle.era_words.specs.Commands.{app_for}
use Rattle.era_words.specs.Jobs.{AskFor, AskForNothing}
use Rattle.era_words.specs.Names.{word_of}
use Rattle.era_words.specs.Words.{BeginWith, IsNoJob}

-- the command of this name
named_by : Text → Option CommandName
named_by word =
    if bytes_eq word (word_of Serve) then Some Serve
    else (if bytes_eq word (word_of Load) then Some Load
    else (if bytes_eq word (word_of Need) then Some Need
    else (if bytes_eq word (word_of Invalidate) then Some Invalidate
    else (if bytes_eq word (word_of Check) then Some Check
    else (if bytes_eq word (word_of Dump) then Some Dump
    else (if bytes_eq word (word_of Restore) then Some Restore
    else (if bytes_eq word (word_of Backup) then Some Backup
    else (if bytes_eq word (word_of Apply) then Some Apply
    else None))))))))

-- a command's name is found
named : (name : CommandName) → named_by (word_of name) ≡ Some name
unfolding named_by
named Serve = refl
named Load = refl
named Need = refl
named Invalidate = refl
named Check = refl
named Dump = refl
named Restore = refl
named Backup = refl
named Apply = refl

-- two commands of the same name are the same
one_word : (a b : CommandName) → word_of a ≡ word_of b → a ≡ b
one_word a b e =
    let both : Some a ≡ Some b = sym (named a) ∙ ap named_by e ∙ named b in
    cc

-- words begin with one word
one_first : (words : List Text) (a b : Text) → BeginWith words a → BeginWith words b → a ≡ b
one_first [] a b first other = absurd first
one_first (word ∷ rest) a b first other = sym first ∙ other

-- words that `clap` doesn't take for the command that they name are no command
pub not_taken : (words : List Text) (name : CommandName) → BeginWith words (word_of name) → (fault_of (app_for name) words ≡ [] → ⊥) → IsNoJob words
not_taken words name first fails job (other, is) =
    let same = one_word other name (one_first words (word_of other) (word_of name) is.first first) in
    fails (subst (λ n. fault_of (app_for n) words ≡ []) same is.taken)

-- words whose arguments ask for nothing are no command
pub asks_nothing : (words : List Text) (name : CommandName) (rows : List Row) → BeginWith words (word_of name) → rows ≡ matches_of (app_for name) words
    → AskForNothing name rows → IsNoJob words
asks_nothing words name rows first given nothing job (other, is) =
    let same = one_word other name (one_first words (word_of other) (word_of name) is.first first) in
    let asked = subst (λ n. AskFor n (matches_of (app_for n) words) job) same is.asked in
    nothing job (subst (λ r. AskFor name r job) (sym given) asked)

-- what the same values ask for is the same
pub asks_same : (name : CommandName) (rows rows' : List Row) (job : Job) → rows ≡ rows' → AskFor name rows job → AskFor name rows' job
asks_same name rows rows' job same asked = subst (λ r. AskFor name r job) same asked

-- words are one command at most
pub same_command : (words : List Text) (a b : CommandName) → BeginWith words (word_of a) → BeginWith words (word_of b) → a ≡ b
same_command words a b first other = one_word a b (one_first words (word_of a) (word_of b) first other)
