-- Lines of five words and more have no form.
use Rattle.std.proofs.Common.{◌≡◌, ◌≢◌, ℕ, ◌≤◌, List, [], ◌∷◌, length, refl}
use Rattle.std.proofs.lemmas.Bool.{le-ltb}
use Rattle.era_line.specs.Words.{words_of}
use Rattle.era_line.proofs.WordSteps.{words_of-some}
use Rattle.era_plan.specs.Forms.{line_says, words_say}
use Rattle.era_plan.specs.declared.says.Says.TheVariants.{Nothing}
use Rattle.era_plan.specs.declared.round.LineKind.TheVariants.{Unknown}

-- words behind the fourth one
beyond-four : (one two three four : List ℕ) (words : List (List ℕ)) → words ≢ [] → Nothing Unknown ≡ words_say (one ∷ two ∷ three ∷ four ∷ words)
beyond-four one two three four [] some = absurd (some refl)
beyond-four one two three four (word ∷ words) some = refl

-- a line whose words are four and then those of a rest
pub five-words : (line one two three four rest : List ℕ) → length line ≤ 131200
    → words_of line ≡ one ∷ two ∷ three ∷ four ∷ words_of rest → Nothing Unknown ≡ line_says line
five-words line one two three four rest short words =
    rw (le-ltb 131200 (length line) short, words) (beyond-four one two three four (words_of rest) (words_of-some rest))
