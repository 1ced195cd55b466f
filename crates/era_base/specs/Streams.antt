-- What a call of a source takes, and what a call of a sink gives, where the object tells it.
use Rattle.std.specs.Prelude.{◌≡◌, ℕ, ◌<◌, ◌≤◌, List, ◌++◌, length, take, drop, Option, Some, Result, MatchResult}

-- So many bytes were taken: they are the first of those that were left, and the rest is left; it is none only where the buffer is empty or nothing was left.
pub record Takes (bytes : List ℕ) (after : Option (List ℕ)) (buffer : List ℕ) (count : ℕ) : Type 0 where
  pub fits : count ≤ length buffer
  pub some : 0 < length buffer → 0 < length bytes → 0 < count
  pub taken : take count buffer ≡ take count bytes
  pub enough : count ≤ length bytes
  pub rest : after ≡ Some (drop count bytes)

-- A take: at Ok it takes bytes; after a failure the bytes that are left are as before.
abbrev pub TakesFrom : {E : Type 0} → Option (List ℕ) → Option (List ℕ) → List ℕ → Result ℕ E → Type 0
TakesFrom left after buffer result =
    (bytes : List ℕ) → left ≡ Some bytes → MatchResult result (Takes bytes after buffer) (λ _. after ≡ Some bytes)

-- A front of the bytes was given after what was given before.
pub record GivesFront (before bytes : List ℕ) (after : Option (List ℕ)) : Type 0 where
  pub count : ℕ
  pub enough : count ≤ length bytes
  pub given : after ≡ Some (before ++ take count bytes)

-- A give: at Ok all the bytes stand behind what was given before; after a failure a front of them does.
abbrev pub GivesTo : {T E : Type 0} → Option (List ℕ) → Option (List ℕ) → List ℕ → Result T E → Type 0
GivesTo given after bytes result =
    (before : List ℕ) → given ≡ Some before
    → MatchResult result (λ _. after ≡ Some (before ++ bytes)) (λ _. GivesFront before bytes after)
