-- How many metadata blocks two roots use, counted by the blocks that they reach.
use Rattle.std.specs.Prelude.{ℕ, ◌+◌, ◌==◌, ◌≤◌, not, length, Bool, List, [], ◌∷◌, ◌++◌, Option, Some, None, if◌then◌else◌}
use Rattle.std.specs.List.{count_by, list_any, AllByRecursion}
use Rattle.era_base.specs.declared.limits.TheConstants.{MOST_SETS}
use Rattle.era_layout.specs.Root.{RootFields, pages_of, IsValidRoot}

-- Whether a number is in a list.
abbrev pub has_number : List ℕ → ℕ → Bool
has_number numbers number = list_any (λ other. other == number) numbers

-- How many different numbers a list has: each counts once, where it stands last.
abbrev pub count_different : List ℕ → ℕ
count_different [] = 0
count_different (number ∷ numbers) = (if has_number numbers number then 0 else 1) + count_different numbers

-- The metadata blocks of a held root, if there is one: block 2, where it stands, and its pages.
abbrev pub held_blocks : Option RootFields → List ℕ
held_blocks None = []
held_blocks (Some held) = 2 ∷ pages_of held

-- How many metadata blocks are used: the two slots, and each block that the root or the held root reaches, once.
abbrev pub used_by : RootFields → Option RootFields → ℕ
used_by root held = 2 + count_different (held_blocks held ++ pages_of root)

-- A held root is valid, if there is one.
abbrev pub IsValidHeld : Option RootFields → Type 0
IsValidHeld None = Unit {0}
IsValidHeld (Some held) = IsValidRoot held

-- How many of these numbers another list doesn't have.
abbrev pub count_apart : List ℕ → List ℕ → ℕ
count_apart others numbers = count_by (λ number. not (has_number others number)) numbers

-- The lists of a root are no longer than those of any image, so that their pages can be counted.
pub record HasSizes (root : RootFields) : Type 0 where
  pub array : length root.array ≤ 65536
  pub current : length root.current ≤ 65536
  pub sets : AllByRecursion (λ set. length set.pages ≤ 65536) root.archive
  pub count : length root.archive ≤ MOST_SETS

-- So are those of a held root, if there is one.
abbrev pub HasHeldSizes : Option RootFields → Type 0
HasHeldSizes None = Unit {0}
HasHeldSizes (Some held) = HasSizes held
