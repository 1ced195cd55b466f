-- The states that acts come to: the one view of a gate that has all parts, and words that show the account and no bit.
use Rattle.std.specs.Prelude.{ℕ, ◌+◌, ◌*◌, List, [], ◌∷◌, replicate}
use Rattle.era_gate.specs.declared.parts.View.{View}
use Rattle.era_gate.specs.declared.plan.Plan.{Plan}
use Rattle.era_gate.specs.Acts.{Act, Account, after, count, inside_of, opened}
use Rattle.era_gate.specs.Parts.{first_view, view_after}

-- A view after acts, from an account on.
abbrev pub view_from : Account → View → List Act → View
view_from a view [] = view
view_from a view (x ∷ xs) = view_from (after a x) (view_after x a.places a.keeper.era view) xs

-- The view with all parts after the acts of a gate.
abbrev pub whole_view : Plan → List Act → View
whole_view plan acts = view_from (opened plan.era) (first_view plan) acts

-- Words that show an account, with clear bitmaps.
abbrev pub shown_words : Plan → Account → List ℕ
shown_words plan a = (a.keeper.era * 4294967296 + count plan.stripes (inside_of a)) ∷ a.places ∷ replicate (2 * plan.words) 0
