-- The entries that acts drew, as recursions over the acts from their first one on: all of them, a stripe's and the keeper's.
use Rattle.std.specs.Prelude.{ℕ, ◌+◌, ◌==◌, cond, List, [], ◌∷◌}
use Rattle.era_model.specs.declared.entry.Entry.{Entry}
use Rattle.era_gate.specs.Acts.{Act, stripe_drew, keeper_drew, entry}

-- All entries that acts drew, the first of them at a place.
abbrev pub drawn : ℕ → List Act → List Entry
drawn place [] = []
drawn place (stripe_drew k event ∷ acts) = entry place event ∷ drawn (place + 1) acts
drawn place (keeper_drew event ∷ acts) = entry place event ∷ drawn (place + 1) acts
drawn place (act ∷ acts) = drawn place acts

-- The entries among them that a stripe drew.
abbrev pub drawn_by_stripe : ℕ → ℕ → List Act → List Entry
drawn_by_stripe d place [] = []
drawn_by_stripe d place (stripe_drew k event ∷ acts) =
    cond (d == k) (entry place event ∷ drawn_by_stripe d (place + 1) acts) (drawn_by_stripe d (place + 1) acts)
drawn_by_stripe d place (keeper_drew event ∷ acts) = drawn_by_stripe d (place + 1) acts
drawn_by_stripe d place (act ∷ acts) = drawn_by_stripe d place acts

-- The entries among them that the keeper drew.
abbrev pub drawn_by_keeper : ℕ → List Act → List Entry
drawn_by_keeper place [] = []
drawn_by_keeper place (stripe_drew k event ∷ acts) = drawn_by_keeper (place + 1) acts
drawn_by_keeper place (keeper_drew event ∷ acts) = entry place event ∷ drawn_by_keeper (place + 1) acts
drawn_by_keeper place (act ∷ acts) = drawn_by_keeper place acts
