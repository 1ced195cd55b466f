-- Places of entries: how they ascend, and what a draw tells of the place that it took.
use Rattle.std.specs.Prelude.{ℕ, ◌+◌, ◌<◌, ◌≤◌, ◌^◌, List, [], ◌∷◌, All}
use Rattle.era_model.specs.declared.entry.Entry.{Entry}

-- Places ascend, the first of them at least this one.
abbrev pub AscendFrom : ℕ → List Entry → Type 0
AscendFrom place [] = Unit {0}
AscendFrom place (entry ∷ entries) = (place ≤ entry.place) × AscendFrom (entry.place + 1) entries

-- A place that was drawn: at least the pass's floor, below 2^60, and above each place among the seat's entries before; the places of the seat's entries ascend.
pub record IsNextPlace (place least : ℕ) (before after : List Entry) : Type 0 where
  pub floor : least ≤ place
  pub limit : place < 2 ^ 60
  pub above : All (λ (e : Entry). e.place < place) before
  pub ascend : AscendFrom 0 after
