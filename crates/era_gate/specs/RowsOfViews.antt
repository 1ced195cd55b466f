-- Small states of a gate of two stripes with 64 blocks, which was opened in era 1: after a write was issued, and changed in one point each.
use Rattle.std.specs.Prelude.{ℕ, ◌+◌, false, List, [], ◌∷◌, ◌++◌}
use Rattle.era_model.specs.declared.event.Event.TheVariants.{Kept}
use Rattle.era_gate.specs.declared.parts.KeeperPart.{KeeperPart}
use Rattle.era_gate.specs.declared.parts.View.{View}
use Rattle.era_gate.specs.declared.plan.Plan.{Plan}
use Rattle.era_gate.specs.Acts.{entry}
use Rattle.era_gate.specs.Calls.{clears}
use Rattle.era_gate.specs.Parts.{new_keeper, new_pass}
use Rattle.era_gate.specs.Plays.{keeper_of, other_stripes, part_of}
use Rattle.era_gate.specs.RowsOfActs.{command, issued_acts}
use Rattle.era_gate.specs.States.{whole_view}

-- The gate's plan.
abbrev pub small_plan : Plan
small_plan = record { stripes = 2; blocks = 64; words = 1; era = 1 }

-- Words in era 1, by the number inside, the places drawn, and the bitmaps of even and odd eras.
abbrev pub small_words : ℕ → ℕ → ℕ → ℕ → List ℕ
small_words inside places even odd = (4294967296 + inside) ∷ places ∷ even ∷ odd ∷ []

-- The view with all parts: block 0 is marked, and stripe 0 issued a write to it.
abbrev pub issued_view : View
issued_view = whole_view small_plan issued_acts

-- Stripe 0 is outside, and still has its open write.
abbrev pub left_view : View
left_view = record issued_view {
  stripes = record (part_of issued_view) { state = record (part_of issued_view).state { inside = false } } ∷ other_stripes issued_view.stripes;
}

-- The keeper counts its spare word as cleared.
abbrev pub cleared_view : View
cleared_view = record issued_view { keepers = clears (keeper_of issued_view) 1 ∷ [] }

-- The keeper has drawn a refused switch at a place, and no exchange failed.
abbrev pub refused_keeper : KeeperPart
refused_keeper = record (keeper_of issued_view) {
  state = record (keeper_of issued_view).state { entries = (keeper_of issued_view).state.entries ++ entry 3 (Kept (command 1) 1) ∷ [] };
}

-- The state with that keeper.
abbrev pub refused_view : View
refused_view = record issued_view { keepers = refused_keeper ∷ [] }

-- The keeper has drawn nothing.
abbrev pub unmarked_view : View
unmarked_view = record issued_view { keepers = new_keeper 1 ∷ [] }

-- Stripe 0's write is of era 1, and its seat of era 2.
abbrev pub moved_view : View
moved_view = record issued_view { stripes = record (part_of issued_view) { era = 2 } ∷ other_stripes issued_view.stripes }

-- The pass knows the stay of stripe 0 as ended, which is inside.
abbrev pub ended_view : View
ended_view = record issued_view { pass = record issued_view.pass { ended = 1 ∷ [] } }

-- The pass has a floor that wasn't reached.
abbrev pub ahead_view : View
ahead_view = record issued_view { pass = record issued_view.pass { floor = 4 } }

-- The lanes lost their receipts.
abbrev pub forgetful_view : View
forgetful_view = record issued_view { pass = record issued_view.pass { lanes = new_pass.lanes } }
