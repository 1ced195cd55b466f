use Rattle.std.proofs.Common.{◌≡◌, ℕ, zero, suc, List, [], ◌∷◌, Some, sym, subst}
use Rattle.std.specs.Prelude.{slice_get}
use Rattle.std.proofs.lemmas.Option.{same_Some}
use Rattle.era_gate.specs.Rule.{Each}
use Rattle.era_journal.proofs.owners_laws.seats_have_the_states_of_acts.Goals as goal

-- one of a list, of which each has a property
each-at : {A : Type 0} (P : A → Type 0) (xs : List A) (index : ℕ) (x : A) → Each P xs → slice_get xs index ≡ Some x → P x
each-at P [] index x each is = absurd (cc)
each-at P (y ∷ ys) zero x each is = subst P (same_Some y x is) each.0
each-at P (y ∷ ys) (suc index) x each is = each-at P ys index x each.1 is

pub returns-clause-stripes : goal.returns-clause-stripes
returns-clause-stripes c = λ plan places parts kept lanes acts index part tells is. sym (each-at _ parts index part tells.stripes is).1

pub returns-clause-keeper : goal.returns-clause-keeper
returns-clause-keeper c = λ plan places parts kept lanes acts tells. sym tells.keeper
