-- Which gate word and which order word views tell.
use Rattle.std.proofs.Common.{◌≡◌, ℕ, zero, suc, ◌+◌, ◌*◌, true, List, [], ◌∷◌, ◌++◌, filter, length, slice_index, refl, sym, ap, ◌∙◌, arith}
use mathlib.Core.Option.{some-injective, some-ne-none}
use Rattle.era_gate.specs.declared.parts.KeeperPart.{KeeperPart}
use Rattle.era_gate.specs.declared.parts.View.{View}
use Rattle.era_gate.specs.declared.plan.Plan.{Plan}
use Rattle.era_gate.specs.Parts.{has_keeper}
use Rattle.era_gate.specs.Rule.{Each, IsThere}
use Rattle.era_gate.specs.Invariant.{GateInvariant, all_keepers, all_stripes, gate_era, is_inside}
use Rattle.era_gate.proofs.Choices.{clash}
use Rattle.era_gate.proofs.Splitting.{both_of}

-- the keeper of a view that has one, and what is so of it
some_keeper : (P : KeeperPart → Type 0) (ks rest : List KeeperPart) → has_keeper ks ≡ true → Each P (ks ++ rest) → (k : KeeperPart) × P k
some_keeper P [] rest has all = absurd (clash has refl)
some_keeper P (k ∷ ks) rest has all = (k, all.0)

each_behind : (P : KeeperPart → Type 0) (xs ys : List KeeperPart) → Each P (xs ++ ys) → Each P ys
each_behind P [] ys all = all
each_behind P (x ∷ xs) ys all = each_behind P xs ys all.1

keeper_there : (P : KeeperPart → Type 0) (views : List View) (id : ℕ) → IsThere views id (λ view. has_keeper view.keepers) → Each P (all_keepers views) → (k : KeeperPart) × P k
keeper_there P [] id there all = absurd (some-ne-none there.0 (sym there.1))
keeper_there P (view ∷ views) zero there all =
    let same : view ≡ there.0 = some-injective view there.0 there.1 in
    some_keeper P view.keepers (all_keepers views) (ap (λ (v : View). has_keeper v.keepers) same ∙ there.2) all
keeper_there P (view ∷ views) (suc id) there all = keeper_there P views id there (each_behind P view.keepers (all_keepers views) all)

pub words_told : (plan : Plan) (words words' : List ℕ) (views : List View) → GateInvariant plan words views → GateInvariant plan words' views
    → (slice_index words 0 ≡ slice_index words' 0) × (slice_index words 1 ≡ slice_index words' 1)
words_told plan words words' views one two =
    let eras : Each (λ (k : KeeperPart). (k.state.era ≡ gate_era words) × (k.state.era ≡ gate_era words')) (all_keepers views) =
    both_of (λ (k : KeeperPart). k.state.era ≡ gate_era words) (λ (k : KeeperPart). k.state.era ≡ gate_era words') (all_keepers views) one.gate_word_counts_inside.keepers two.gate_word_counts_inside.keepers in
    let keeper = one.gate_word_counts_inside.keeper in
    let found = keeper_there (λ (k : KeeperPart). (k.state.era ≡ gate_era words) × (k.state.era ≡ gate_era words')) views keeper.0 keeper.1 eras in
    let era : gate_era words ≡ gate_era words' = sym found.1.0 ∙ found.1.1 in
    let budget = one.receipts_are_conserved.budget in
    let budget' = two.receipts_are_conserved.budget in (
      one.gate_word_counts_inside.word ∙ (ap (λ e. e * 4294967296 + length (filter is_inside (all_stripes views))) era ∙ sym two.gate_word_counts_inside.word),
      omega arith,
    )
