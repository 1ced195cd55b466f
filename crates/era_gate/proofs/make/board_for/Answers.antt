use Rattle.std.proofs.Common.{arith, ℕ, List, [], sym, subst, ◌∙◌}
use Rattle.atomic_table.specs.Table.{opening}
use Rattle.era_gate.specs.Parts.{first_view}
use Rattle.era_gate.specs.Rule.{Ruled}
use Rattle.era_gate.proofs.Making.{made}
use Rattle.era_gate.proofs.make.board_for.Goals as goal

pub of_words-requires : goal.of_words-requires
of_words-requires c =
    subst (λ (ws : List ℕ). Ruled c.args.plan (opening ws [] (first_view c.args.plan))) (sym (c.as_slice.ensures.value ∙ c.in_ok-words.ensures)) (made c.args.plan c.requires (omega (arith)))
