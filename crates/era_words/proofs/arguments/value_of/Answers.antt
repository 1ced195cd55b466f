use Rattle.std.proofs.Common.{◌≡◌, ◌∙◌}
use Rattle.std.specs.Prelude.{Option, Some, None, IfSome, IfNone, option_map}
use Rattle.std.specs.Borrow.{Bor}
use Rattle.clap.specs.Words.{Text, found_of}
use Rattle.clap.proofs.WalkLemmas.{first_value-rows}
use Rattle.era_words.proofs.arguments.value_of.Goals as goal

-- a text that is borrowed is the value
has_text : (found : Option (Bor Text)) (value : Option Text) → option_map (λ s. s.now) found ≡ value → IfSome found (λ text. value ≡ Some text.now)
has_text None value e = tt
has_text (Some text) value e = cc

-- where none is borrowed there is no value
has_none : (found : Option (Bor Text)) (value : Option Text) → option_map (λ s. s.now) found ≡ value → IfNone found ((text : Text) → value ≡ Some text → ⊥)
has_none None value e = λ text has. cc
has_none (Some text) value e = tt

pub returns : goal.returns
returns c =
    let is = c.get_str.ensures ∙ first_value-rows (found_of c.args.matches.now) c.args.id.now in
    record { some = has_text c.get_str.result _ is; none = has_none c.get_str.result _ is }
