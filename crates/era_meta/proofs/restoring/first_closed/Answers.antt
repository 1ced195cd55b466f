use Rattle.std.proofs.Common.{◌≡◌, true, false, sym, ◌∙◌, subst, rules, arith}
use Rattle.std.proofs.lemmas.Bool.{false≢true}
use Rattle.era_meta.specs.Meaning.{IsRootBody}
use Rattle.era_meta.proofs.ClosedFirst.{body-at, older-heads, second-older}
use Rattle.era_meta.proofs.restoring.first_closed.Goals as goal

pub returns-then-not-is_older-clause-closed : goal.returns-then-not-is_older-clause-closed
returns-then-not-is_older-clause-closed c = λ seen zero one.
    let laws = c.slot_is_read_from_its_block.ensures in
    let no : c.is_older.result ≡ false = search rules in record {
      two = omega arith;
      second = (
        λ is. absurd (omega (arith, is)),
        λ older. absurd (false≢true (sym no ∙ c.is_older.ensures.1
            (older-heads laws.gate laws.number seen c.args.zero.now c.args.one.now _ _ zero one c.head_of.ensures c.head_of-2.ensures older))),
      );
    }

pub returns-then-not-is_root-clause-closed : goal.returns-then-not-is_root-clause-closed
returns-then-not-is_root-clause-closed c = λ seen zero one.
    let laws = c.slot_is_read_from_its_block.ensures in
    let no : c.is_root.result ≡ false = search rules in record {
      two = omega arith;
      second = (
        λ is. absurd (omega (arith, is)),
        λ older. absurd (false≢true (sym no ∙ c.is_root.ensures.1 (subst IsRootBody (sym (body-at laws.body 0 seen c.args.zero.now c.requires.0 zero)) older.own))),
      );
    }

pub returns-then-not-is_root-2-clause-closed : goal.returns-then-not-is_root-2-clause-closed
returns-then-not-is_root-2-clause-closed c = λ seen zero one.
    let laws = c.slot_is_read_from_its_block.ensures in
    let no : c.is_root-2.result ≡ false = search rules in record {
      two = omega arith;
      second = (
        λ is. absurd (omega (arith, is)),
        λ older. absurd (false≢true (sym no ∙ c.is_root-2.ensures.1 (subst IsRootBody (sym (body-at laws.body 1 seen c.args.one.now c.requires.1 one)) older.beside))),
      );
    }

pub returns-clause-closed : goal.returns-clause-closed
returns-clause-closed c = λ seen zero one.
    let laws = c.slot_is_read_from_its_block.ensures in
    let older : c.is_older.result ≡ true = search rules in
    let own : c.is_root.result ≡ true = search rules in
    let beside : c.is_root-2.result ≡ true = search rules in
    let is = second-older laws.gate laws.number laws.body seen c.args.zero.now c.args.one.now _ _ c.requires.0 c.requires.1 zero one c.head_of.ensures c.head_of-2.ensures
    (c.is_older.ensures.0 older) (c.is_root.ensures.0 own) (c.is_root-2.ensures.0 beside) in record {
      two = omega arith;
      second = (λ one_is. is, λ holds. omega arith);
    }
