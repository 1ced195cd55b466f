use Rattle.std.proofs.Common.{◌≤◌, ◌∷◌, [], ◌++◌, length, take, ap, sym, ◌∙◌, arith}
use Rattle.std.proofs.lemmas.Bool.{false≢true}
use Rattle.std.proofs.lemmas.List.{take_more_set, length-take-le}
use Rattle.era_disks.proofs.TextEnds.{longer-still}
use Rattle.era_disks.proofs.last_lines.KeptLine.push.Goals as goal

-- there was room for the byte
pub returns-then-self-lt-MOST_KEPT : goal.returns-then-self-lt-MOST_KEPT
returns-then-self-lt-MOST_KEPT c = λ line was.
    let old = c.args.self.now in
    record {
      whole = λ uncut.
          take_more_set old.bytes old.count c.args.byte (omega (arith, old.sized, c.if-self-lt-MOST_KEPT.true))
          ∙ ap (λ front. front ++ c.args.byte ∷ []) (was.whole uncut);
      longer = λ cut. absurd (omega (arith, old.full cut, c.if-self-lt-MOST_KEPT.true));
    }

-- there was none
pub returns-else-self-lt-MOST_KEPT : goal.returns-else-self-lt-MOST_KEPT
returns-else-self-lt-MOST_KEPT c = λ line was.
    let old = c.args.self.now in
    let filled : 64 ≤ length (take old.count old.bytes) = omega (arith, length-take-le old.count old.bytes (omega (arith, old.sized, old.within)), c.if-self-lt-MOST_KEPT.false) in
    record {
      whole = λ uncut. absurd (false≢true (sym uncut));
      longer = λ cut. longer-still old.cut line (take old.count old.bytes) c.args.byte was.whole filled was.longer;
    }
