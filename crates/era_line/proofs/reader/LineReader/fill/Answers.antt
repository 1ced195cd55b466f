use Rattle.std.proofs.Common.{ℕ, List, ◌<◌, length, arith, sym, subst}
use Rattle.std.specs.Prelude.{slice_range}
use Rattle.std.proofs.lemmas.Bool.Decides.{nat_tests}
use Rattle.era_line.specs.Moving.{Fills}
use Rattle.era_line.proofs.Taken.{Fills-taken, written_back}
use Rattle.era_line.proofs.reader.LineReader.fill.Goals as goal
use Rattle.era_line.proofs.reader.LineReader.fill.Goals.{then-is_empty+in_ok-self-inside, else-is_empty}

pub returns-clause-told : goal.returns-clause-told
returns-clause-told g c = λ text told.
    let some : 0 < length c.if-is_empty.self-inside.buffer.items =
    elim c.if-is_empty.branch [
      | then-is_empty+in_ok-self-inside w ↦ rw w.self-inside-is (omega (arith, w.in_ok-self-inside.ensures))
      | else-is_empty w ↦ rw w.self-inside-is (grind (arith, nat_tests))
    ] in
    let buffer = c.if-is_empty.self-inside.buffer in
    let room : 0 < length c.take.new.into = omega (arith, some, c.take.auto.into) in
    let back = written_back c.take.new.into buffer.items buffer.len (omega (arith, c.take.auto.into)) (omega arith) in
    subst (λ (bytes : List ℕ). Fills text (slice_range bytes 0 c.in-Ok.count) (g.S.Source.left c.take.new.self)) (sym back)
    (Fills-taken text c.take.new.into _ c.in-Ok.count room (c.in-Ok.ensures.taken text told))
