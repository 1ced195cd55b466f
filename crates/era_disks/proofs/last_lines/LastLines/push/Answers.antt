use Rattle.std.proofs.lemmas.Bool.{ne_eqb}
use Rattle.era_disks.proofs.last_lines.LastLines.push.Goals as goal

-- the line goes on
pub returns-else-byte-eq10 : goal.returns-else-byte-eq10
returns-else-byte-eq10 c = λ end was.
    rw (ne_eqb c.args.byte 10 c.if-byte-eq10.false)
    (record { begun = c.push.ensures end.begun was.begun; last = was.last; before = was.before })
