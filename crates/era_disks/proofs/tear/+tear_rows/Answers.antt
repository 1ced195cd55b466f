use Rattle.std.proofs.Common.{sym, ◌∙◌}
use Rattle.era_disks.proofs.States.{on_ok_then}
use Rattle.era_disks.proofs.TornRows.{torn-halves, keeps-halves, keeps_same}
use Rattle.era_disks.proofs.tear.+tear_rows.Goals as goal

pub returns-in_err-tear_rows-clause-clean : goal.returns-in_err-tear_rows-clause-clean
returns-in_err-tear_rows-clause-clean t c =
    keeps-halves c.args.pending.now c.split_at.result.0.now c.split_at.result.1.now
    c.args.rows.now c.split_at_mut-front.result.0.now c.split_at_mut-front.result.1.now c.tear_rows.new.rows c.split_at_mut-front.result.1.now
    c.split_at.ensures.by_index.0 c.split_at_mut-front.ensures.value (c.split_at_mut-front.ensures.front_len ∙ sym c.split_at.ensures.front_len)
    c.tear_rows.ensures.clean (keeps_same c.split_at.result.1.now c.split_at_mut-front.result.1.now)

pub returns-clause-torn : goal.returns-clause-torn
returns-clause-torn t c =
    on_ok_then c.tear_rows-2.result c.tear_rows-2.ensures.torn (λ back.
    torn-halves c.args.tear c.args.pending.now c.split_at.result.0.now c.split_at.result.1.now
    c.args.kept.now c.split_at_mut-old.result.0.now c.split_at_mut-old.result.1.now
    c.args.rows.now c.split_at_mut-front.result.0.now c.split_at_mut-front.result.1.now c.tear_rows.new.rows c.tear_rows-2.new.rows
    c.split_at.ensures.by_index.0 c.split_at_mut-old.ensures.value c.split_at_mut-front.ensures.value
    (c.split_at_mut-old.ensures.front_len ∙ sym c.split_at.ensures.front_len)
    (c.split_at_mut-front.ensures.front_len ∙ sym c.split_at.ensures.front_len)
    c.in_ok-tear_rows.ensures.torn back)

pub returns-clause-clean : goal.returns-clause-clean
returns-clause-clean t c =
    keeps-halves c.args.pending.now c.split_at.result.0.now c.split_at.result.1.now
    c.args.rows.now c.split_at_mut-front.result.0.now c.split_at_mut-front.result.1.now c.tear_rows.new.rows c.tear_rows-2.new.rows
    c.split_at.ensures.by_index.0 c.split_at_mut-front.ensures.value (c.split_at_mut-front.ensures.front_len ∙ sym c.split_at.ensures.front_len)
    c.tear_rows.ensures.clean c.tear_rows-2.ensures.clean
