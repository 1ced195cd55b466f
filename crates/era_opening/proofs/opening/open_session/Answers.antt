use Rattle.std.proofs.Common.{sym, ◌∙◌}
use Rattle.std.proofs.lemmas.Slice.Eq.{bytes_eq-Decides}
use Rattle.era_opening.specs.Openings.{MayAsk}
use Rattle.era_opening.proofs.OpenedLent.{opened-session}
use Rattle.era_opening.proofs.opening.open_session.Goals as goal

pub returns-clause-opened : goal.returns-clause-opened
returns-clause-opened g c =
    let line = c.args.line.now in
    let has = c.in-Ok.ensures in
    let may : MayAsk line = record {
      geometry = has.1;
      two = λ same. let yes = (bytes_eq-Decides c.as_str.result.now c.as_str-2.result.now).1 (c.as_str.ensures ∙ same ∙ sym c.as_str-2.ensures) in let no = c.if-eq.ensures in absurd (cc);
    } in
    opened-session g.B.Bay c.args.bay.now c.ask_size.new.bay c.open_lent.new.bay g.B.D.Disk line c.args.stripes c.in-Ok.geometry c.split_origin-split.result c.open_lent.result
    may has.0 c.split_origin-split.ensures c.open_lent.ensures.sizes c.in_default.ensures.asked c.open_lent.ensures.opened

-- sizes stay told
pub returns-clause-sizes : goal.returns-clause-sizes
returns-clause-sizes g c device size told = c.open_lent.ensures.sizes device size (c.ask_size.ensures.sizes device size told)
