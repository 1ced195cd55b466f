use Rattle.era_opening.proofs.LentBehind.{behind-back, lent-parts, opened-parts, returned-parts, split-apart}
use Rattle.era_opening.proofs.opening.open_parts.Goals as goal

-- all parts were lent
pub prepare_session-requires-clause-parts : goal.prepare_session-requires-clause-parts
prepare_session-requires-clause-parts g c κs within =
    let split = c.requires.split in
    let lent = c.in-Ok.ensures.lent in
    lent-parts g.B.D.Disk (g.B.Bay.reads c.args.bay.now) c.args.line.now.origin c.args.geometry split.0 c.args.split c.lend_parts.new.parts.items split.1 lent.1 lent.0.each_lent

pub prepare_session-requires-clause-may : goal.prepare_session-requires-clause-may
prepare_session-requires-clause-may g c κs within =
    let split = c.requires.split in
    let lent = c.in-Ok.ensures.lent in
    let parts = c.lend_parts.new.parts.items in
    behind-back g.B.D.Disk (g.B.Bay.loans c.args.bay.now) (g.B.Bay.loans c.lend_parts.new.bay) c.args.metadata parts c.requires.out lent.0.lent.loans
    (split-apart g.B.D.Disk (g.B.Bay.reads c.args.bay.now) c.args.line.now.origin c.args.geometry split.0 c.args.split c.args.metadata parts c.requires.two split.1 lent.0.each_lent)

pub returns-in-Ok-clause-opened : goal.returns-in-Ok-clause-opened
returns-in-Ok-clause-opened g c =
    let split = c.requires.split in
    let lent = c.in-Ok.ensures.lent in
    let parts = c.lend_parts.new.parts.items in
    opened-parts g.B.Bay c.args.bay.now c.lend_parts.new.bay c.prepare_session.new.bay g.B.D.Disk c.args.line.now c.args.geometry c.args.split c.args.metadata parts c.prepare_session.result
    (split-apart g.B.D.Disk (g.B.Bay.reads c.args.bay.now) c.args.line.now.origin c.args.geometry split.0 c.args.split c.args.metadata parts c.requires.two split.1 lent.0.each_lent)
    lent.0 lent.1 lent.2 c.prepare_session.ensures.prepared

-- or the bay didn't answer
pub put_back_lent-requires-clause-may : goal.put_back_lent-requires-clause-may
put_back_lent-requires-clause-may g c κs within =
    let split = c.requires.split in
    let lent = c.in-Err.ensures.lent in
    let parts = c.lend_parts.new.parts.items in
    behind-back g.B.D.Disk (g.B.Bay.loans c.args.bay.now) (g.B.Bay.loans c.lend_parts.new.bay) c.args.metadata parts c.requires.out lent.0.lent.loans
    (split-apart g.B.D.Disk (g.B.Bay.reads c.args.bay.now) c.args.line.now.origin c.args.geometry split.0 c.args.split c.args.metadata parts c.requires.two split.1 lent.0.each_lent)

pub returns-in-Err-clause-opened : goal.returns-in-Err-clause-opened
returns-in-Err-clause-opened g c =
    let split = c.requires.split in
    let lent = c.in-Err.ensures.lent in
    let parts = c.lend_parts.new.parts.items in
    returned-parts g.B.Bay c.args.bay.now c.lend_parts.new.bay c.put_back_lent.new.bay g.B.D.Disk c.args.line.now c.args.geometry c.args.split c.args.metadata parts c.in-Err.refusal
    (split-apart g.B.D.Disk (g.B.Bay.reads c.args.bay.now) c.args.line.now.origin c.args.geometry split.0 c.args.split c.args.metadata parts c.requires.two split.1 lent.0.each_lent)
    lent.0 lent.1 lent.2 c.put_back_lent.ensures.back

-- sizes stay told
pub returns-in-Ok-clause-sizes : goal.returns-in-Ok-clause-sizes
returns-in-Ok-clause-sizes g c device size told = c.prepare_session.ensures.sizes device size (c.lend_parts.ensures.sizes device size told)

pub returns-in-Err-clause-sizes : goal.returns-in-Err-clause-sizes
returns-in-Err-clause-sizes g c device size told = c.put_back_lent.ensures.sizes device size (c.lend_parts.ensures.sizes device size told)
