use Rattle.era_notes.specs.Notes.{own_history}
use Rattle.era_keeper.specs.Keepers.{view_of}
use Rattle.era_keeper.proofs.Counts.{ascends-since, may-fail-unstored}
use Rattle.era_keeper.proofs.Drawn.{drew-one}
use Rattle.era_keeper.proofs.keeper.Keeper.refuse_fault.Goals as goal

pub returns-clause-stands : goal.returns-clause-stands
returns-clause-stands g c = λ opening new stands.
    let view = view_of g.D.Disk c.args.self.now in
    c.tell.ensures.stands opening
    (may-fail-unstored (own_history opening view.notes) c.args.id c.args.kind c.args.count (stands.unstored c.requires.unstored).volatile
    (ascends-since opening view.notes view.least view.faults c.args.count stands.own.legal stands.own.counts new.rose))
    (new.present, new.rose) stands

pub returns-clause-drew : goal.returns-clause-drew
returns-clause-drew g c = drew-one c.args.self.now c.tell.new.self c.args.pass.now c.tell.new.pass _ c.tell.ensures.drew.0 c.tell.ensures.drew.1
