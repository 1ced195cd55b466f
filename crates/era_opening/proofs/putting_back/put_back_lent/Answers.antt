use Rattle.std.proofs.Common.{◌∷◌}
use Rattle.era_opening.proofs.BackForLent.{back-apart, back-out, put-back}
use Rattle.era_tools.specs.Around.{bay_around}
use Rattle.era_opening.proofs.putting_back.put_back_lent.Goals as goal

pub put_back_devices-requires-clause-apart : goal.put_back_devices-requires-clause-apart
put_back_devices-requires-clause-apart g c κs within = back-apart g.B.D.Disk (c.args.metadata ∷ c.args.parts.items) (g.B.Bay.loans c.args.bay.now) c.requires.may

pub put_back_devices-requires-clause-out : goal.put_back_devices-requires-clause-out
put_back_devices-requires-clause-out g c κs within = back-out g.B.D.Disk (c.args.metadata ∷ c.args.parts.items) (g.B.Bay.loans c.args.bay.now) c.requires.may

pub returns-clause-back : goal.returns-clause-back
returns-clause-back g c =
    let done = c.put_back_devices.ensures in
    put-back g.B.D.Disk (bay_around g.B.Bay c.args.bay.now c.put_back_devices.new.bay) (c.args.metadata ∷ c.args.parts.items) done.loans done.content done.others done.same
