use Rattle.era_meta.proofs.FreshEras.{rolled-era}
use Rattle.era_meta.proofs.MetaKept.{rolled-sectors, rolled-size}
use Rattle.era_meta.proofs.opening_laws.next_era_keeps_last_eras.Goals as goal

pub returns-clause-lasts : goal.returns-clause-lasts
returns-clause-lasts c = λ before valid.
    let keeps = c.switch_keeps_last_eras.ensures before.marks valid in
    record { valid = keeps.valid; sectors = rolled-sectors before.marks; block_sectors = rolled-size before.marks; lasts = keeps.lasts }

pub returns-clause-era : goal.returns-clause-era
returns-clause-era c = λ before. rolled-era before.marks
