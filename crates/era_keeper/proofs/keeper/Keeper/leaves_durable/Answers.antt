use Rattle.era_keeper.proofs.keeper.Keeper.leaves_durable.Goals as goal

pub returns : goal.returns
returns g c = λ opening stands told image is.
    let found = c.crashes_now.ensures told image is in
    (found.0, found.2, (stands.back told found.0 found.1).durable)
