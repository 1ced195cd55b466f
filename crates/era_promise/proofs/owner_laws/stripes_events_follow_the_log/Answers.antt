use Rattle.era_promise.proofs.StripesConditions.{Laws, cut-whole, done-whole, read-whole, settled-whole, unsettled-whole}
use Rattle.era_promise.proofs.owner_laws.stripes_events_follow_the_log.Goals as goal

laws : goal.After-own_draws_tell_of_their_blocks → Laws
laws c = record { flights = c.own_draws_tell_of_their_blocks.ensures.flights; contents = c.own_draws_tell_of_their_blocks.ensures.contents }

pub returns-clause-done : goal.returns-clause-done
returns-clause-done c = λ opening log stripe id owns may. done-whole (laws c) opening log stripe id owns may.writing

pub returns-clause-cut : goal.returns-clause-cut
returns-clause-cut c = λ opening log stripe id faults owns may rose. cut-whole (laws c) opening log stripe id faults owns may.writing rose

pub returns-clause-settled : goal.returns-clause-settled
returns-clause-settled c = settled-whole (laws c)

pub returns-clause-unsettled : goal.returns-clause-unsettled
returns-clause-unsettled c = unsettled-whole (laws c)

pub returns-clause-read : goal.returns-clause-read
returns-clause-read c = read-whole (laws c)
