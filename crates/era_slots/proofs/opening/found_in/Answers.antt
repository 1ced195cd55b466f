use Rattle.era_slots.proofs.Reading.{is-head, found-in, has-number}
use Rattle.era_slots.proofs.opening.found_in.Goals as goal

pub returns-clause-found : goal.returns-clause-found
returns-clause-found c = λ seen one two.
    found-in seen c.head_of.result c.head_of-2.result c.judge.result
    (is-head 0 seen c.args.first.now c.head_of.result one c.head_of.ensures) (is-head 1 seen c.args.second.now c.head_of-2.result two c.head_of-2.ensures)
    c.judge.ensures

pub returns-clause-number : goal.returns-clause-number
returns-clause-number c =
    has-number c.args.first.now c.args.second.now c.head_of.result c.head_of-2.result c.judge.result c.head_of.ensures c.head_of-2.ensures c.judge.ensures
