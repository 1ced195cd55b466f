use Rattle.era_tools.proofs.refusing.refuse_metadata.Goals as goal

-- a disk that is too small
pub returns-in-MetaSmall-clause-printed : goal.returns-in-MetaSmall-clause-printed
returns-in-MetaSmall-clause-printed g c = rw c.in-MetaSmall.is c.print_numbers.ensures.printed

-- a disk that failed
pub returns-in-Fault-clause-printed : goal.returns-in-Fault-clause-printed
returns-in-Fault-clause-printed g c = rw c.in-Fault.is c.print_number.ensures.printed

-- a disk without metadata
pub returns-in-Unformatted-clause-printed : goal.returns-in-Unformatted-clause-printed
returns-in-Unformatted-clause-printed g c = rw c.in-Unformatted.is c.print.ensures.printed

-- a damage
pub returns-in-Damaged-clause-printed : goal.returns-in-Damaged-clause-printed
returns-in-Damaged-clause-printed g c = rw c.in-Damaged.is c.print_damage.ensures.printed

-- another geometry
pub returns-in-WrongGeometry-clause-printed : goal.returns-in-WrongGeometry-clause-printed
returns-in-WrongGeometry-clause-printed g c = rw c.in-WrongGeometry.is c.refuse_other.ensures.printed

-- no era is left
pub returns-in-EraEnd-clause-printed : goal.returns-in-EraEnd-clause-printed
returns-in-EraEnd-clause-printed g c = rw c.in-EraEnd.is c.print-in-EraEnd.ensures.printed

-- no number is left
pub returns-in-SequenceEnd-clause-printed : goal.returns-in-SequenceEnd-clause-printed
returns-in-SequenceEnd-clause-printed g c = rw c.in-SequenceEnd.is c.print_number-in-SequenceEnd.ensures.printed
