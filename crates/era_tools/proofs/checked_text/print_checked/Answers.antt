use Rattle.era_tools.proofs.checked_text.print_checked.Goals as goal

-- no metadata
pub returns-in-Unformatted-clause-printed : goal.returns-in-Unformatted-clause-printed
returns-in-Unformatted-clause-printed g c = rw c.in-Unformatted.is c.print.ensures.printed

-- a disk that is too small
pub returns-in-MetaSmall-clause-printed : goal.returns-in-MetaSmall-clause-printed
returns-in-MetaSmall-clause-printed g c = rw c.in-MetaSmall.is c.print_numbers-in-MetaSmall.ensures.printed

-- a disk that failed
pub returns-in-Fault-clause-printed : goal.returns-in-Fault-clause-printed
returns-in-Fault-clause-printed g c = rw c.in-Fault.is c.print_number.ensures.printed
