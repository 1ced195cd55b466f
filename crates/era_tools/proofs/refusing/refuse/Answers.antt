use Rattle.era_tools.proofs.refusing.refuse.Goals as goal

-- one device
pub returns-in-SameDevice-clause-printed : goal.returns-in-SameDevice-clause-printed
returns-in-SameDevice-clause-printed g c = rw c.in-SameDevice.is c.print.ensures.printed

-- an origin that is too small
pub returns-in-OriginSmall-clause-printed : goal.returns-in-OriginSmall-clause-printed
returns-in-OriginSmall-clause-printed g c = rw c.in-OriginSmall.is c.print_numbers.ensures.printed

-- no snapshot
pub returns-in-NoSnap-clause-printed : goal.returns-in-NoSnap-clause-printed
returns-in-NoSnap-clause-printed g c = rw c.in-NoSnap.is c.print-in-NoSnap.ensures.printed

-- an origin that failed
pub returns-in-DataFault-clause-printed : goal.returns-in-DataFault-clause-printed
returns-in-DataFault-clause-printed g c = rw c.in-DataFault.is c.print_number-in-DataFault.ensures.printed

-- memory that was refused
pub returns-in-NoRoom-clause-printed : goal.returns-in-NoRoom-clause-printed
returns-in-NoRoom-clause-printed g c = rw c.in-NoRoom.is c.print-in-NoRoom.ensures.printed
