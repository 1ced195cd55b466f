use Rattle.era_tools.proofs.refusing.refuse_geometry.Goals as goal

-- a block size that is none
pub returns-in-BadBlockSize-clause-printed : goal.returns-in-BadBlockSize-clause-printed
returns-in-BadBlockSize-clause-printed g c = rw c.in-BadBlockSize.is c.print_number.ensures.printed

-- no block
pub returns-in-NoBlocks-clause-printed : goal.returns-in-NoBlocks-clause-printed
returns-in-NoBlocks-clause-printed g c = rw c.in-NoBlocks.is c.print.ensures.printed

-- too many blocks
pub returns-in-TooManyBlocks-clause-printed : goal.returns-in-TooManyBlocks-clause-printed
returns-in-TooManyBlocks-clause-printed g c = rw c.in-TooManyBlocks.is c.print_number-in-TooManyBlocks.ensures.printed
