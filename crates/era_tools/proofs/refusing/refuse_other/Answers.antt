use Rattle.era_tools.proofs.refusing.refuse_other.Goals as goal

-- the parts are the line
pub returns-clause-printed : goal.returns-clause-printed
returns-clause-printed g c =
    rw (c.sectors.ensures, c.from.ensures, c.block_sectors.ensures, c.sectors-2.ensures, c.from-2.ensures, c.block_sectors-2.ensures) at c.print.ensures.printed
