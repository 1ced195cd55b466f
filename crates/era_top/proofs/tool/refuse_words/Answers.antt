use Rattle.era_top.proofs.tool.refuse_words.Goals as goal

-- words that are no command
pub returns-in-NoCommand-clause-printed : goal.returns-in-NoCommand-clause-printed
returns-in-NoCommand-clause-printed g c = rw c.in-NoCommand.is c.print.ensures.printed

-- a command that isn't served yet
pub returns-in-NotYet-clause-printed : goal.returns-in-NotYet-clause-printed
returns-in-NotYet-clause-printed g c = rw c.in-NotYet.is c.print-in-NotYet.ensures.printed
