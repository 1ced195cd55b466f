use Rattle.era_tools.proofs.refusing_text.refuse_text.Goals as goal

-- a source that failed
pub returns-in-Source-clause-printed : goal.returns-in-Source-clause-printed
returns-in-Source-clause-printed g c = rw c.in-Source.is c.print_number.ensures.printed
