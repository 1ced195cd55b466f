use Rattle.era_tools.proofs.refusing_text.refuse_line.Goals as goal

-- the parts are the line
pub returns-clause-printed : goal.returns-clause-printed
returns-clause-printed g c = rw (c.from.ensures, c.as_bytes.ensures.value, c.dump_kind_text.ensures) at c.print.ensures.printed
