use Rattle.era_tools.proofs.printing.print_damage.Goals as goal

-- the parts are the line
pub returns-clause-printed : goal.returns-clause-printed
returns-clause-printed g c = rw (c.as_bytes.ensures.value, c.damage_text.ensures, c.from.ensures) at c.print.ensures.printed
