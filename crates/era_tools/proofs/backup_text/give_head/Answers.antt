use Rattle.era_tools.proofs.backup_text.give_head.Goals as goal

-- the parts are the line
pub returns-clause-added : goal.returns-clause-added
returns-clause-added g c = rw (c.from.ensures, c.from-2.ensures, c.from-3.ensures) at c.give_parts.ensures.added
