use Rattle.era_reply.proofs.answers.give_refusal.Goals as goal

pub returns-in-DataFault-clause-added : goal.returns-in-DataFault-clause-added
returns-in-DataFault-clause-added g c = rw c.in-DataFault.is c.give_numbered.ensures.added

pub returns-in-MetaFault-clause-added : goal.returns-in-MetaFault-clause-added
returns-in-MetaFault-clause-added g c = rw c.in-MetaFault.is c.give_numbered-in-MetaFault.ensures.added
