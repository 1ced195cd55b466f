use Rattle.era_meta.proofs.OneRefusal.{refused-once, refused-or-hold}
use Rattle.era_meta.proofs.opening_laws.one_refusal_is_first.Goals as goal

pub returns-clause-one : goal.returns-clause-one
returns-clause-one c = refused-once c.root_is_read_back.ensures.none c.root_is_read_back.ensures.held

pub returns-clause-none : goal.returns-clause-none
returns-clause-none c = refused-or-hold c.root_is_read_back.ensures.none c.root_is_read_back.ensures.held
