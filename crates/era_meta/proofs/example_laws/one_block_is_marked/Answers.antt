use Rattle.era_meta.proofs.SmallPages.{marked, unmarked, other-one, past-end, too-late}
use Rattle.era_meta.proofs.example_laws.one_block_is_marked.Goals as goal

pub returns-clause-marked : goal.returns-clause-marked
returns-clause-marked c = marked

pub returns-clause-unmarked : goal.returns-clause-unmarked
returns-clause-unmarked c = unmarked

pub returns-clause-other : goal.returns-clause-other
returns-clause-other c = other-one

pub returns-clause-past_end : goal.returns-clause-past_end
returns-clause-past_end c = past-end

pub returns-clause-too_late : goal.returns-clause-too_late
returns-clause-too_late c = too-late
