use Rattle.era_meta.proofs.AreasFree.{leave-one}
use Rattle.era_meta.proofs.AreasLie.{next-lies}
use Rattle.era_meta.proofs.page_laws.two_roots_leave_an_area.Goals as goal

pub returns-clause-free : goal.returns-clause-free
returns-clause-free c = leave-one

pub returns-clause-next : goal.returns-clause-next
returns-clause-next c = next-lies
