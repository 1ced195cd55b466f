use Rattle.std.proofs.Common.{ap}
use Rattle.era_model.specs.Marks.{written_since}
use Rattle.era_promise.proofs.SmallSession.{found-before, found-behind, write-durable, write-follows}
use Rattle.era_promise.proofs.example_laws.small_session_is_followed.Goals as goal

pub returns-clause-follow : goal.returns-clause-follow
returns-clause-follow c = write-follows c.clean_disk_has_one_image.ensures

pub returns-clause-durable : goal.returns-clause-durable
returns-clause-durable c = write-durable c.clean_disk_has_one_image.ensures

pub returns-clause-before : goal.returns-clause-before
returns-clause-before c = λ contents m found crash.
    ap (λ marks. written_since marks 1 0) (found-before c.clean_disk_has_one_image.ensures crash.image m found crash.left crash.stands)

pub returns-clause-behind : goal.returns-clause-behind
returns-clause-behind c = λ contents m found crash.
    ap (λ marks. written_since marks 1 0) (found-behind c.clean_disk_has_one_image.ensures crash.image m found crash.left crash.stands)
