use Rattle.std.proofs.Common.{◌∙◌, ap}
use Rattle.era_disks.proofs.fuse.begin_write.Goals as goal

pub returns-in-Some-clause-passed : goal.returns-in-Some-clause-passed
returns-in-Some-clause-passed c =
    rw c.in-Some.is (record {
      fuse = c.has_burnt.ensures.same.0 ∙ c.begin_write.ensures.same;
      here = λ at. c.has_burnt.ensures.same.1 ∙ c.begin_write.ensures.here at;
      elsewhere = λ apart. c.has_burnt.ensures.same.1 ∙ ap (λ end. end.writes) (c.begin_write.ensures.elsewhere apart);
      burns = λ write. c.has_burnt.ensures.stays (c.begin_write.ensures.burns write);
      burnt = λ was. c.has_burnt.ensures.stays (c.begin_write.ensures.stays was);
    })
