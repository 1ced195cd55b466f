use Rattle.std.proofs.Common.{◌∙◌}
use Rattle.era_disks.proofs.last_lines.KeptLine.whole.Goals as goal

-- all of it was kept
pub returns-else-self : goal.returns-else-self
returns-else-self c = λ line was. c.split_at.ensures.front ∙ was.whole c.if-self.false
