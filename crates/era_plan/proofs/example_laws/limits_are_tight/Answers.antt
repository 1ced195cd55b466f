use Rattle.std.proofs.Common.{refl}
use Rattle.std.specs.Prelude.{nat_le}
use Rattle.std.proofs.Math.Bool.{or-true}
use Rattle.std.specs.Fmt.{digits}
use Rattle.era_plan.proofs.example_laws.limits_are_tight.Goals as goal

pub returns-clause-commands : goal.returns-clause-commands
unfolding digits
returns-clause-commands c = λ at lines full. rw full refl

pub returns-clause-session : goal.returns-clause-session
unfolding digits
returns-clause-session c = λ at lines none little full. rw (none, little, full, or-true (nat_le 131072 at.lines)) refl

pub returns-clause-last : goal.returns-clause-last
unfolding digits
returns-clause-last c = λ at lines full. rw full refl

pub returns-clause-unknown : goal.returns-clause-unknown
unfolding digits
returns-clause-unknown c = λ at lines full. rw full refl

pub returns-clause-within : goal.returns-clause-within
unfolding digits
returns-clause-within c = λ at lines full. rw full refl
