use Rattle.era_promise.proofs.Refusals.{disordered-moments, begun-late}
use Rattle.era_promise.proofs.example_laws.empty_windows_are_refused.Goals as goal

pub returns-clause-moments : goal.returns-clause-moments
returns-clause-moments c = disordered-moments

pub returns-clause-begun : goal.returns-clause-begun
returns-clause-begun c = begun-late
