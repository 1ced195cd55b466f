use Rattle.std.proofs.Common.{◌≡◌}
use Rattle.std.specs.Prelude.{true}
use Rattle.era_text.specs.FirstLine.{is_apart, last_of}
use Rattle.era_text.proofs.PushedRuns.{ends-before}
use Rattle.era_text.proofs.reading.Reading.take_run.Goals as goal

-- the run stands behind the others
pub push-requires-clause-behind : goal.push-requires-clause-behind
push-requires-clause-behind c =
    let apart : is_apart (last_of c.args.self.now.blocks) c.args.first ≡ true =
    cc (c.as_slice.ensures.value, c.last_run.ensures, c.is_apart_from.ensures, c.if-not-is_apart_from.false) in
    ends-before c.args.self.now.blocks c.args.first c.as_slice.ensures.runs apart
