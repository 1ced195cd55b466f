use Rattle.std.proofs.Common.{◌≡◌}
use Rattle.std.specs.Prelude.{true}
use Rattle.era_text.specs.FirstLine.{is_behind, last_of}
use Rattle.era_text.proofs.PushedRuns.{stands-behind}
use Rattle.era_text.proofs.reading.Reading.take_era_run.Goals as goal

-- the run stands behind the others
pub push-requires-clause-behind : goal.push-requires-clause-behind
push-requires-clause-behind c =
    let behind : is_behind (last_of c.args.self.now.array) c.args.first c.args.era ≡ true =
    cc (c.as_slice.ensures.value, c.last_era_run.ensures, c.is_behind_run.ensures, c.if-not-is_behind_run.false) in
    stands-behind c.args.self.now.array c.args.first c.args.last c.args.era c.as_slice.ensures.runs behind
