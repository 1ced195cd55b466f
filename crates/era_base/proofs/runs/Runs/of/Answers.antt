use Rattle.std.proofs.Common.{ℕ}
use Rattle.era_base.proofs.ListedRuns.{listed-start, listed-behind, listed-more, listed-end}
use Rattle.era_base.proofs.runs.Runs.of.Goals as goal

pub loop-first-init : goal.loop-first-init
loop-first-init g c = rw c.new-runs.ensures (listed-start (g.S.RunSource.has c.args.source.now))

pub push-requires : goal.push-requires
push-requires g c =
    let run : ℕ × ℕ = (c.in-Some.first, c.in-Some.last) in
    let next = c.in-Some.ensures.run in
    record { some = next.order.1; behind = listed-behind (g.S.RunSource.has c.args.source.now) c.loop-first.runs c.loop-first.from run c.loop-first.invariant next }

-- the blocks up to the run's last one are listed
pub loop-first-preserved : goal.loop-first-preserved
loop-first-preserved g c =
    let run : ℕ × ℕ = (c.in-Some.first, c.in-Some.last) in
    rw c.in_ok-push.ensures.ok (listed-more (g.S.RunSource.has c.args.source.now) c.loop-first.runs c.loop-first.from run c.loop-first.invariant c.in-Some.ensures.run)

pub returns : goal.returns
returns g c = listed-end (g.S.RunSource.has c.args.source.now) c.loop-first.runs c.loop-first.from c.loop-first.invariant c.in_default.ensures.none
