use Rattle.std.proofs.Common.{ℕ, ◌≡◌, Bool, drop}
use Rattle.std.specs.Prelude.{◌==◌, reverse}
use Rattle.era_model.specs.History.{stripe_now}
use Rattle.era_model.specs.Writes.{some_block}
use Rattle.era_core.proofs.flights.is_stripe_writing.Given as goal

abbrev pub invariant-loop-write : goal.invariant-loop-write
invariant-loop-write l =
    let test : ℕ → Bool = λ block. stripe_now (reverse l.h) block == l.stripe in
    some_block l.writes test ≡ some_block (drop l.write-index l.writes) test
