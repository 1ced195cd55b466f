use Rattle.std.proofs.Common.{◌≡◌, ℕ, ◌<◌, [], ◌∷◌, get_or, vec_len}
use Rattle.era_model.specs.declared.history.Happening.TheVariants.{Opened}
use Rattle.era_model.specs.History.{content}
use Rattle.era_core.proofs.following.opening_contents.Given as goal

abbrev pub invariant-loop-block : goal.invariant-loop-block
invariant-loop-block l = record {
  size : vec_len l.contents ≡ l.block;
  blocks : (block : ℕ) → block < l.block → get_or l.contents.items block [] ≡ content (Opened l.opening ∷ []) block;
}
