use Rattle.std.proofs.Common.{◌≡◌, ℕ, ◌+◌, false, [], ◌∷◌, ◌∙◌, ap, length}
use Rattle.std.proofs.lemmas.List.{length-append, length-replicate}
use Rattle.era_model.specs.Marks.{ArchivedSet}
use Rattle.era_meta.proofs.Firsts.{all_more}
use Rattle.era_meta.proofs.live_marks.spare_sets.Goals as goal

pub loop-preserved : goal.loop-preserved
loop-preserved c =
    let set = c.new-in-loop.result in
    rw c.push_reserved.ensures (
      length-append c.loop.sets (set ∷ []) ∙ ap (λ (n : ℕ). n + 1) c.loop.invariant.0,
      all_more (λ (x : ArchivedSet). length x.blocks ≡ c.args.blocks) c.loop.sets set c.loop.invariant.1
          (ap (λ (x : ArchivedSet). length x.blocks) c.new-in-loop.ensures ∙ ap length c.in_ok-new.ensures ∙ length-replicate c.args.blocks false),
    )
