use Rattle.std.proofs.Common.{◌≡◌, ℕ, false, length, replicate, sym, ◌∙◌, ap, subst}
use Rattle.std.specs.List.{AllByRecursion}
use Rattle.era_model.specs.Marks.{rolled}
use Rattle.era_meta.proofs.Switched.{switched-parts, switched-rolled}
use Rattle.era_meta.proofs.live_marks.LiveMarks.roll.Goals as goal

pub invariant_of-self : goal.invariant_of-self
invariant_of-self c =
    let inside = c.self.inside in
    let valid = c.self.invariant.valid in
    let flags : length c.take_set-set.result ≡ length inside.current = c.take_set-set.ensures.size ∙ (valid.array_size ∙ sym valid.current_size) in
    let filled : c.replace-ended.new.dest ≡ replicate (length inside.current) false
    = c.replace-ended.ensures.after ∙ (c.clear.ensures ∙ ap (λ (n : ℕ). replicate n false) flags) in
    rw (c.push_reserved.ensures, c.new.ensures, c.replace-ended.ensures.value, filled)
    (switched-parts _ c.take_set-set.new.spare c.take_set-set.new.array c.take_set-set.new.archive
    (c.switch_keeps_last_eras.ensures _ valid) c.take_set-set.ensures.room
    (subst (λ (n : ℕ). AllByRecursion (λ set. length set.blocks ≡ n) c.take_set-set.new.spare) valid.array_size c.take_set-set.ensures.spares)
    c.take_set-set.ensures.sets)

pub returns : goal.returns
returns c =
    let inside = c.self.inside in
    let valid = c.self.invariant.valid in
    let flags : length c.take_set-set.result ≡ length inside.current = c.take_set-set.ensures.size ∙ (valid.array_size ∙ sym valid.current_size) in
    let filled : c.replace-ended.new.dest ≡ replicate (length inside.current) false
    = c.replace-ended.ensures.after ∙ (c.clear.ensures ∙ ap (λ (n : ℕ). replicate n false) flags) in
    rw (c.push_reserved.ensures, c.new.ensures, c.replace-ended.ensures.value, filled)
    (switched-rolled _ c.take_set-set.new.array c.take_set-set.new.archive c.take_set-set.ensures.room ∙ ap rolled c.self.view_is)
