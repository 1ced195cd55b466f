use Rattle.std.proofs.Common.{◌≡◌, All, false, length, replicate, vec_len, ◌∙◌, ap, subst, arith}
use Rattle.era_base.specs.Geometry.{blocks_of}
use Rattle.era_model.specs.Marks.{rolled}
use Rattle.era_marks.proofs.SetLists.{switched-parts, switched-rolled}
use Rattle.era_marks.proofs.session_marks.SessionMarks.roll.Goals as goal

pub invariant_of-self : goal.invariant_of-self
invariant_of-self c =
    let inside = c.self.inside in
    let valid = c.self.invariant.valid in
    let blocks : vec_len inside.array ≡ blocks_of inside.geometry.sectors inside.geometry.block_sectors = omega (arith, inside.array.ok.0, valid.array_size) in
    let flags : vec_len c.into_blocks-set.result ≡ length inside.current.items =
    omega (arith, c.into_blocks-set.result.ok.0, ap length c.into_blocks-set.ensures, c.take_set.ensures.size, blocks, valid.current_size) in
    let filled : c.replace-ended.new.dest.items ≡ replicate (length inside.current.items) false =
    ap (λ v. v.items) c.replace-ended.ensures.after ∙ c.fill.ensures.items (λ y same. same) ∙ ap (λ n. replicate n false) flags in
    rw (c.push_reserved.ensures.capacity, c.take_set.ensures.capacity, c.push_reserved.ensures.items, c.new.ensures, c.replace-ended.ensures.value, filled)
    (switched-parts _ inside.spare.items c.take_set.new.spare.items _ c.take_set.new.array.items c.take_set.new.archive.items c.self.invariant
    (c.switch_keeps_last_eras.ensures _ valid) c.take_set.ensures.room
    (subst (λ n. All (λ set. length set.blocks ≡ n) c.take_set.new.spare.items) blocks c.take_set.ensures.spares)
    (omega (arith, c.take_set.ensures.sets, c.take_set.new.archive.ok.0, c.take_set.new.spare.ok.0)))

pub returns-clause-value : goal.returns-clause-value
returns-clause-value c =
    let inside = c.self.inside in
    let valid = c.self.invariant.valid in
    let blocks : vec_len inside.array ≡ blocks_of inside.geometry.sectors inside.geometry.block_sectors = omega (arith, inside.array.ok.0, valid.array_size) in
    let flags : vec_len c.into_blocks-set.result ≡ length inside.current.items =
    omega (arith, c.into_blocks-set.result.ok.0, ap length c.into_blocks-set.ensures, c.take_set.ensures.size, blocks, valid.current_size) in
    let filled : c.replace-ended.new.dest.items ≡ replicate (length inside.current.items) false =
    ap (λ v. v.items) c.replace-ended.ensures.after ∙ c.fill.ensures.items (λ y same. same) ∙ ap (λ n. replicate n false) flags in
    rw (c.push_reserved.ensures.items, c.new.ensures, c.replace-ended.ensures.value, filled)
    (switched-rolled _ c.take_set.new.array.items c.take_set.new.archive.items c.take_set.ensures.room ∙ ap rolled c.self.view_is)
