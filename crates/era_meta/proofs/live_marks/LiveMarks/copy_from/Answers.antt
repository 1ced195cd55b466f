use Rattle.std.proofs.Common.{◌≡◌, ℕ, length, sym, ap, ◌∙◌, subst}
use Rattle.std.specs.List.{AllByRecursion}
use Rattle.era_base.specs.Geometry.{blocks_of}
use Rattle.era_model.specs.Marks.{ArchivedSet, BlockMarks}
use Rattle.era_meta.proofs.CopiedSets.{all-put, copied-marks, copied-parts, released-sizes}
use Rattle.era_meta.proofs.MarkRunsTold.{sizes-of}
use Rattle.era_meta.proofs.live_marks.LiveMarks.copy_from.Goals as goal

pub copy_sets-requires-clause-sizes : goal.copy_sets-requires-clause-sizes
copy_sets-requires-clause-sizes c =
    let own = c.self.inside in let other = c.other.inside in
    let one : own.geometry.sectors ≡ other.geometry.sectors
    = ap (λ (m : BlockMarks). m.sectors) c.self.view_is ∙ c.requires.0 ∙ sym (ap (λ (m : BlockMarks). m.sectors) c.other.view_is) in
    let two : own.geometry.block_sectors ≡ other.geometry.block_sectors
    = ap (λ (m : BlockMarks). m.block_sectors) c.self.view_is ∙ c.requires.1 ∙ sym (ap (λ (m : BlockMarks). m.block_sectors) c.other.view_is) in
    let same : blocks_of own.geometry.sectors own.geometry.block_sectors ≡ blocks_of other.geometry.sectors other.geometry.block_sectors
    = ap (λ (n : ℕ). blocks_of n own.geometry.block_sectors) one ∙ ap (λ (n : ℕ). blocks_of other.geometry.sectors n) two in
    let blocks = blocks_of own.geometry.sectors own.geometry.block_sectors in
    let theirs = subst (λ (n : ℕ). AllByRecursion (λ (set : ArchivedSet). length set.blocks ≡ n) other.archive) (sym same)
    (sizes-of (blocks_of other.geometry.sectors other.geometry.block_sectors) 0 other.era other.archive c.other.invariant.valid.archive) in
    let free = released-sizes blocks own.spare own.archive c.release_sets.new.spare c.release_sets.ensures.spare c.self.invariant.sizes
    (sizes-of blocks 0 own.era own.archive c.self.invariant.valid.archive) in
    (blocks, rw c.as_slice-2.ensures theirs, free.0)

pub invariant_of-self : goal.invariant_of-self
invariant_of-self c =
    let own = c.self.inside in let other = c.other.inside in
    let one : own.geometry.sectors ≡ other.geometry.sectors
    = ap (λ (m : BlockMarks). m.sectors) c.self.view_is ∙ c.requires.0 ∙ sym (ap (λ (m : BlockMarks). m.sectors) c.other.view_is) in
    let two : own.geometry.block_sectors ≡ other.geometry.block_sectors
    = ap (λ (m : BlockMarks). m.block_sectors) c.self.view_is ∙ c.requires.1 ∙ sym (ap (λ (m : BlockMarks). m.block_sectors) c.other.view_is) in
    let same : blocks_of own.geometry.sectors own.geometry.block_sectors ≡ blocks_of other.geometry.sectors other.geometry.block_sectors
    = ap (λ (n : ℕ). blocks_of n own.geometry.block_sectors) one ∙ ap (λ (n : ℕ). blocks_of other.geometry.sectors n) two in
    let mine = c.self.invariant.valid in let theirs = c.other.invariant.valid in
    let array : c.put_entries.new.self ≡ other.array
    = all-put own.array c.put_entries.new.self other.array (mine.array_size ∙ same ∙ sym theirs.array_size) c.put_entries.ensures.size
    (rw c.as_slice.ensures at c.put_entries.ensures.put) in
    let current : c.refill.new.set ≡ other.current = c.refill.ensures other.current (theirs.current_size ∙ sym same ∙ sym mine.current_size) c.words.ensures.bits in
    let archive : c.copy_sets.new.archive ≡ other.archive = c.copy_sets.ensures.archive ∙ c.as_slice-2.ensures in
    let m : BlockMarks = record { sectors = own.geometry.sectors; block_sectors = own.geometry.block_sectors; era = own.era; array = own.array; archive = own.archive; current = own.current } in
    let n : BlockMarks = record { sectors = other.geometry.sectors; block_sectors = other.geometry.block_sectors; era = other.era; array = other.array; archive = other.archive; current = other.current } in
    let whole = copied-marks m n c.put_entries.new.self c.copy_sets.new.archive c.refill.new.set one two array archive current in
    copied-parts m n _ own.spare other.spare c.release_sets.new.spare c.copy_sets.new.spare one two c.self.invariant c.other.invariant whole c.release_sets.ensures.spare
    (rw c.as_slice-2.ensures at c.copy_sets.ensures.spare)

pub returns : goal.returns
returns c =
    let own = c.self.inside in let other = c.other.inside in
    let one : own.geometry.sectors ≡ other.geometry.sectors
    = ap (λ (m : BlockMarks). m.sectors) c.self.view_is ∙ c.requires.0 ∙ sym (ap (λ (m : BlockMarks). m.sectors) c.other.view_is) in
    let two : own.geometry.block_sectors ≡ other.geometry.block_sectors
    = ap (λ (m : BlockMarks). m.block_sectors) c.self.view_is ∙ c.requires.1 ∙ sym (ap (λ (m : BlockMarks). m.block_sectors) c.other.view_is) in
    let same : blocks_of own.geometry.sectors own.geometry.block_sectors ≡ blocks_of other.geometry.sectors other.geometry.block_sectors
    = ap (λ (n : ℕ). blocks_of n own.geometry.block_sectors) one ∙ ap (λ (n : ℕ). blocks_of other.geometry.sectors n) two in
    let mine = c.self.invariant.valid in let theirs = c.other.invariant.valid in
    let array : c.put_entries.new.self ≡ other.array
    = all-put own.array c.put_entries.new.self other.array (mine.array_size ∙ same ∙ sym theirs.array_size) c.put_entries.ensures.size
    (rw c.as_slice.ensures at c.put_entries.ensures.put) in
    let current : c.refill.new.set ≡ other.current = c.refill.ensures other.current (theirs.current_size ∙ sym same ∙ sym mine.current_size) c.words.ensures.bits in
    let archive : c.copy_sets.new.archive ≡ other.archive = c.copy_sets.ensures.archive ∙ c.as_slice-2.ensures in
    let m : BlockMarks = record { sectors = own.geometry.sectors; block_sectors = own.geometry.block_sectors; era = own.era; array = own.array; archive = own.archive; current = own.current } in
    let n : BlockMarks = record { sectors = other.geometry.sectors; block_sectors = other.geometry.block_sectors; era = other.era; array = other.array; archive = other.archive; current = other.current } in
    let whole = copied-marks m n c.put_entries.new.self c.copy_sets.new.archive c.refill.new.set one two array archive current in
    whole ∙ c.other.view_is
