use Rattle.std.proofs.Common.{◌≡◌, ℕ, ◌≤◌, length, sym, ap, ◌∙◌, subst, arith}
use Rattle.std.specs.List.{AllByRecursion}
use Rattle.std.proofs.lemmas.List.{length-drop}
use Rattle.era_base.specs.Flags.{has}
use Rattle.era_base.specs.Runs.{ListExactly}
use Rattle.era_base.specs.Geometry.{blocks_of}
use Rattle.era_base.specs.declared.limits.TheConstants.{MOST_SETS}
use Rattle.era_model.specs.MarkRuns.{SetEndsWithin}
use Rattle.era_model.specs.Marks.{ArchivedSet, BlockMarks}
use Rattle.era_model.specs.Validity.{AreValidMarks}
use Rattle.era_meta.specs.AsRuns.{TellEntries, TellSets}
use Rattle.era_meta.proofs.AreasNumbered.{all_drop}
use Rattle.era_meta.proofs.MarkRunsTold.{marks-told}
use Rattle.era_meta.proofs.TakenRuns.{length-sets_of_runs, tell-length}
use Rattle.era_meta.proofs.live_marks.LiveMarks.of_runs.Goals as goal

pub take_sets-requires-clause-enough : goal.take_sets-requires-clause-enough
take_sets-requires-clause-enough c =
    let blocks = blocks_of c.marks.inside.geometry.sectors c.marks.inside.geometry.block_sectors in
    let few : length c.as_slice-3.result.now ≤ MOST_SETS
    = let one = ap length c.as_slice-3.ensures in let two = length-sets_of_runs blocks c.marks.inside.archive in
    let three = ap (λ (m : BlockMarks). length m.archive) c.marks.view_is in let most = c.requires.few_sets in omega arith in
    let none = ap (λ (m : BlockMarks). length m.archive) (c.live.view_is ∙ c.in_ok-live.ensures) in let total = c.live.invariant.sets in
    (omega arith, few)

-- the marks are those of the runs
same : (c : goal.After-take_sets) → (record {
  sectors = c.live.inside.geometry.sectors;
  block_sectors = c.live.inside.geometry.block_sectors;
  era = c.marks.inside.era;
  array = c.take_era_runs.new.array;
  archive = c.take_sets.new.archive;
  current = c.take_set_runs.new.set;
}) ≡ c.args.marks.now
same c =
    let g = c.marks.inside.geometry in let blocks = blocks_of g.sectors g.block_sectors in
    let view = c.live.view_is ∙ c.in_ok-live.ensures in
    let sectors : c.live.inside.geometry.sectors ≡ g.sectors = ap (λ (m : BlockMarks). m.sectors) view in
    let block_sectors : c.live.inside.geometry.block_sectors ≡ g.block_sectors = ap (λ (m : BlockMarks). m.block_sectors) view in
    let geometry : blocks_of c.live.inside.geometry.sectors c.live.inside.geometry.block_sectors ≡ blocks
    = ap (λ (n : ℕ). blocks_of n c.live.inside.geometry.block_sectors) sectors ∙ ap (blocks_of g.sectors) block_sectors in
    let size : length c.take_era_runs.new.array ≡ blocks = c.take_era_runs.ensures.size ∙ c.live.invariant.valid.array_size ∙ geometry in
    let size' : length c.take_set_runs.new.set ≡ blocks = c.take_set_runs.ensures.size ∙ c.live.invariant.valid.current_size ∙ geometry in
    let entries : TellEntries c.marks.inside.array (length c.take_era_runs.new.array) c.take_era_runs.new.array
    = subst (λ (n : ℕ). TellEntries c.marks.inside.array n c.take_era_runs.new.array) (sym c.take_era_runs.ensures.size)
    (subst (λ runs. TellEntries runs (length c.live.inside.array) c.take_era_runs.new.array) c.as_slice.ensures.value c.take_era_runs.ensures.told) in
    let sizes : AllByRecursion (λ set. length set.blocks ≡ blocks) c.take_sets.new.archive
    = subst (λ (n : ℕ). AllByRecursion (λ (set : ArchivedSet). length set.blocks ≡ n) c.take_sets.new.archive) c.blocks-blocks.ensures.value c.take_sets.ensures.sizes in
    let sets : TellSets c.marks.inside.archive blocks c.take_sets.new.archive
    = subst (λ (n : ℕ). TellSets c.marks.inside.archive n c.take_sets.new.archive) c.blocks-blocks.ensures.value
    (subst (λ told. TellSets told c.blocks-blocks.result c.take_sets.new.archive) c.as_slice-3.ensures c.take_sets.ensures.told) in
    rw (sectors, block_sectors) (sym (marks-told g c.marks.inside.era c.take_era_runs.new.array c.take_sets.new.archive c.take_set_runs.new.set
    c.marks.inside.array c.marks.inside.archive c.marks.inside.current size size' entries sizes sets
    (record {
      within = subst (λ (n : ℕ). SetEndsWithin n c.marks.inside.current) (sym size') c.marks.invariant.current_within;
      exact = subst (λ runs. ListExactly runs (has c.take_set_runs.new.set)) c.as_slice-2.ensures.value c.take_set_runs.ensures.told;
    })) ∙ c.marks.view_is)

pub invariant_of-live : goal.invariant_of-live
invariant_of-live c =
    let counts = tell-length c.as_slice-3.result.now c.blocks-blocks.result c.take_sets.new.archive c.take_sets.ensures.told in
    let rest = ap length c.take_sets.ensures.spare ∙ length-drop (length c.as_slice-3.result.now) c.live.inside.spare in
    let none = ap (λ (m : BlockMarks). length m.archive) (c.live.view_is ∙ c.in_ok-live.ensures) in let total = c.live.invariant.sets in
    let blocks = blocks_of c.live.inside.geometry.sectors c.live.inside.geometry.block_sectors in
    let few : length c.as_slice-3.result.now ≤ MOST_SETS
    = let one = ap (λ (m : BlockMarks). length m.archive) (same c) in let most = c.requires.few_sets in omega arith in
    record {
      valid = subst AreValidMarks (sym (same c)) c.requires;
      sizes = subst (AllByRecursion (λ (set : ArchivedSet). length set.blocks ≡ blocks)) (sym c.take_sets.ensures.spare)
          (all_drop (λ (set : ArchivedSet). length set.blocks ≡ blocks) (length c.as_slice-3.result.now) c.live.inside.spare c.live.invariant.sizes);
      sets = omega arith;
    }

pub returns : goal.returns
returns c = same c
