use Rattle.std.proofs.Common.{◌≡◌, ℕ, length, refl, sym, subst, arith}
use Rattle.std.specs.List.{AllByRecursion}
use Rattle.era_layout.specs.Root.{fields_of}
use Rattle.era_meta.specs.Meaning.{pages_in}
use Rattle.era_meta.proofs.PutSets.{sets-length}
use Rattle.era_meta.proofs.ReadMarks.{marks_of_parts, read-valid}
use Rattle.era_meta.proofs.marks_reading.read_marks.Goals as goal

pub spare_sets-requires : goal.spare_sets-requires
spare_sets-requires g c =
    let size = sets-length c.in-Ok-read_pages.archive c.args.root.now.archive c.in-Ok-read_pages.ensures.read.eras in
    omega (arith, c.len.ensures, c.requires.valid.count)

pub invariant_of-result : goal.invariant_of-result
invariant_of-result g c = record {
  valid = read-valid g.D.Disk.tells (g.D.Disk.history c.args.slots.now.disk).now (fields_of c.args.root.now) c.read_pages.new.array c.read_pages.new.current
      c.in-Ok-read_pages.archive c.requires.valid c.in-Ok-read_pages.ensures.read;
  sizes = subst (λ (n : ℕ). AllByRecursion (λ set. length set.blocks ≡ n) c.in-Ok-spare_sets.spare) c.blocks-blocks.ensures.value c.in-Ok-spare_sets.ensures.1;
  sets = omega (arith, c.len.ensures, c.in-Ok-spare_sets.ensures.0);
}

pub returns-clause-says : goal.returns-clause-says
returns-clause-says g c = λ told.
    let root = fields_of c.args.root.now in
    let are = c.in-Ok-read_pages.ensures.read in
    sym (c.pages_say_marks.ensures.marks (pages_in (g.D.Disk.history c.args.slots.now.disk).now.seen) root
    (marks_of_parts root c.read_pages.new.array c.read_pages.new.current c.in-Ok-read_pages.archive) c.requires.valid
    (read-valid g.D.Disk.tells (g.D.Disk.history c.args.slots.now.disk).now root c.read_pages.new.array c.read_pages.new.current c.in-Ok-read_pages.archive
    c.requires.valid are)
    (record { sectors = refl; block_sectors = refl; era = refl; archive = are.eras }) (are.says told))
