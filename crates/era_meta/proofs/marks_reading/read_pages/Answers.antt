use Rattle.std.proofs.Common.{◌≡◌, ℕ, ◌≤◌, false, List, length, get_or, map, Ok, Err, ap, ◌∙◌, subst}
use Rattle.std.proofs.lemmas.List.{length-replicate}
use Rattle.std.specs.List.{AllByRecursion}
use Rattle.era_base.specs.CrashModel.{State}
use Rattle.era_base.proofs.Moments.{went-now}
use Rattle.era_layout.specs.declared.archive.Archived.{Archived}
use Rattle.era_layout.specs.Root.{fields_of}
use Rattle.era_meta.specs.Content.{archived_content, blocks_of_root, root_limit}
use Rattle.era_meta.specs.Damage.{array_tests, set_tests, archive_tests}
use Rattle.era_meta.specs.Meaning.{pages_in}
use Rattle.era_meta.specs.SaysMarks.{SayEntries, SayFlags, SaySets, HasSets}
use Rattle.era_meta.proofs.PutRoots.{root-parts}
use Rattle.era_meta.proofs.ReadMarks.{as-array, as-archive, as-set, first-stops, second-stops, third-ends}
use Rattle.era_meta.proofs.Walking.{walked-as, walked-value, walked-error}
use Rattle.era_meta.proofs.marks_reading.read_pages.Goals as goal

pub read_array-requires-clause-blocks : goal.read_array-requires-clause-blocks
read_array-requires-clause-blocks g c = rw c.as_slice.ensures (root-parts (fields_of c.args.root.now) (g.D.Disk.sectors c.args.slots.now.disk) c.requires.valid c.requires.room).array

pub returns-in-Err-clause-walked : goal.returns-in-Err-clause-walked
returns-in-Err-clause-walked g c =
    let root = fields_of c.args.root.now in
    let n = blocks_of_root root in
    let limit = root_limit root.archive root.era in
    first-stops g.D.Disk (array_tests n limit 0 root.array) (archive_tests n root.archive) (set_tests n 0 root.current) c.args.slots.now c.read_array.new.slots c.in-Err.finding
    (walked-as {T = Unit {0}} g.D.Disk (array_tests (length c.args.array.now) c.limit_of.result 0 c.as_slice.result.now) (array_tests n limit 0 root.array)
    c.args.slots.now c.read_array.new.slots (Err c.in-Err.finding)
    (λ told. as-array n c.args.array.now c.limit_of.result limit c.as_slice.result.now root.array c.requires.array c.limit_of.ensures c.as_slice.ensures) c.in-Err.ensures.walked)

pub read_archive-requires-clause-blocks : goal.read_archive-requires-clause-blocks
read_archive-requires-clause-blocks g c =
    rw (c.as_slice-2.ensures, c.in-Ok.ensures.walked.same.size)
    (root-parts (fields_of c.args.root.now) (g.D.Disk.sectors c.args.slots.now.disk) c.requires.valid c.requires.room).archive

pub read_archive-requires-clause-pages : goal.read_archive-requires-clause-pages
read_archive-requires-clause-pages g c = rw (c.as_slice-2.ensures, c.blocks-blocks.ensures.value) c.requires.valid.sets

pub returns-in-Err-read_archive-clause-walked : goal.returns-in-Err-read_archive-clause-walked
returns-in-Err-read_archive-clause-walked g c =
    let root = fields_of c.args.root.now in
    let n = blocks_of_root root in
    let limit = root_limit root.archive root.era in
    second-stops g.D.Disk (array_tests n limit 0 root.array) (archive_tests n root.archive) (set_tests n 0 root.current) c.args.slots.now c.read_array.new.slots c.read_archive.new.slots tt
    c.in-Err-read_archive.finding
    (walked-as g.D.Disk (array_tests (length c.args.array.now) c.limit_of.result 0 c.as_slice.result.now) (array_tests n limit 0 root.array)
    c.args.slots.now c.read_array.new.slots (Ok tt)
    (λ told. as-array n c.args.array.now c.limit_of.result limit c.as_slice.result.now root.array c.requires.array c.limit_of.ensures c.as_slice.ensures) c.in-Ok.ensures.walked)
    (walked-as g.D.Disk (archive_tests c.blocks-blocks.result c.as_slice-2.result.now) (archive_tests n root.archive) c.read_array.new.slots c.read_archive.new.slots (Err c.in-Err-read_archive.finding)
    (λ told. as-archive n c.blocks-blocks.result c.as_slice-2.result.now root.archive c.blocks-blocks.ensures.value c.as_slice-2.ensures) c.in-Err-read_archive.ensures.walked)

pub read_set-requires-clause-blocks : goal.read_set-requires-clause-blocks
read_set-requires-clause-blocks g c =
    rw (c.as_slice-3.ensures, c.in-Ok-read_archive.ensures.walked.same.size, c.in-Ok.ensures.walked.same.size)
    (root-parts (fields_of c.args.root.now) (g.D.Disk.sectors c.args.slots.now.disk) c.requires.valid c.requires.room).current

pub returns-in-Err-read_set-clause-walked : goal.returns-in-Err-read_set-clause-walked
returns-in-Err-read_set-clause-walked g c =
    let root = fields_of c.args.root.now in
    let n = blocks_of_root root in
    let limit = root_limit root.archive root.era in
    third-ends g.D.Disk (array_tests n limit 0 root.array) (archive_tests n root.archive) (set_tests n 0 root.current) c.args.slots.now c.read_array.new.slots c.read_archive.new.slots c.read_set.new.slots tt
    c.in-Ok-read_archive.archive (Err c.in-Err-read_set.finding)
    (walked-as g.D.Disk (array_tests (length c.args.array.now) c.limit_of.result 0 c.as_slice.result.now) (array_tests n limit 0 root.array)
    c.args.slots.now c.read_array.new.slots (Ok tt)
    (λ told. as-array n c.args.array.now c.limit_of.result limit c.as_slice.result.now root.array c.requires.array c.limit_of.ensures c.as_slice.ensures) c.in-Ok.ensures.walked)
    (walked-as g.D.Disk (archive_tests c.blocks-blocks.result c.as_slice-2.result.now) (archive_tests n root.archive) c.read_array.new.slots c.read_archive.new.slots (Ok c.in-Ok-read_archive.archive)
    (λ told. as-archive n c.blocks-blocks.result c.as_slice-2.result.now root.archive c.blocks-blocks.ensures.value c.as_slice-2.ensures) c.in-Ok-read_archive.ensures.walked)
    (walked-error g.D.Disk (set_tests n 0 root.current) c.read_archive.new.slots c.read_set.new.slots c.in-Err-read_set.finding
    (walked-as g.D.Disk (set_tests (length c.args.current.now) 0 c.as_slice-3.result.now) (set_tests n 0 root.current) c.read_archive.new.slots c.read_set.new.slots (Err c.in-Err-read_set.finding)
    (λ told. as-set n c.args.current.now c.as_slice-3.result.now root.current c.requires.current c.as_slice-3.ensures) c.in-Err-read_set.ensures.walked))

pub returns-in-Ok-read_set-clause-walked : goal.returns-in-Ok-read_set-clause-walked
returns-in-Ok-read_set-clause-walked g c =
    let root = fields_of c.args.root.now in
    let n = blocks_of_root root in
    let limit = root_limit root.archive root.era in
    third-ends g.D.Disk (array_tests n limit 0 root.array) (archive_tests n root.archive) (set_tests n 0 root.current) c.args.slots.now c.read_array.new.slots c.read_archive.new.slots c.read_set.new.slots tt
    c.in-Ok-read_archive.archive (Ok c.in-Ok-read_archive.archive)
    (walked-as g.D.Disk (array_tests (length c.args.array.now) c.limit_of.result 0 c.as_slice.result.now) (array_tests n limit 0 root.array)
    c.args.slots.now c.read_array.new.slots (Ok tt)
    (λ told. as-array n c.args.array.now c.limit_of.result limit c.as_slice.result.now root.array c.requires.array c.limit_of.ensures c.as_slice.ensures) c.in-Ok.ensures.walked)
    (walked-as g.D.Disk (archive_tests c.blocks-blocks.result c.as_slice-2.result.now) (archive_tests n root.archive) c.read_array.new.slots c.read_archive.new.slots (Ok c.in-Ok-read_archive.archive)
    (λ told. as-archive n c.blocks-blocks.result c.as_slice-2.result.now root.archive c.blocks-blocks.ensures.value c.as_slice-2.ensures) c.in-Ok-read_archive.ensures.walked)
    (walked-value g.D.Disk (set_tests n 0 root.current) c.read_archive.new.slots c.read_set.new.slots tt c.in-Ok-read_archive.archive
    (walked-as g.D.Disk (set_tests (length c.args.current.now) 0 c.as_slice-3.result.now) (set_tests n 0 root.current) c.read_archive.new.slots c.read_set.new.slots (Ok tt)
    (λ told. as-set n c.args.current.now c.as_slice-3.result.now root.current c.requires.current c.as_slice-3.ensures) c.in-Ok-read_set.ensures.walked))

pub returns-in-Ok-read_set-clause-read : goal.returns-in-Ok-read_set-clause-read
returns-in-Ok-read_set-clause-read g c =
    let n = blocks_of_root (fields_of c.args.root.now) in
    record {
      array_size = c.in-Ok.ensures.size ∙ (ap length c.requires.array ∙ length-replicate n 0);
      current_size = c.in-Ok-read_set.ensures.size ∙ (ap length c.requires.current ∙ length-replicate n false);
      sizes = subst (λ (k : ℕ). AllByRecursion (λ set. length set.blocks ≡ k) c.in-Ok-read_archive.archive) c.blocks-blocks.ensures.value c.in-Ok-read_archive.ensures.sets.1;
      limited = λ block. subst (λ (k : ℕ). get_or c.read_array.new.into block 0 ≤ k) c.limit_of.ensures (c.in-Ok.ensures.limited block);
      eras = subst (HasSets c.in-Ok-read_archive.archive) c.as_slice-2.ensures c.in-Ok-read_archive.ensures.sets.0;
      says = λ told.
          let first = went-now (λ before now. now ≡ before) (g.D.Disk.history c.args.slots.now.disk) (g.D.Disk.history c.read_array.new.slots.disk) (c.in-Ok.ensures.walked.told told).went in
          let second = went-now (λ before now. now ≡ before) (g.D.Disk.history c.read_array.new.slots.disk) (g.D.Disk.history c.read_archive.new.slots.disk)
          (c.in-Ok-read_archive.ensures.walked.told told).went ∙ first in
          record {
            array = subst (λ (pages : List ℕ). SayEntries c.read_array.new.into (map (pages_in (g.D.Disk.history c.args.slots.now.disk).now.seen) pages)) c.as_slice.ensures (c.in-Ok.ensures.says told);
            current =
                subst (λ (pages : List ℕ). SayFlags c.read_set.new.into (map (pages_in (g.D.Disk.history c.args.slots.now.disk).now.seen) pages)) c.as_slice-3.ensures
                (subst (λ (state : State). SayFlags c.read_set.new.into (map (pages_in state.seen) c.as_slice-3.result.now)) second (c.in-Ok-read_set.ensures.says told));
            archive =
                subst (λ (sets : List Archived). SaySets c.in-Ok-read_archive.archive (map (archived_content (pages_in (g.D.Disk.history c.args.slots.now.disk).now.seen)) sets)) c.as_slice-2.ensures
                (subst (λ (state : State). SaySets c.in-Ok-read_archive.archive (map (archived_content (pages_in state.seen)) c.as_slice-2.result.now)) first (c.in-Ok-read_archive.ensures.says told));
          };
    }
