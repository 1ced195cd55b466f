use Rattle.std.proofs.Common.{List, sym, subst}
use Rattle.era_base.proofs.Moments.{went-now}
use Rattle.era_layout.specs.declared.archive.Archived.{Archived}
use Rattle.era_layout.specs.Root.{archive_pages, fields_of, pages_of, AreDifferent}
use Rattle.era_meta.specs.PageParts.{IsArrayPageOf, IsBitsPageOf}
use Rattle.era_meta.specs.Putting.{PutsAmong}
use Rattle.era_meta.specs.Stored.{HavePages}
use Rattle.era_meta.proofs.Ends.{ok_map}
use Rattle.era_meta.proofs.Puts.{went-among}
use Rattle.era_meta.proofs.PutSets.{entries-put, flags-put}
use Rattle.era_meta.proofs.PutRoots.{root-parts, root-sizes, went-array, went-current, went-archive, root-says}
use Rattle.era_meta.proofs.set_pages.put_root.Goals as goal

pub put_pages-requires-clause-blocks : goal.put_pages-requires-clause-blocks
put_pages-requires-clause-blocks g c =
    rw c.as_slice.ensures (root-parts (fields_of c.args.next.now) (g.D.Disk.sectors c.args.slots.now.disk) c.requires.root.0 c.requires.room).array

pub put_pages-requires-2-clause-blocks : goal.put_pages-requires-2-clause-blocks
put_pages-requires-2-clause-blocks g c =
    rw (c.as_slice-2.ensures, c.put_pages.ensures.keeps.device.size)
    (root-parts (fields_of c.args.next.now) (g.D.Disk.sectors c.args.slots.now.disk) c.requires.root.0 c.requires.room).current

pub put_sets-requires-clause-blocks : goal.put_sets-requires-clause-blocks
put_sets-requires-clause-blocks g c =
    rw (c.as_slice-3.ensures, c.put_pages-2.ensures.keeps.device.size, c.put_pages.ensures.keeps.device.size)
    (root-parts (fields_of c.args.next.now) (g.D.Disk.sectors c.args.slots.now.disk) c.requires.root.0 c.requires.room).archive

pub put_sets-requires-clause-sets : goal.put_sets-requires-clause-sets
put_sets-requires-clause-sets g c = rw (c.as_slice-3.ensures, c.archive.ensures) (c.requires.root.1.archive, root-sizes (fields_of c.args.next.now) c.requires.root.0)

-- the puts of the array failed
pub returns-in_err-put_pages-clause-moments : goal.returns-in_err-put_pages-clause-moments
returns-in_err-put_pages-clause-moments g c = λ told.
    went-array (fields_of c.args.next.now) c.args.slots.now.target c.args.slots.now.number (g.D.Disk.history c.args.slots.now.disk) (g.D.Disk.history c.put_pages.new.slots.disk)
    (rw c.as_slice.ensures at (c.put_pages.ensures.moments told))

-- those of the current set
pub returns-in_err-put_pages-2-clause-moments : goal.returns-in_err-put_pages-2-clause-moments
returns-in_err-put_pages-2-clause-moments g c = λ told.
    let root = fields_of c.args.next.now in
    let old = g.D.Disk.history c.args.slots.now.disk in
    let one = g.D.Disk.history c.put_pages.new.slots.disk in
    let two = g.D.Disk.history c.put_pages-2.new.slots.disk in
    went-among (pages_of root) c.args.slots.now.target c.args.slots.now.number old one two
    (went-array root c.args.slots.now.target c.args.slots.now.number old one (rw c.as_slice.ensures at (c.put_pages.ensures.moments told)))
    (went-current root c.args.slots.now.target c.args.slots.now.number one two
    (rw (c.as_slice-2.ensures, c.put_pages.ensures.keeps.same.target, c.put_pages.ensures.keeps.same.number) at (c.put_pages-2.ensures.moments told)))

-- the last ones
pub returns-clause-moments : goal.returns-clause-moments
returns-clause-moments g c = λ told.
    let root = fields_of c.args.next.now in
    let old = g.D.Disk.history c.args.slots.now.disk in
    let one = g.D.Disk.history c.put_pages.new.slots.disk in
    let two = g.D.Disk.history c.put_pages-2.new.slots.disk in
    let new = g.D.Disk.history c.put_sets.new.slots.disk in
    went-among (pages_of root) c.args.slots.now.target c.args.slots.now.number old two new
    (went-among (pages_of root) c.args.slots.now.target c.args.slots.now.number old one two
    (went-array root c.args.slots.now.target c.args.slots.now.number old one (rw c.as_slice.ensures at (c.put_pages.ensures.moments told)))
    (went-current root c.args.slots.now.target c.args.slots.now.number one two
    (rw (c.as_slice-2.ensures, c.put_pages.ensures.keeps.same.target, c.put_pages.ensures.keeps.same.number) at (c.put_pages-2.ensures.moments told))))
    (went-archive root c.args.slots.now.target c.args.slots.now.number two new
    (rw (c.as_slice-3.ensures, c.put_pages-2.ensures.keeps.same.target, c.put_pages-2.ensures.keeps.same.number, c.put_pages.ensures.keeps.same.target, c.put_pages.ensures.keeps.same.number)
    at (c.put_sets.ensures.moments told)))

pub returns-clause-put : goal.returns-clause-put
returns-clause-put g c =
    let root = fields_of c.args.next.now in
    let m = c.args.marks.now in
    let target = c.args.slots.now.target in
    let number = c.args.slots.now.number in
    let parts = root-parts root (g.D.Disk.sectors c.args.slots.now.disk) c.requires.root.0 c.requires.room in
    let one = g.D.Disk.history c.put_pages.new.slots.disk in
    let two = g.D.Disk.history c.put_pages-2.new.slots.disk in
    let new = g.D.Disk.history c.put_sets.new.slots.disk in
    ok_map c.put_sets.result (λ says told.
    let array : HavePages IsArrayPageOf m.array root.array one.now
    = rw (c.as_slice.ensures, c.array.ensures) at (c.in_ok-put_pages.ensures.put (subst AreDifferent (sym c.as_slice.ensures) parts.array_differ) told) in
    let current : HavePages IsBitsPageOf m.current root.current two.now
    = rw (c.as_slice-2.ensures, c.current.ensures) at (c.in_ok-put_pages-2.ensures.put (subst AreDifferent (sym c.as_slice-2.ensures) parts.current_differ) told) in
    root-says root m (g.D.Disk.sectors c.args.slots.now.disk) target number one.now two.now new.now parts
    (went-now (PutsAmong root.current target number) one two
    (rw (c.as_slice-2.ensures, c.put_pages.ensures.keeps.same.target, c.put_pages.ensures.keeps.same.number) at (c.put_pages-2.ensures.moments told)))
    (went-now (PutsAmong (archive_pages root.archive) target number) two new
    (rw (c.as_slice-3.ensures, c.put_pages-2.ensures.keeps.same.target, c.put_pages-2.ensures.keeps.same.number, c.put_pages.ensures.keeps.same.target, c.put_pages.ensures.keeps.same.number)
    at (c.put_sets.ensures.moments told)))
    (entries-put m.array root.array one.now array) (flags-put m.current root.current two.now current)
    (rw (c.as_slice-3.ensures, c.archive.ensures) at (says told)))
    (c.put_sets.ensures.put (subst (λ (sets : List Archived). AreDifferent (archive_pages sets)) (sym c.as_slice-3.ensures) parts.archive_differ))
