use Rattle.std.proofs.Common.{◌≡◌, ℕ, List, length, take, ap, sym, ◌∙◌, subst, arith}
use Rattle.std.specs.Prelude.{option_copied}
use Rattle.std.proofs.lemmas.List.{length-take-le}
use Rattle.era_base.specs.declared.geometry.Geometry.{Geometry}
use Rattle.era_base.specs.Geometry.{blocks_of}
use Rattle.era_layout.specs.Root.{fields_of, pages_of}
use Rattle.era_model.specs.Marks.{ArchivedSet}
use Rattle.era_meta.specs.Areas.{held_fields, page_count, HasPageLists, ArePlaces}
use Rattle.era_meta.specs.Content.{blocks_of_root}
use Rattle.era_meta.specs.Meaning.{reached}
use Rattle.era_meta.specs.SaysMarks.{HasSets}
use Rattle.era_meta.proofs.AreasNumbered.{eras-are, length-archived}
use Rattle.era_meta.proofs.AreasPrepared.{numbered-pages, count-fits, numbered-valid, places-apart, lists-stay}
use Rattle.era_meta.proofs.areas.prepare.Goals as goal

same-blocks : (c : goal.After-number_pages) → blocks_of_root (fields_of c.number_pages.new.next) ≡ blocks_of_root (fields_of c.args.root.now)
same-blocks c = ap (λ (geometry : Geometry). blocks_of geometry.sectors geometry.block_sectors) c.number_pages.ensures.same.0

-- the pages have the first of the blocks
pages-are : (c : goal.After-number_pages) → pages_of (fields_of c.number_pages.new.next) ≡ take (page_count (blocks_of_root (fields_of c.args.root.now)) (length c.args.sets.now)) c.beside-free.result
pages-are c =
    subst (λ (blocks : ℕ). pages_of (fields_of c.number_pages.new.next) ≡ take (page_count blocks (length c.args.sets.now)) c.beside-free.result) (same-blocks c)
    (numbered-pages _ c.args.sets.now (fields_of c.number_pages.new.next) c.number_pages.ensures.numbered)

pub returns-clause-marks : goal.returns-clause-marks
returns-clause-marks c = λ m sectors block_sectors era archive. record {
  sectors = ap (λ (geometry : Geometry). geometry.sectors) c.number_pages.ensures.same.0 ∙ sectors;
  block_sectors = ap (λ (geometry : Geometry). geometry.block_sectors) c.number_pages.ensures.same.0 ∙ block_sectors;
  era = c.number_pages.ensures.same.1 ∙ era;
  archive = subst (λ (sets : List ArchivedSet). HasSets sets c.number_pages.new.next.archive) archive
      (subst (HasSets c.args.sets.now) (sym c.number_pages.ensures.numbered.archive) (eras-are _ _ c.args.sets.now));
}

pub returns-clause-valid : goal.returns-clause-valid
returns-clause-valid c = λ m are for.
    let geometry = c.number_pages.new.next.geometry in
    let used = reached (fields_of c.args.root.now) (held_fields (option_copied c.args.held)) in
    numbered-valid used c.beside-free.result c.args.sets.now (fields_of c.number_pages.new.next) m
    (rw (ap (λ (geometry : Geometry). geometry.sectors) c.number_pages.ensures.same.0, ← c.sectors-sectors.ensures) c.sectors-sectors.type_inv) (record { some = geometry.some; block_size = geometry.block_size; limited = geometry.limited })
    (omega (arith, c.number_pages.ensures.same.1, c.ranges.era.fits)) c.requires.sets.1 (rw (same-blocks c) c.beside-free.ensures.enough)
    (subst (λ (blocks : ℕ). ArePlaces blocks used c.beside-free.result) (sym (same-blocks c)) c.beside-free.ensures.places) c.number_pages.ensures.numbered are for

pub returns-clause-placed : goal.returns-clause-placed
returns-clause-placed c =
    let root = fields_of c.args.root.now in let next = fields_of c.number_pages.new.next in let blocks = blocks_of_root root in
    let used = reached root (held_fields (option_copied c.args.held)) in
    let count : length next.archive ≡ length c.args.sets.now = ap length c.number_pages.ensures.numbered.archive ∙ length-archived _ _ c.args.sets.now in
    let few = count-fits blocks (length c.args.sets.now) c.requires.sets.1 in
    let enough = c.beside-free.ensures.enough in
    record {
      blocks = (c.beside-free.result, c.beside-free.ensures.next, rw count (pages-are c));
      count = rw count (ap length (pages-are c) ∙ length-take-le (page_count blocks (length c.args.sets.now)) c.beside-free.result (omega arith));
      fresh = record {
        apart = rw (pages-are c) (places-apart blocks (page_count blocks (length c.args.sets.now)) used c.beside-free.result c.beside-free.ensures.places);
        flag = c.number_pages.ensures.same.2;
        sectors = ap (λ (geometry : Geometry). geometry.sectors) c.number_pages.ensures.same.0;
        block_sectors = ap (λ (geometry : Geometry). geometry.block_sectors) c.number_pages.ensures.same.0;
      };
    }

pub returns-clause-lists : goal.returns-clause-lists
returns-clause-lists c =
    lists-stay _ c.args.sets.now (fields_of c.args.next.now) (fields_of c.number_pages.new.next) c.args.spare.now c.number_pages.new.spare
    (subst (λ (blocks : ℕ). HasPageLists blocks (fields_of c.args.next.now) c.args.spare.now) (sym (same-blocks c)) c.requires.lists)
    c.requires.sets.0 c.requires.sets.1 (rw (same-blocks c) c.beside-free.ensures.enough) c.number_pages.ensures.numbered c.number_pages.ensures.spare
