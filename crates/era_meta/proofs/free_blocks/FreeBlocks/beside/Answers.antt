use Rattle.std.specs.Prelude.{option_copied}
use Rattle.era_layout.specs.Root.{fields_of}
use Rattle.era_meta.specs.Areas.{held_fields}
use Rattle.era_meta.specs.Content.{blocks_of_root}
use Rattle.era_meta.specs.Meaning.{reached}
use Rattle.era_meta.proofs.AreasFree.{AreNext, area-serves, blocks-serve}
use Rattle.era_meta.proofs.free_blocks.FreeBlocks.beside.Goals.{in-Some, in-None}
use Rattle.era_meta.proofs.free_blocks.FreeBlocks.beside.Goals as goal

pub returns-clause-next : goal.returns-clause-next
returns-clause-next c =
    let root = fields_of c.args.root.now in let held = held_fields (option_copied c.args.held) in let blocks = blocks_of_root root in
    let are : AreNext blocks (reached root held) c.match-free_area.at.0 c.match-free_area.at.1 = elim c.match-free_area.branch [
      | in-Some w ↦ area-serves blocks c.area_size-size.result w.in-Some.area (reached root held) c.match-free_area.at c.area_size-size.ensures.value w.in-Some.ensures w.at-is
      | in-None w ↦ blocks-serve blocks c.area_size-size.result root held c.match-free_area.at c.area_size-size.ensures.value w.in-None.ensures c.requires w.at-is
    ] in
    are.next

pub returns-clause-enough : goal.returns-clause-enough
returns-clause-enough c =
    let root = fields_of c.args.root.now in let held = held_fields (option_copied c.args.held) in let blocks = blocks_of_root root in
    let are : AreNext blocks (reached root held) c.match-free_area.at.0 c.match-free_area.at.1 = elim c.match-free_area.branch [
      | in-Some w ↦ area-serves blocks c.area_size-size.result w.in-Some.area (reached root held) c.match-free_area.at c.area_size-size.ensures.value w.in-Some.ensures w.at-is
      | in-None w ↦ blocks-serve blocks c.area_size-size.result root held c.match-free_area.at c.area_size-size.ensures.value w.in-None.ensures c.requires w.at-is
    ] in
    are.enough

pub returns-clause-places : goal.returns-clause-places
returns-clause-places c =
    let root = fields_of c.args.root.now in let held = held_fields (option_copied c.args.held) in let blocks = blocks_of_root root in
    let are : AreNext blocks (reached root held) c.match-free_area.at.0 c.match-free_area.at.1 = elim c.match-free_area.branch [
      | in-Some w ↦ area-serves blocks c.area_size-size.result w.in-Some.area (reached root held) c.match-free_area.at c.area_size-size.ensures.value w.in-Some.ensures w.at-is
      | in-None w ↦ blocks-serve blocks c.area_size-size.result root held c.match-free_area.at c.area_size-size.ensures.value w.in-None.ensures c.requires w.at-is
    ] in
    are.places
