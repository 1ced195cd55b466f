use Rattle.era_tools.specs.ListTool.{Blocks}
use Rattle.era_tools.proofs.list_text.print_list.Goals as goal

-- the blocks were listed
pub returns-in-Ok-clause-told : goal.returns-in-Ok-clause-told
returns-in-Ok-clause-told g c = record {
  told = Blocks c.in-Ok.runs;
  right = c.in-Ok.ensures;
  printed = c.print_blocks.ensures.printed;
}
