use Rattle.std.proofs.Common.{◌≡◌, ℕ, [], length, refl, ap, sym, ◌∙◌, subst}
use Rattle.std.specs.Prelude.{Ok, Err}
use Rattle.std.proofs.lemmas.List.{length-map}
use Rattle.std.proofs.lemmas.List.Elements.{All-nil}
use Rattle.era_tools.specs.BackupText.{BlockCopy, HasBytes, backup_head, copy_lines}
use Rattle.era_tools.specs.BackupTool.{CopiesBlocks, EndsText}
use Rattle.era_tools.specs.ToolLines.{data_fault_line, number_line}
use Rattle.era_tools.specs.declared.copy_error.CopyError.TheVariants.{Origin, Output}
use Rattle.era_tools.specs.declared.status.Status.TheVariants.{Done, Fault}
use Rattle.std.specs.Prelude.{codes}
use Rattle.era_tools.proofs.Copies.{prints-cut, prints-cut_head, prints-ended}
use Rattle.era_tools.proofs.backup_text.print_copies.Goals as goal

-- the sink failed at the first line
pub returns-in_default-clause-printed : goal.returns-in_default-clause-printed
returns-in_default-clause-printed g c = record {
  copies = [];
  ended = Err Output;
  reached = (_, refl);
  bytes = λ tells. All-nil (HasBytes c.args.listing.now.geometry.sectors c.args.listing.now.geometry.block_sectors (g.D.Disk.history c.args.disk.now).now.seen);
  cause = refl;
  printed = prints-cut_head (g.K.Sink.given c.args.sink.now) (g.K.Sink.given c.give_head.new.sink) c.new-text.result (backup_head c.args.listing.now c.args.since)
      c.new-text.ensures c.in_default.ensures.added;
}

-- all blocks were copied
pub returns-in-Ok-copy_blocks-clause-printed : goal.returns-in-Ok-copy_blocks-clause-printed
returns-in-Ok-copy_blocks-clause-printed g c =
    let copied = c.in-Ok-copy_blocks.ensures.copied in
    let same : length c.as_slice-blocks.result.now ≡ length copied.copies = ap length (sym copied.reached) ∙ length-map copied.copies (λ (copy : BlockCopy). copy.block) in
    record {
      copies = copied.copies;
      ended = Ok tt;
      reached = copied.reached ∙ c.as_slice-blocks.ensures.value;
      bytes = copied.bytes;
      cause = copied.cause;
      printed = prints-ended (g.K.Sink.given c.args.sink.now) (g.K.Sink.given c.give_head.new.sink) (g.K.Sink.given c.copy_blocks.new.sink) (g.K.Sink.given c.end_text.new.sink)
          c.new-text.result c.give_head.new.text c.copy_blocks.new.text (backup_head c.args.listing.now c.args.since) (copy_lines copied.copies)
          (number_line (codes "end ") (length copied.copies)) Done c.end_text.result c.new-text.ensures c.in-Ok.ensures.added copied.added
          (subst (λ (count : ℕ). EndsText (g.K.Sink.given c.copy_blocks.new.sink) c.copy_blocks.new.text (g.K.Sink.given c.end_text.new.sink) (number_line (codes "end ") count) Done c.end_text.result)
          same c.end_text.ensures.ended);
    }

-- the origin failed
pub returns-in-Err-Origin-clause-printed : goal.returns-in-Err-Origin-clause-printed
returns-in-Err-Origin-clause-printed g c =
    let copied = subst (λ error. CopiesBlocks {T = Unit {0}} g.D.Disk c.args.listing.now.geometry.sectors c.args.listing.now.geometry.block_sectors c.as_slice-blocks.result.now
    c.args.disk.now c.copy_blocks.new.disk (g.K.Sink.given c.give_head.new.sink) (g.K.Sink.given c.copy_blocks.new.sink) c.give_head.new.text c.copy_blocks.new.text (Err error))
    c.in-Err-Origin.field-0-is c.in-Err-Origin.ensures.copied in
    record {
      copies = copied.copies;
      ended = Err (Origin c.in-Err-Origin.count);
      reached = (copied.reached.0, copied.reached.1, copied.reached.2 ∙ c.as_slice-blocks.ensures.value);
      bytes = copied.bytes;
      cause = copied.cause;
      printed = prints-ended (g.K.Sink.given c.args.sink.now) (g.K.Sink.given c.give_head.new.sink) (g.K.Sink.given c.copy_blocks.new.sink) (g.K.Sink.given c.end_text-in-Err-Origin.new.sink)
          c.new-text.result c.give_head.new.text c.copy_blocks.new.text (backup_head c.args.listing.now c.args.since) (copy_lines copied.copies)
          (data_fault_line c.in-Err-Origin.count) Fault c.end_text-in-Err-Origin.result c.new-text.ensures c.in-Ok.ensures.added copied.added
          (subst (λ (count : ℕ). EndsText (g.K.Sink.given c.copy_blocks.new.sink) c.copy_blocks.new.text (g.K.Sink.given c.end_text-in-Err-Origin.new.sink) (data_fault_line count) Fault
          c.end_text-in-Err-Origin.result) c.in-Err-Origin.count-is c.end_text-in-Err-Origin.ensures.ended);
    }

-- the sink failed at a block
pub returns-in-Err-Output-clause-printed : goal.returns-in-Err-Output-clause-printed
returns-in-Err-Output-clause-printed g c =
    let copied = subst (λ error. CopiesBlocks {T = Unit {0}} g.D.Disk c.args.listing.now.geometry.sectors c.args.listing.now.geometry.block_sectors c.as_slice-blocks.result.now
    c.args.disk.now c.copy_blocks.new.disk (g.K.Sink.given c.give_head.new.sink) (g.K.Sink.given c.copy_blocks.new.sink) c.give_head.new.text c.copy_blocks.new.text (Err error))
    c.in-Err-Output.field-0-is c.in-Err-Output.ensures.copied in
    record {
      copies = copied.copies;
      ended = Err Output;
      reached = (copied.reached.0, copied.reached.1 ∙ c.as_slice-blocks.ensures.value);
      bytes = copied.bytes;
      cause = copied.cause;
      printed = prints-cut (g.K.Sink.given c.args.sink.now) (g.K.Sink.given c.give_head.new.sink) (g.K.Sink.given c.copy_blocks.new.sink)
          c.new-text.result c.give_head.new.text (backup_head c.args.listing.now c.args.since) (copy_lines copied.copies)
          c.new-text.ensures c.in-Ok.ensures.added copied.added;
    }
