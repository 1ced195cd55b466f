use Rattle.std.proofs.Common.{ℕ, ◌*◌, [], ap, ◌∙◌}
use Rattle.era_base.specs.Bytes.{part}
use Rattle.era_line.proofs.PartSteps.{added-none}
use Rattle.era_tools.proofs.Copies.{went-read}
use Rattle.era_tools.proofs.copying.copy_sectors.Goals as goal

-- the disk failed
pub returns-in_default-clause-copied : goal.returns-in_default-clause-copied
returns-in_default-clause-copied g c = record {
  bytes = [];
  read = tt;
  added = added-none (g.K.Sink.given c.args.sink.now) c.args.text.now;
  moments = λ tells.
      went-read c.args.first c.read.new.into c.read.result (g.D.Disk.history c.args.disk.now) (g.D.Disk.history c.read.new.self) (c.read.ensures.told tells);
  same = record { place = c.read.ensures.place; size = c.read.ensures.size };
  cause = (c.faults.ensures, c.in_default.ensures.cause.failed);
}

-- the sink failed
pub returns-in_default-give_parts-clause-copied : goal.returns-in_default-give_parts-clause-copied
returns-in_default-give_parts-clause-copied g c = record {
  bytes = c.read.new.into;
  read = λ tells. (c.in-Ok.ensures.told tells).bytes
      ∙ ap (λ (n : ℕ). part (c.args.first * 512) n (g.D.Disk.history c.args.disk.now).now.seen) c.read.auto.into;
  added = rw c.from.ensures at c.in_default-give_parts.ensures.added;
  moments = λ tells.
      went-read c.args.first c.read.new.into c.read.result (g.D.Disk.history c.args.disk.now) (g.D.Disk.history c.read.new.self) (c.read.ensures.told tells);
  same = record { place = c.read.ensures.place; size = c.read.ensures.size };
  cause = c.in-Ok.ensures.cause.kept;
}

-- the line was added
pub returns-clause-copied : goal.returns-clause-copied
returns-clause-copied g c = record {
  bytes = c.read.new.into;
  read = λ tells. (c.in-Ok.ensures.told tells).bytes
      ∙ ap (λ (n : ℕ). part (c.args.first * 512) n (g.D.Disk.history c.args.disk.now).now.seen) c.read.auto.into;
  added = rw c.from.ensures at c.in-Ok-give_parts.ensures.added;
  moments = λ tells.
      went-read c.args.first c.read.new.into c.read.result (g.D.Disk.history c.args.disk.now) (g.D.Disk.history c.read.new.self) (c.read.ensures.told tells);
  same = record { place = c.read.ensures.place; size = c.read.ensures.size };
  cause = c.in-Ok.ensures.cause.kept;
}
