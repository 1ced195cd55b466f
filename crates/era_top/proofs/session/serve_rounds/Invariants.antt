use Rattle.std.proofs.Common.{◌≡◌, ◌-◌, false, List, ℕ}
use Rattle.era_base.specs.Geometry.{blocks_of}
use Rattle.era_model.specs.Marks.{blocks_of_marks}
use Rattle.era_plan.specs.Reading.{has_failed, lines_read}
use Rattle.era_top.proofs.SoFar.{SoFar}
use Rattle.era_top.proofs.session.serve_rounds.Given as goal

-- the rounds so far were run and answered, and the reader hasn't failed
abbrev pub invariant-loop-round : goal.invariant-loop-round
invariant-loop-round g l = record {
  so_far : (contents : List ℕ) → SoFar l.geometry contents (record {
    left = g.S.Source.left l.initial.source;
    left' = g.S.Source.left l.source;
    source_faults = g.S.Source.faults l.initial.source;
    source_faults' = g.S.Source.faults l.source;
    disk_faults = g.D.Disk.faults l.initial.disk;
    disk_faults' = g.D.Disk.faults l.disk;
    tells = g.D.Disk.tells;
    disk = (g.D.Disk.history l.initial.disk).now;
    disk' = (g.D.Disk.history l.disk).now;
  }) (g.K.Sink.given l.initial.sink) (g.K.Sink.given l.sink) l.session l.lines;
  reads : has_failed l.lines ≡ false;
  marks : blocks_of_marks l.session.marks ≡ blocks_of l.geometry.sectors l.geometry.block_sectors;
  sectors : g.D.Disk.sectors l.disk ≡ l.geometry.sectors;
  size : g.D.Disk.sectors l.disk ≡ g.D.Disk.sectors l.initial.disk;
  place : g.D.Disk.place l.disk ≡ g.D.Disk.place l.initial.disk;
  source_faults : g.S.Source.faults l.source ≡ g.S.Source.faults l.initial.source;
  disk_faults : g.D.Disk.faults l.disk ≡ g.D.Disk.faults l.initial.disk;
  sink : g.K.Sink.faults l.sink ≡ g.K.Sink.faults l.initial.sink;
}

-- each round has a line of its own
abbrev pub decreases-loop-round : goal.decreases-loop-round
decreases-loop-round g l = 131073 - lines_read l.lines
