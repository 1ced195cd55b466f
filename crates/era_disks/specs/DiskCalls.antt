-- The calls of a disk in memory, kind by kind.
use Rattle.std.specs.Prelude.{ℕ}
use Rattle.era_disks.specs.Calls.{no_calls, also_failing, restarted}
use Rattle.era_disks.specs.declared.disk_calls.DiskCalls.{DiskCalls}
use Rattle.era_disks.specs.declared.disk_calls.DiskCall.{DiskCall}
use Rattle.era_disks.specs.declared.disk_calls.DiskCall.TheVariants.{Read, Write, Sync}

-- No call of a disk fails, and none was begun.
abbrev pub no_disk_calls : DiskCalls
no_disk_calls = record { reads = no_calls; writes = no_calls; syncs = no_calls }

-- The call of this kind with this number fails too.
abbrev pub also_failing_call : DiskCall → ℕ → DiskCalls → DiskCalls
also_failing_call Read number calls = record calls { reads = also_failing number calls.reads }
also_failing_call Write number calls = record calls { writes = also_failing number calls.writes }
also_failing_call Sync number calls = record calls { syncs = also_failing number calls.syncs }

-- The same calls fail, and none was begun.
abbrev pub restarted_calls : DiskCalls → DiskCalls
restarted_calls calls = record { reads = restarted calls.reads; writes = restarted calls.writes; syncs = restarted calls.syncs }
