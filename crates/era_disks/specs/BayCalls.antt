-- The calls of a bay in memory, kind by kind.
use Rattle.std.specs.Prelude.{ℕ}
use Rattle.era_disks.specs.Calls.{no_calls, also_failing}
use Rattle.era_disks.specs.declared.bay_calls.BayCalls.{BayCalls}
use Rattle.era_disks.specs.declared.bay_calls.BayCall.{BayCall}
use Rattle.era_disks.specs.declared.bay_calls.BayCall.TheVariants.{Size, OpenMeta, OpenPart}

-- No call of a bay fails, and none was begun.
abbrev pub no_bay_calls : BayCalls
no_bay_calls = record { sizes = no_calls; metas = no_calls; parts = no_calls }

-- The call of this kind with this number fails too.
abbrev pub also_failing_at : BayCall → ℕ → BayCalls → BayCalls
also_failing_at Size number calls = record calls { sizes = also_failing number calls.sizes }
also_failing_at OpenMeta number calls = record calls { metas = also_failing number calls.metas }
also_failing_at OpenPart number calls = record calls { parts = also_failing number calls.parts }
