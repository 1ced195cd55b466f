-- The snapshot in memory: its root and its marks, if one is held.
use Rattle.std.specs.Prelude.{Option, Some, None, if◌then◌else◌}
use Rattle.era_layout.specs.Root.{RootFields, fields_of}
use Rattle.era_model.specs.Marks.{BlockMarks}
use Rattle.era_meta.specs.declared.snapshot.Snapshot.{Snapshot}

-- The snapshot's root, if one is held.
abbrev pub snapshot_root : Snapshot → Option RootFields
snapshot_root snapshot = if snapshot.is_held then Some (fields_of snapshot.root) else None

-- The snapshot's marks, if one is held.
abbrev pub snapshot_marks : Snapshot → Option BlockMarks
snapshot_marks snapshot = if snapshot.is_held then Some snapshot.marks else None
