-- The line of each refusal, and the status that a run ends with by it.
use Rattle.std.specs.Prelude.{ℕ, List}
use Rattle.era_base.specs.declared.geometry.GeomError.{GeomError}
use Rattle.era_base.specs.declared.geometry.GeomError.TheVariants.{BadBlockSize, NoBlocks, TooManyBlocks}
use Rattle.era_meta.specs.declared.refusal.MetaError.{MetaError}
use Rattle.era_meta.specs.declared.refusal.MetaError.TheVariants.{MetaSmall, Unformatted, Damaged, WrongGeometry, EraEnd, SequenceEnd, Fault as MetaFault, Memory as MetaMemory}
use Rattle.era_tools.specs.declared.refusal.Refusal.{Refusal}
use Rattle.era_tools.specs.declared.refusal.Refusal.TheVariants.{NoGeometry, SameDevice, OriginSmall, Metadata, NoSnap, BayFault, DataFault, NoRoom}
use Rattle.era_tools.specs.declared.status.Status.{Status}
use Rattle.era_tools.specs.declared.status.Status.TheVariants.{Fault, Memory, Refused}
use Rattle.era_tools.specs.ToolLines.{block_size_line, no_blocks_line, many_blocks_line, same_device_line, origin_small_line, meta_small_line, unformatted_line, damaged_line, wrong_geometry_line, era_end_line, sequence_end_line, no_snap_line, bay_fault_line, meta_fault_line, data_fault_line, memory_line}

-- The line that refuses a geometry, by the block size that was asked for.
abbrev pub geometry_text : GeomError → ℕ → List ℕ
geometry_text BadBlockSize size = block_size_line size
geometry_text NoBlocks size = no_blocks_line
geometry_text (TooManyBlocks blocks) size = many_blocks_line blocks

-- The line where metadata isn't opened.
abbrev pub metadata_text : MetaError → List ℕ
metadata_text (MetaSmall have need) = meta_small_line have need
metadata_text (MetaFault count) = meta_fault_line count
metadata_text Unformatted = unformatted_line
metadata_text (Damaged kind block) = damaged_line kind block
metadata_text (WrongGeometry kept asked) = wrong_geometry_line kept asked
metadata_text EraEnd = era_end_line
metadata_text (SequenceEnd number) = sequence_end_line number
metadata_text MetaMemory = memory_line

-- The status where metadata isn't opened.
abbrev pub metadata_status : MetaError → Status
metadata_status (MetaSmall have need) = Refused
metadata_status (MetaFault count) = Fault
metadata_status Unformatted = Refused
metadata_status (Damaged kind block) = Refused
metadata_status (WrongGeometry kept asked) = Refused
metadata_status EraEnd = Refused
metadata_status (SequenceEnd number) = Refused
metadata_status MetaMemory = Memory

-- The line of a refusal.
abbrev pub refusal_text : Refusal → List ℕ
refusal_text (NoGeometry error size) = geometry_text error size
refusal_text SameDevice = same_device_line
refusal_text (OriginSmall have need) = origin_small_line have need
refusal_text (Metadata error) = metadata_text error
refusal_text NoSnap = no_snap_line
refusal_text (BayFault count) = bay_fault_line count
refusal_text (DataFault count) = data_fault_line count
refusal_text NoRoom = memory_line

-- The status of a run that ends by a refusal.
abbrev pub refusal_status : Refusal → Status
refusal_status (NoGeometry error size) = Refused
refusal_status SameDevice = Refused
refusal_status (OriginSmall have need) = Refused
refusal_status (Metadata error) = metadata_status error
refusal_status NoSnap = Refused
refusal_status (BayFault count) = Fault
refusal_status (DataFault count) = Fault
refusal_status NoRoom = Memory
