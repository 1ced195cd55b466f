-- The text of a backup: the blocks of an origin that were written since an era, with their bytes.
use Rattle.std.specs.Prelude.{◌≡◌, ℕ, ◌*◌, List, [], ◌∷◌, ◌++◌, length, map, codes, decimal, Result, Ok, Err}
use Rattle.std.specs.List.{All, filter, flat_map}
use Rattle.hex.specs.Hex.{encode_lower}
use Rattle.era_base.specs.Bytes.{part}
use Rattle.era_base.specs.Geometry.{span_of}
use Rattle.era_layout.specs.Root.{numbers_from}
use Rattle.era_model.specs.Marks.{BlockMarks, blocks_of_marks, written_since}
use Rattle.era_tools.specs.declared.copy_error.CopyError.{CopyError}
use Rattle.era_tools.specs.declared.copy_error.CopyError.TheVariants.{Origin, Output}
use Rattle.era_tools.specs.declared.listing.Listing.{Listing}
use Rattle.era_tools.specs.declared.status.Status.{Status}
use Rattle.era_tools.specs.declared.status.Status.TheVariants.{Done, Fault, Sink}
use Rattle.era_tools.specs.ToolLines.{data_fault_line, number_line}

-- A block, and its bytes.
pub record BlockCopy : Type 0 where
  pub block : ℕ
  pub bytes : List ℕ

-- The first line: the length and the block size of the origin in sectors, the era since which blocks are listed, and the present era.
abbrev pub backup_head : Listing → ℕ → List ℕ
backup_head listing since =
    codes "erabackup 1 " ++ (decimal listing.geometry.sectors ++ (codes " " ++ (decimal listing.geometry.block_sectors ++ (codes " "
    ++ (decimal since ++ (codes " " ++ (decimal listing.era ++ 10 ∷ [])))))))

-- The line of a block.
abbrev pub copy_line : BlockCopy → List ℕ
copy_line copy = decimal copy.block ++ (codes " " ++ (encode_lower copy.bytes ++ 10 ∷ []))

-- The lines of blocks, one after another.
abbrev pub copy_lines : List BlockCopy → List ℕ
copy_lines copies = flat_map copy_line copies

-- The last line: how many blocks were copied; or the count of faults of the origin, where that failed.
abbrev pub backup_ending : {T : Type 0} → Result T CopyError → ℕ → List ℕ
backup_ending (Ok value) count = number_line (codes "end ") count
backup_ending (Err (Origin faults)) count = data_fault_line faults
backup_ending (Err Output) count = []

-- The status that a backup ends with.
abbrev pub backup_status : {T : Type 0} → Result T CopyError → Status
backup_status (Ok value) = Done
backup_status (Err (Origin faults)) = Fault
backup_status (Err Output) = Sink

-- The text of a backup.
abbrev pub backup_text : {T : Type 0} → Listing → ℕ → List BlockCopy → Result T CopyError → List ℕ
backup_text listing since copies ended = backup_head listing since ++ (copy_lines copies ++ backup_ending ended (length copies))

-- The blocks that were marked in the era or a later one, ascending.
abbrev pub written_blocks : BlockMarks → ℕ → List ℕ
written_blocks m since = filter (written_since m since) (numbers_from 0 (blocks_of_marks m))

-- What is to be copied, by the marks of an image: the blocks that were marked in the era or a later one.
pub record IsListing (m : BlockMarks) (since : ℕ) (listing : Listing) : Type 0 where
  pub sectors : listing.geometry.sectors ≡ m.sectors
  pub block_sectors : listing.geometry.block_sectors ≡ m.block_sectors
  pub era : listing.era ≡ m.era
  pub blocks : listing.blocks.items ≡ written_blocks m since

-- The blocks of copies.
abbrev pub blocks_of_copies : List BlockCopy → List ℕ
blocks_of_copies copies = map (λ (copy : BlockCopy). copy.block) copies

-- A copy has the bytes that its block has in this content of an origin.
abbrev pub HasBytes : ℕ → ℕ → List ℕ → BlockCopy → Type 0
HasBytes sectors block_sectors content copy =
    copy.bytes ≡ part ((span_of sectors block_sectors copy.block).0 * 512) ((span_of sectors block_sectors copy.block).1 * 512) content

-- Each copy has them.
abbrev pub HaveBytes : ℕ → ℕ → List ℕ → List BlockCopy → Type 0
HaveBytes sectors block_sectors content copies = All (HasBytes sectors block_sectors content) copies

-- How far a copying of listed blocks came: to their end; to the block that the origin failed at; or to some block, where the sink failed.
abbrev pub ReachesIn : {T : Type 0} → List ℕ → Result T CopyError → List ℕ → Type 0
ReachesIn listed (Ok value) blocks = blocks ≡ listed
ReachesIn listed (Err (Origin faults)) blocks = (next : ℕ) × (rest : List ℕ) × (blocks ++ next ∷ rest ≡ listed)
ReachesIn listed (Err Output) blocks = (rest : List ℕ) × (blocks ++ rest ≡ listed)
