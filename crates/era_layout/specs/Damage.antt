-- What a root's bytes say field by field, and the kinds of damage in their order. The offsets stand in docs/FORMAT.md, "A root".
use Rattle.std.specs.Prelude.{ℕ, zero, suc, ◌≡◌, ◌+◌, ◌*◌, ◌<◌, ◌≤◌, ◌==◌, ◌⊎◌, Bool, true, false, List, [], ◌∷◌, drop, EachIndex, slice_index}
use Rattle.era_base.specs.Bytes.{part}
use Rattle.era_base.specs.declared.limits.TheConstants.{MOST_SETS}
use Rattle.era_base.specs.Geometry.{blocks_of, array_pages_of, bit_pages_of}
use Rattle.era_layout.specs.declared.archive.Archived.{Archived}
use Rattle.era_layout.specs.declared.damage.RootError.{RootError}
use Rattle.era_layout.specs.declared.damage.RootError.TheVariants.{BadMagic, BadVersion, BadGeometry, BadEra, BadHeld, ArchiveOrder, PageRange, PageTwice, TailNotZero, Memory}
use Rattle.era_layout.specs.Numbers.{u32_at, u64_at, u32s_at}
use Rattle.era_layout.specs.Root.{RootFields, magic, IsGeometry, EraOrder, pages_of, AreInImage, AreDifferent}

-- How many bytes an archived set of so many pages takes.
abbrev pub set_size : ℕ → ℕ
set_size width = 4 + 4 * width

-- So many archived sets of so many pages each, from an offset on.
abbrev pub sets_at : List ℕ → ℕ → ℕ → ℕ → List Archived
sets_at bytes width offset zero = []
sets_at bytes width offset (suc count) =
    record { era = u32_at bytes offset; pages = u32s_at bytes (offset + 4) width }
    ∷ sets_at bytes width (offset + set_size width) count

-- The offset of the archived sets, where the era array takes so many pages and a write set so many.
abbrev pub archive_offset : ℕ → ℕ → ℕ
archive_offset array width = 40 + 4 * array + 4 * width

-- The number of blocks of the geometry in a root's bytes.
abbrev pub blocks_of_bytes : List ℕ → ℕ
blocks_of_bytes bytes = blocks_of (u64_at bytes 16) (u32_at bytes 12)

-- What a root's bytes say, where the era array takes so many pages and a write set so many.
abbrev pub fields_with : List ℕ → ℕ → ℕ → RootFields
fields_with bytes array width = record {
  sectors = u64_at bytes 16;
  block_sectors = u32_at bytes 12;
  era = u32_at bytes 24;
  held = u32_at bytes 28 == 2;
  array = u32s_at bytes 40 array;
  current = u32s_at bytes (40 + 4 * array) width;
  archive = sets_at bytes width (archive_offset array width) (u32_at bytes 32);
}

-- What a root's bytes say.
abbrev pub fields_at : List ℕ → RootFields
fields_at bytes = fields_with bytes (array_pages_of (blocks_of_bytes bytes)) (bit_pages_of (blocks_of_bytes bytes))

-- All bytes are 0.
abbrev pub AreZeros : List ℕ → Type 0
AreZeros bytes = EachIndex bytes (λ index. slice_index bytes index ≡ 0)

-- The bytes that no field has: those from offset 36 to 39, and all behind the archived sets.
pub record IsTailZero (bytes : List ℕ) (array width : ℕ) : Type 0 where
  pub gap : u32_at bytes 36 ≡ 0
  pub rest : AreZeros (drop (archive_offset array width + u32_at bytes 32 * set_size width) bytes)

-- The archived sets are few enough, and their eras are in order.
pub record IsArchiveInOrder (bytes : List ℕ) (archive : List Archived) : Type 0 where
  pub count : u32_at bytes 32 ≤ MOST_SETS
  pub order : EraOrder 0 (u32_at bytes 24) archive

-- What bytes have exactly where the kind of damage doesn't apply to them; want of memory is no damage.
unfoldable pub Passes : List ℕ → RootError → Type 0
Passes bytes BadMagic = part 0 8 bytes ≡ magic
Passes bytes BadVersion = u32_at bytes 8 ≡ 1
Passes bytes BadGeometry = IsGeometry (u64_at bytes 16) (u32_at bytes 12)
Passes bytes BadEra = 0 < u32_at bytes 24
Passes bytes BadHeld = (u32_at bytes 28 ≡ 0) ⊎ (u32_at bytes 28 ≡ 2)
Passes bytes ArchiveOrder = IsArchiveInOrder bytes (fields_at bytes).archive
Passes bytes PageRange = AreInImage (blocks_of_bytes bytes) (pages_of (fields_at bytes))
Passes bytes PageTwice = AreDifferent (pages_of (fields_at bytes))
Passes bytes TailNotZero = IsTailZero bytes (array_pages_of (blocks_of_bytes bytes)) (bit_pages_of (blocks_of_bytes bytes))
Passes bytes Memory = Unit {0}

-- The kinds of damage of a root, in their order.
abbrev pub root_kinds : List RootError
root_kinds =
    BadMagic ∷ BadVersion ∷ BadGeometry ∷ BadEra ∷ BadHeld ∷ ArchiveOrder ∷ PageRange ∷ PageTwice ∷ TailNotZero ∷ []

-- The held field, of a root that may hold a snapshot or of one that may not.
abbrev pub HeldFieldPasses : Bool → List ℕ → Type 0
HeldFieldPasses true bytes = Passes bytes BadHeld
HeldFieldPasses false bytes = u32_at bytes 28 ≡ 0

-- What bytes have exactly where the kind doesn't apply to them, as a root that may hold a snapshot or as one that may not.
abbrev pub PassesAs : Bool → List ℕ → RootError → Type 0
PassesAs may_hold bytes BadHeld = HeldFieldPasses may_hold bytes
PassesAs may_hold bytes kind = Passes bytes kind

-- What bytes have exactly where the kind doesn't apply to them as the held root, which holds no snapshot itself.
abbrev pub HeldPasses : List ℕ → RootError → Type 0
HeldPasses bytes kind = PassesAs false bytes kind

-- The kind is the first one of a list of kinds that a test refuses.
abbrev pub IsFirstOf : (RootError → Type 0) → List RootError → RootError → Type 0
IsFirstOf Test [] kind = ⊥
IsFirstOf Test (other ∷ kinds) kind = ((other ≡ kind) × ¬ Test other) ⊎ (Test other × IsFirstOf Test kinds kind)

-- A test refuses no kind of a list.
abbrev pub NoneAppliesOf : (RootError → Type 0) → List RootError → Type 0
NoneAppliesOf Test [] = Unit {0}
NoneAppliesOf Test (kind ∷ kinds) = Test kind × NoneAppliesOf Test kinds

-- The kind is the first one of a list of kinds that applies.
abbrev pub IsFirst : List ℕ → List RootError → RootError → Type 0
IsFirst bytes kinds kind = IsFirstOf (Passes bytes) kinds kind

-- No kind of a list applies.
abbrev pub NoneApplies : List ℕ → List RootError → Type 0
NoneApplies bytes kinds = NoneAppliesOf (Passes bytes) kinds
