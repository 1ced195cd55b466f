-- How a metadata disk can be damaged: the tests of its bytes in the order in which the first damage is told, what each test passes, and what it finds. Docs/FORMAT.md has the order, "Damage".
use Rattle.std.specs.Prelude.{◌≡◌, ℕ, ◌+◌, ◌-◌, ◌*◌, ◌⊎◌, ◌&&◌, ◌||◌, min, false, nat_lt, ◌==◌, not, List, [], ◌∷◌, ◌++◌, drop, slice_index, Some, if◌then◌else◌}
use Rattle.std.specs.List.{flat_map, AllByRecursion}
use Rattle.era_layout.specs.declared.archive.Archived.{Archived}
use Rattle.era_layout.specs.declared.damage.RootError.{RootError}
use Rattle.era_layout.specs.declared.damage.DamageKind.{DamageKind}
use Rattle.era_layout.specs.declared.damage.DamageKind.TheVariants as kind
use Rattle.era_layout.specs.Damage.{fields_at, HeldPasses, Passes as RootPasses, root_kinds, IsFirstOf}
use Rattle.era_layout.specs.Kinds.{damage_of_root}
use Rattle.era_layout.specs.Pages.{HasEntryAbove, EntriesUpTo, HasFlagFrom, FlagsEndAt, IsArrayPage}
use Rattle.era_layout.specs.Root.{RootFields, root_bytes, IsValidRoot}
use Rattle.era_slots.specs.Slot.{SlotIsOpen, commit_number, body_of, page_of, HasBadNumber}
use Rattle.era_meta.specs.Content.{blocks_of_root, root_limit}
use Rattle.era_meta.specs.Meaning.{IsRootBody}

-- A damage: its kind, and the metadata block where it stands.
pub record Damage : Type 0 where
  pub kind : DamageKind
  pub block : ℕ

-- A test: of the commit number of a slot; of both commit numbers; of the root in a slot; of a page of the era array in a metadata block, with the number of its entries that belong to blocks and the greatest era that they may have; of a page of a write set in a metadata block, with the number of its bits that belong to blocks; of the held root; and of the held root's length and block size, which have to be these.
pub data Test : Type 0 where
  SlotNumber : ℕ → Test
  SlotNumbers : Test
  SlotRoot : ℕ → Test
  ArrayPage : ℕ → ℕ → ℕ → Test
  BitsPage : ℕ → ℕ → Test
  HeldRoot : Test
  HeldSize : ℕ → ℕ → Test

-- Both gates are open over one number.
pub record HaveOneNumber (seen : List ℕ) : Type 0 where
  pub first : SlotIsOpen 0 seen
  pub second : SlotIsOpen 1 seen
  pub same : commit_number 0 seen ≡ commit_number 1 seen

-- The bytes of the held root's place.
abbrev pub held_body : List ℕ → List ℕ
held_body seen = drop 520 (page_of 2 seen)

-- Bytes are the spelling of some valid root that holds no snapshot.
abbrev pub IsHeldBody : List ℕ → Type 0
IsHeldBody bytes = (root : RootFields) × IsValidRoot root × (root.held ≡ false) × (bytes ≡ root_bytes root)

-- A root's length and block size are these.
abbrev pub HasSize : RootFields → ℕ → ℕ → Type 0
HasSize root sectors block_sectors = (root.sectors ≡ sectors) × (root.block_sectors ≡ block_sectors)

-- The bytes of a disk pass a test.
abbrev pub Passes : List ℕ → Test → Type 0
Passes seen (SlotNumber slot) = ¬ HasBadNumber slot seen
Passes seen SlotNumbers = ¬ HaveOneNumber seen
Passes seen (SlotRoot slot) = SlotIsOpen slot seen → IsRootBody (body_of slot seen)
Passes seen (ArrayPage block entries limit) = IsArrayPage (page_of block seen) entries limit
Passes seen (BitsPage block bits) = FlagsEndAt (page_of block seen) bits
Passes seen HeldRoot = IsHeldBody (held_body seen)
Passes seen (HeldSize sectors block_sectors) = HasSize (fields_at (held_body seen)) sectors block_sectors

-- The damage of a root's bytes is the first kind that applies to them.
abbrev pub IsRootDamage : (RootError → Type 0) → DamageKind → Type 0
IsRootDamage Test found = (error : RootError) × IsFirstOf Test root_kinds error × (damage_of_root error ≡ Some found)

-- The damage of a page of the era array: an entry past the last block comes before one above the limit.
abbrev pub IsArrayDamage : List ℕ → ℕ → ℕ → DamageKind → Type 0
IsArrayDamage page entries limit found =
    ((found ≡ kind.EntryPastEnd) × HasEntryAbove page entries 0)
    ⊎ ((found ≡ kind.EraFuture) × EntriesUpTo page entries 0 × HasEntryAbove page 0 limit)

-- The damage of a page of a write set: a bit past the last block.
abbrev pub IsBitsDamage : List ℕ → ℕ → DamageKind → Type 0
IsBitsDamage page bits found = (found ≡ kind.BitPastEnd) × HasFlagFrom page bits

-- A test finds a damage.
abbrev pub Finds : List ℕ → Test → Damage → Type 0
Finds seen (SlotNumber slot) found = HasBadNumber slot seen × (found ≡ record { kind = kind.BadSequence; block = slot })
Finds seen SlotNumbers found = HaveOneNumber seen × (found ≡ record { kind = kind.SequenceTie; block = 1 })
Finds seen (SlotRoot slot) found =
    SlotIsOpen slot seen × IsRootDamage (RootPasses (body_of slot seen)) found.kind × (found.block ≡ slot)
Finds seen (ArrayPage block entries limit) found = IsArrayDamage (page_of block seen) entries limit found.kind × (found.block ≡ block)
Finds seen (BitsPage block bits) found = IsBitsDamage (page_of block seen) bits found.kind × (found.block ≡ block)
Finds seen HeldRoot found = IsRootDamage (HeldPasses (held_body seen)) found.kind × (found.block ≡ 2)
Finds seen (HeldSize sectors block_sectors) found =
    (¬ HasSize (fields_at (held_body seen)) sectors block_sectors) × (found ≡ record { kind = kind.HeldGeometry; block = 2 })

-- The first trial of a list that doesn't hold says this; all before it hold.
abbrev pub SaysFirst : {T E : Type 0} → (T → Type 0) → (T → E → Type 0) → List T → E → Type 0
SaysFirst Holds Says [] said = ⊥
SaysFirst Holds Says (trial ∷ trials) said = Says trial said ⊎ (Holds trial × SaysFirst Holds Says trials said)

-- The bytes of a disk pass all tests of a list.
abbrev pub PassAll : List ℕ → List Test → Type 0
PassAll seen tests = AllByRecursion (Passes seen) tests

-- The first test of a list that the bytes of a disk don't pass finds this damage.
abbrev pub FindsFirst : List ℕ → List Test → Damage → Type 0
FindsFirst seen tests found = SaysFirst (Passes seen) (Finds seen) tests found

-- The tests of the slots.
abbrev pub slot_tests : List Test
slot_tests = SlotNumber 0 ∷ SlotNumber 1 ∷ SlotNumbers ∷ SlotRoot 0 ∷ SlotRoot 1 ∷ []

-- The tests of the pages of an era array of so many blocks, from the page with an index on.
abbrev pub array_tests : ℕ → ℕ → ℕ → List ℕ → List Test
array_tests blocks limit index [] = []
array_tests blocks limit index (page ∷ pages) =
    ArrayPage page (min 1024 (blocks - 1024 * index)) limit ∷ array_tests blocks limit (index + 1) pages

-- The tests of the pages of a write set of so many blocks, from the page with an index on.
abbrev pub set_tests : ℕ → ℕ → List ℕ → List Test
set_tests blocks index [] = []
set_tests blocks index (page ∷ pages) = BitsPage page (min 32768 (blocks - 32768 * index)) ∷ set_tests blocks (index + 1) pages

-- The tests of the pages of archived sets, set by set.
abbrev pub archive_tests : ℕ → List Archived → List Test
archive_tests blocks sets = flat_map (λ set. set_tests blocks 0 set.pages) sets

-- The tests of a root's pages: those of the era array, of the archived sets, oldest first, and of the current set.
abbrev pub page_tests : RootFields → List Test
page_tests root =
    array_tests (blocks_of_root root) (root_limit root.archive root.era) 0 root.array
    ++ archive_tests (blocks_of_root root) root.archive ++ set_tests (blocks_of_root root) 0 root.current

-- The tests of a root's held root, where it holds a snapshot: its bytes, its geometry, and its pages.
abbrev pub held_tests : RootFields → RootFields → List Test
held_tests root held =
    if root.held then HeldRoot ∷ HeldSize root.sectors root.block_sectors ∷ page_tests held else []

-- The tests of all that a root reaches.
abbrev pub root_tests : RootFields → RootFields → List Test
root_tests root held = page_tests root ++ held_tests root held

-- The open slot of the greater commit number: slot 1 where it is open, and slot 0 is closed or has a smaller number.
abbrev pub newest_slot : List ℕ → ℕ
newest_slot seen =
    if (slice_index seen 4096 == 1) && (not (slice_index seen 0 == 1) || nat_lt (commit_number 0 seen) (commit_number 1 seen)) then 1 else 0

-- What the newest root of a disk says.
abbrev pub root_in : List ℕ → RootFields
root_in seen = fields_at (body_of (newest_slot seen) seen)

-- What the held root's place says.
abbrev pub held_in : List ℕ → RootFields
held_in seen = fields_at (held_body seen)

-- All tests of a disk, in their order.
abbrev pub damage_tests : List ℕ → List Test
damage_tests seen = slot_tests ++ root_tests (root_in seen) (held_in seen)
