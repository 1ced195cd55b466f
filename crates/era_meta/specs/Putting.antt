-- What is put on a disk before a commit, and what the commit asks of it.
use Rattle.std.specs.Prelude.{◌≡◌, ◌≢◌, ℕ, ◌≤◌, false, List, length, Option}
use Rattle.std.specs.List.{AllByRecursion}
use Rattle.era_base.specs.CrashModel.{State}
use Rattle.era_layout.specs.Root.{RootFields}
use Rattle.era_slots.specs.Slot.{other, page_of}
use Rattle.era_slots.specs.Standing.{IsDurable, Stands}
use Rattle.era_slots.specs.Promise.{KeepsBody}
use Rattle.era_meta.specs.Meaning.{pages_in, reached, IsWholeRoot}
use Rattle.era_meta.specs.Keeping.{HasRoom, Keeps}

-- The block is none of these.
abbrev pub IsNone : List ℕ → ℕ → Type 0
IsNone blocks block = AllByRecursion (λ put. block ≢ put) blocks

-- What a read gives of each metadata block behind the slots stays, and what was on the disk stays there; some blocks are left out.
pub record KeepsOthers (blocks : List ℕ) (before after : State) : Type 0 where
  pub seen : (block : ℕ) → 2 ≤ block → IsNone blocks block → page_of block after.seen ≡ page_of block before.seen
  pub durable : (block : ℕ) → 2 ≤ block → IsNone blocks block → IsDurable block before → IsDurable block after

-- A moment of puts into some blocks: the gate of the next commit is known to be closed, and the committed body and all other blocks are as they were.
pub record PutsAmong (blocks : List ℕ) (target number : ℕ) (before now : State) : Type 0 where
  pub size : length now.seen ≡ length before.seen
  pub kept : KeepsBody (other target) before now
  pub pages : KeepsOthers blocks before now
  pub stands : Stands target number false now

-- The blocks that are put are none of those that the committed root reaches, and the next root is of the same geometry and has the same snapshot.
pub record ArePagesFresh (puts : List ℕ) (root next : RootFields) (held : Option RootFields) : Type 0 where
  pub apart : AllByRecursion (IsNone puts) (reached root held)
  pub flag : next.held ≡ root.held
  pub sectors : next.sectors ≡ root.sectors
  pub block_sectors : next.block_sectors ≡ root.block_sectors

-- A root may be committed in place of the committed one: its pages, and those of its held root, are put.
pub record MayCommit (target number : ℕ) (root next : RootFields) (held held_next : Option RootFields) (now : State) : Type 0 where
  pub keeps : Keeps target number false root held now
  pub whole : IsWholeRoot (pages_in now.seen) next held_next
  pub room : HasRoom next now
