-- What the functions did that read a disk and test what they read, over the slots. A definition takes the members of the disk's trait, as `D.Disk`.
use Rattle.std.specs.Prelude.{◌≡◌, ℕ, ◌+◌, ◌<◌, ◌⊎◌, true, List, [], ◌∷◌, Result, MatchResult, MatchOption}
use Rattle.era_base.specs.Calls.{SameDisk}
use Rattle.era_base.specs.CrashModel.{History, Went, clock}
use Rattle.era_base.specs.declared.disk.Disk.{Ghosts}
use Rattle.era_base.specs.Faults.{Rose}
use Rattle.era_layout.specs.declared.damage.DamageKind.{DamageKind}
use Rattle.era_layout.specs.declared.damage.RootError.{RootError}
use Rattle.era_layout.specs.Kinds.{damage_of_root}
use Rattle.era_slots.specs.declared.slots.Slots.{Slots}
use Rattle.era_slots.specs.Calls.{SameSlots}
use Rattle.era_meta.specs.declared.finding.Finding.{Finding}
use Rattle.era_meta.specs.declared.finding.Finding.TheVariants as finding
use Rattle.era_meta.specs.Damage.{Test, SlotNumber, SlotNumbers, SlotRoot, ArrayPage, BitsPage, HeldRoot, HeldSize, Passes, PassAll, FindsFirst}

-- How many blocks are read for a test, behind those of the slots.
abbrev pub reads_of : Test → ℕ
reads_of (SlotNumber slot) = 0
reads_of SlotNumbers = 0
reads_of (SlotRoot slot) = 0
reads_of (ArrayPage block entries limit) = 1
reads_of (BitsPage block bits) = 1
reads_of HeldRoot = 1
reads_of (HeldSize sectors block_sectors) = 0

-- How many blocks are read for all tests of a list.
abbrev pub all_reads : List Test → ℕ
all_reads [] = 0
all_reads (test ∷ tests) = reads_of test + all_reads tests

-- The last of so many reads failed: it is that of a test, and all tests before it pass, each with its reads.
abbrev pub FaultsAfter : List ℕ → List Test → ℕ → Type 0
FaultsAfter seen [] calls = ⊥
FaultsAfter seen (test ∷ tests) calls =
    ((0 < reads_of test) × (calls ≡ 1))
    ⊎ (Passes seen test × ((rest : ℕ) × (calls ≡ reads_of test + rest) × FaultsAfter seen tests rest))

-- What ended tests of a disk after so many reads: a fault at its place, or the first damage. Want of memory may come at any time.
abbrev pub EndsWith : List ℕ → List Test → ℕ → Finding → Type 0
EndsWith seen tests calls (finding.Fault count) = FaultsAfter seen tests calls
EndsWith seen tests calls (finding.Damage kind block) = FindsFirst seen tests (record { kind = kind; block = block })
EndsWith seen tests calls finding.Memory = Unit {0}

-- Tests of a disk, between two moments: the state is as it was, all tests pass at Ok, each with its reads, and else the first one that doesn't ended them.
pub record WalkedIn {T : Type 0} (tests : List Test) (old new : History) (result : Result T Finding) : Type 0 where
  pub went : Went (λ before now. now ≡ before) old new
  pub calls : ℕ
  pub time : clock new ≡ clock old + calls
  pub found : MatchResult result (λ _. PassAll old.now.seen tests × (calls ≡ all_reads tests)) (EndsWith old.now.seen tests calls)

-- Tests of bytes that were read before: all pass at Ok, and else the first damage ended them, or want of memory.
abbrev pub IsFoundIn : List ℕ → List Test → Finding → Type 0
IsFoundIn seen tests (finding.Fault count) = ⊥
IsFoundIn seen tests (finding.Damage kind block) = FindsFirst seen tests (record { kind = kind; block = block })
IsFoundIn seen tests finding.Memory = Unit {0}

-- The finding is no fault.
abbrev pub IsNoFault : Finding → Type 0
IsNoFault (finding.Fault count) = ⊥
IsNoFault (finding.Damage kind block) = Unit {0}
IsNoFault finding.Memory = Unit {0}

-- Bytes that were read before were tested.
abbrev pub IsTestedIn : {T : Type 0} → List ℕ → List Test → Result T Finding → Type 0
IsTestedIn seen tests result = MatchResult result (λ _. PassAll seen tests) (IsFoundIn seen tests)

-- What is found in a block for bytes of a root that are refused so.
abbrev pub IsRootFinding : ℕ → RootError → Finding → Type 0
IsRootFinding block error found = MatchOption (damage_of_root error) (found ≡ finding.Memory) (λ kind. found ≡ finding.Damage kind block)

-- The finding is a damage of this kind in a block.
abbrev pub IsDamageAt : ℕ → (DamageKind → Type 0) → Finding → Type 0
IsDamageAt block Is (finding.Fault count) = ⊥
IsDamageAt block Is (finding.Damage kind at) = Is kind × (at ≡ block)
IsDamageAt block Is finding.Memory = ⊥

-- The finding is a damage of this kind in a block, or want of memory.
abbrev pub IsDamageOrMemory : ℕ → (DamageKind → Type 0) → Finding → Type 0
IsDamageOrMemory block Is (finding.Fault count) = ⊥
IsDamageOrMemory block Is (finding.Damage kind at) = Is kind × (at ≡ block)
IsDamageOrMemory block Is finding.Memory = Unit {0}

-- A fault is the disk's count, which rose; behind anything else none came.
abbrev pub HasFindingCause : ℕ → ℕ → Finding → Type 0
HasFindingCause before now (finding.Fault count) = (count ≡ now) × Rose before now
HasFindingCause before now (finding.Damage kind block) = now ≡ before
HasFindingCause before now finding.Memory = now ≡ before

-- Tests of a disk over its slots.
pub record Walked {D T : Type 0} (disk : Ghosts D) (tests : List Test) (old new : Slots D) (result : Result T Finding) : Type 0 where
  pub told : disk.tells ≡ true → WalkedIn tests (disk.history old.disk) (disk.history new.disk) result
  pub slots : SameSlots old new
  pub same : SameDisk disk old.disk new.disk
  pub cause : MatchResult result (λ _. disk.faults new.disk ≡ disk.faults old.disk) (HasFindingCause (disk.faults old.disk) (disk.faults new.disk))
