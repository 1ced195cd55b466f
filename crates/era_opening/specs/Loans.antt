-- Disks that a bay lent one after another, and takes back in that order. A definition takes the members of the disk's trait, as `D.Disk`.
use Rattle.std.specs.Prelude.{◌≡◌, ℕ, ◌+◌, ◌<◌, ◌≤◌, true, List, [], ◌∷◌, ◌++◌, length, map, slice_get, Option, Some}
use Rattle.era_base.specs.Bay.{ended_loan, new_loan, Loan, NowReadsAs}
use Rattle.era_base.specs.Calls.{SameDisk}
use Rattle.era_base.specs.declared.disk.Disk.{Ghosts}
use Rattle.era_tools.specs.Around.{BayAround}

-- A disk that was lent and put back: as it was lent, and as it was put back.
pub record Taken (D : Type 0) : Type 0 where
  pub lent : D
  pub back : D

-- The disks as they were lent.
abbrev pub lents_of : {D : Type 0} → List (Taken D) → List D
lents_of {D} taken = map (λ (one : Taken D). one.lent) taken

-- The disks as they were put back.
abbrev pub backs_of : {D : Type 0} → List (Taken D) → List D
backs_of {D} taken = map (λ (one : Taken D). one.back) taken

-- The loans of disks that were lent in this order and are out.
abbrev pub new_loans : {D : Type 0} → List D → List (Loan D)
new_loans {D} lent = map (λ (one : D). new_loan one) lent

-- The loans of disks that were lent in this order and put back.
abbrev pub loans_of : {D : Type 0} → List (Taken D) → List (Loan D)
loans_of {D} taken = map (λ (one : Taken D). ended_loan (new_loan one.lent) one.back) taken

-- Disks lie in order: of two on one device the later one begins behind the first sector of the earlier one, and not before its end.
abbrev pub LieInOrder : {D : Type 0} → Ghosts D → List D → Type 0
LieInOrder {D} disk disks = (j k : ℕ) (one other : D) → j < k → slice_get disks j ≡ Some one → slice_get disks k ≡ Some other
    → (disk.place one).device ≡ (disk.place other).device
    → ((disk.place one).first < (disk.place other).first) × ((disk.place one).first + disk.sectors one ≤ (disk.place other).first)

-- The last loans are out, those of these disks in their order, and each disk to be put back lies where its loan does.
pub record AreLastOut {D : Type 0} (disk : Ghosts D) (before : List (Loan D)) (taken : List (Taken D)) (all : List (Loan D)) : Type 0 where
  pub loans : all ≡ before ++ new_loans (lents_of taken)
  pub same : (k : ℕ) (one : Taken D) → slice_get taken k ≡ Some one → SameDisk disk one.lent one.back

-- The disks are those whose loans are out last.
pub record AreOut {D : Type 0} (disk : Ghosts D) (disks : List D) (loans : List (Loan D)) : Type 0 where
  pub before : List (Loan D)
  pub taken : List (Taken D)
  pub out : AreLastOut disk before taken loans
  pub back : backs_of taken ≡ disks

-- The last loans, which were out, are ended by these disks in their order.
abbrev pub EndInOrder : {D : Type 0} → Ghosts D → List D → List (Loan D) → List (Loan D) → Type 0
EndInOrder {D} disk disks old new = (before : List (Loan D)) (taken : List (Taken D))
    → AreLastOut disk before taken old → backs_of taken ≡ disks → new ≡ before ++ loans_of taken

-- A sector of a device is one of a disk.
pub record IsOnDisk {D : Type 0} (disk : Ghosts D) (one : D) (device : List ℕ) (sector : ℕ) : Type 0 where
  pub of : device ≡ (disk.place one).device
  pub begun : (disk.place one).first ≤ sector
  pub within : sector < (disk.place one).first + disk.sectors one

-- What sectors read as is the same in both, but for those of these disks.
abbrev pub SameReadsBeside : {D : Type 0} → Ghosts D → List D → (List ℕ → ℕ → Option (List ℕ)) → (List ℕ → ℕ → Option (List ℕ)) → Type 0
SameReadsBeside {D} disk disks old new = (device : List ℕ) (sector : ℕ)
    → ((k : ℕ) (one : D) → slice_get disks k ≡ Some one → ¬ IsOnDisk disk one device sector) → new device sector ≡ old device sector

-- The sectors of these disks are told, and read as the disks do.
abbrev pub ReadAsDisks : {D : Type 0} → Ghosts D → List D → (List ℕ → ℕ → Option (List ℕ)) → Type 0
ReadAsDisks {D} disk disks reads = (k : ℕ) (one : D) → slice_get disks k ≡ Some one
    → NowReadsAs reads (disk.place one).device (disk.place one).first (disk.sectors one) (disk.history one).now

-- Disks as they were lent, each with the one that is put back for it.
abbrev pub taken_of : {D : Type 0} → List D → List D → List (Taken D)
taken_of [] backs = []
taken_of (one ∷ lent) [] = []
taken_of (one ∷ lent) (back ∷ backs) = record { lent = one; back = back } ∷ taken_of lent backs

-- Each disk lies where the one of its number was lent, and there are as many.
pub record LieWhereLent {D : Type 0} (disk : Ghosts D) (lent backs : List D) : Type 0 where
  pub count : length backs ≡ length lent
  pub same : (k : ℕ) (one back : D) → slice_get lent k ≡ Some one → slice_get backs k ≡ Some back → SameDisk disk one back

-- The last loans are out, those of disks that were lent in order and lie apart, and each of these disks lies where the one of its number was lent.
pub record AreForLent {D : Type 0} (disk : Ghosts D) (before : List (Loan D)) (lent backs : List D) (loans : List (Loan D)) : Type 0 where
  pub out : loans ≡ before ++ new_loans lent
  pub apart : LieInOrder disk lent
  pub lie : LieWhereLent disk lent backs

-- Disks may go back: their loans are out last.
pub record MayGoBack {D : Type 0} (disk : Ghosts D) (backs : List D) (loans : List (Loan D)) : Type 0 where
  pub before : List (Loan D)
  pub lent : List D
  pub are : AreForLent disk before lent backs loans

-- Disks were put back: the last loans, which were out, are ended by them in their order; the bay reads as they do there, and elsewhere as before; and it didn't fail.
pub record ArePutBack {D : Type 0} (disk : Ghosts D) (bay : BayAround D) (backs : List D) : Type 0 where
  pub loans : (before : List (Loan D)) (lent : List D) → AreForLent disk before lent backs bay.loans → bay.loans' ≡ before ++ loans_of (taken_of lent backs)
  pub content : disk.tells ≡ true → ReadAsDisks disk backs bay.reads'
  pub others : SameReadsBeside disk backs bay.reads bay.reads'
  pub faults : bay.faults' ≡ bay.faults
