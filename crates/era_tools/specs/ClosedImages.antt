-- A tool over the metadata device of a closed image: what it was lent, what it found there, and what stands in the end. A definition takes the members of the disk's trait, as `D.Disk`.
use Rattle.std.specs.Prelude.{◌≡◌, ◌⊎◌, ℕ, List, [], ◌∷◌, ◌++◌, true, Option, Some, None, Result, Ok, Err}
use Rattle.era_base.specs.Bay.{ended_loan, new_loan, ReadsAs, SameReads, SameReadsBut}
use Rattle.era_base.specs.Faults.{Rose}
use Rattle.era_base.specs.declared.disk.Disk.{Ghosts}
use Rattle.era_meta.specs.declared.metadata.Meta.{Meta}
use Rattle.era_meta.specs.declared.refusal.MetaError.{MetaError}
use Rattle.era_meta.specs.Meaning.{Meaning, IsImageOf}
use Rattle.era_meta.specs.Openings.{IsLooked, Tried}
use Rattle.era_meta.specs.Trials.{look_trials}
use Rattle.era_tools.specs.declared.refusal.Refusal.{Refusal}
use Rattle.era_tools.specs.declared.refusal.Refusal.TheVariants.{Metadata, BayFault, NoRoom}
use Rattle.era_tools.specs.declared.status.Status.{Status}
use Rattle.era_tools.specs.Around.{BayAround, KeepsReads, LeavesBay}
use Rattle.era_tools.specs.Printing.{Prints}
use Rattle.era_tools.specs.Refusals.{refusal_status, refusal_text}

-- The whole metadata device was lent, as it reads.
pub record IsMetadataLent {D : Type 0} (disk : Ghosts D) (bay : BayAround D) (name : List ℕ) (lent : D) : Type 0 where
  pub place : disk.place lent ≡ record { device = name; first = 0 }
  pub size : bay.sizes name ≡ Some (disk.sectors lent)
  pub content : disk.tells ≡ true → ReadsAs bay.reads name 0 (disk.sectors lent) (disk.history lent).now

-- The metadata device was lent, and its loan is the last one.
pub record HasLent {D : Type 0} (disk : Ghosts D) (bay : BayAround D) (name : List ℕ) (lent : D) : Type 0 where
  pub taken : IsMetadataLent disk bay name lent
  pub loans : bay.loans' ≡ bay.loans ++ new_loan lent ∷ []
  pub reads : SameReads bay.reads bay.reads'
  pub faults : bay.faults' ≡ bay.faults

-- The exact cause for which a metadata device isn't lent: the bay failed, or memory was refused there. The bay is as before.
abbrev pub IsNotLent : {D : Type 0} → BayAround D → Refusal → Type 0
IsNotLent bay (BayFault count) = LeavesBay bay × (count ≡ bay.faults') × Rose bay.faults bay.faults'
IsNotLent bay NoRoom = LeavesBay bay × (bay.faults' ≡ bay.faults)
IsNotLent bay refusal = ⊥

-- A metadata device was lent, or wasn't for this cause.
abbrev pub LendsMetadata : {D : Type 0} → Ghosts D → BayAround D → List ℕ → Result D Refusal → Type 0
LendsMetadata disk bay name (Ok lent) = HasLent disk bay name lent
LendsMetadata disk bay name (Err refusal) = IsNotLent bay refusal

-- The metadata device was lent and opened, and nothing was written.
pub record HasOpened {D : Type 0} (disk : Ghosts D) (bay : BayAround D) (name : List ℕ) (meta : Meta D) : Type 0 where
  pub lent : D
  pub has_lent : HasLent disk bay name lent
  pub tried : Tried disk look_trials lent meta.slots.disk None
  pub looked : IsLooked disk lent meta

-- The metadata device was lent, tried by a look with this end, and put back; it reads as before.
pub record HasTried {D : Type 0} (disk : Ghosts D) (bay : BayAround D) (name : List ℕ) (lent : D) (ended : Option MetaError) : Type 0 where
  pub back : D
  pub taken : IsMetadataLent disk bay name lent
  pub loans : bay.loans' ≡ bay.loans ++ ended_loan (new_loan lent) back ∷ []
  pub tried : Tried disk look_trials lent back ended
  pub reads : disk.tells ≡ true → KeepsReads bay.reads bay.reads'
  pub others : SameReadsBut name 0 (disk.sectors lent) bay.reads bay.reads'
  pub faults : bay.faults' ≡ bay.faults

-- The exact cause for which a metadata device isn't opened: it wasn't lent, or a look refused it, and it was put back.
abbrev pub IsUnopened : {D : Type 0} → Ghosts D → BayAround D → List ℕ → Refusal → Type 0
IsUnopened {D} disk bay name (Metadata error) = (lent : D) × HasTried disk bay name lent (Some error)
IsUnopened disk bay name refusal = IsNotLent bay refusal

-- A metadata device was opened, or isn't for this cause.
abbrev pub OpensMetadata : {D : Type 0} → Ghosts D → BayAround D → List ℕ → Result (Meta D) Refusal → Type 0
OpensMetadata disk bay name (Ok meta) = HasOpened disk bay name meta
OpensMetadata disk bay name (Err refusal) = IsUnopened disk bay name refusal

-- A tool told something of what an undamaged image stands for.
pub record TellsOfImage {D : Type 0} (disk : Ghosts D) (bay : BayAround D) (name : List ℕ) (Tells : Meaning → Type 0) : Type 0 where
  pub meaning : Meaning
  pub lent : D
  pub tried : HasTried disk bay name lent None
  pub stands : disk.tells ≡ true → IsImageOf meaning (disk.history lent).now.seen
  pub told : Tells meaning

-- A tool told why it did nothing: the metadata device isn't opened.
pub record TellsUnopened {D : Type 0} (disk : Ghosts D) (bay : BayAround D) (name : List ℕ) (given given' : Option (List ℕ)) (result : Status) : Type 0 where
  pub refusal : Refusal
  pub cause : IsUnopened disk bay name refusal
  pub printed : Prints given given' (refusal_text refusal) (refusal_status refusal) result

-- A tool went so over a closed image.
abbrev pub RunsOver : {D : Type 0} → Ghosts D → BayAround D → List ℕ → Option (List ℕ) → Option (List ℕ) → Status → (Meaning → Type 0) → Type 0
RunsOver disk bay name given given' result Tells = TellsOfImage disk bay name Tells ⊎ TellsUnopened disk bay name given given' result
