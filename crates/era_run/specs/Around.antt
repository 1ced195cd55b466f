-- What stands outside of a call, when it began and when it returned.
use Rattle.std.specs.Prelude.{◌≡◌, ◌⊎◌, ℕ, ◌≤◌, length, slice_get, Some}
use Rattle.era_base.specs.Bay.{Loan}
use Rattle.era_base.specs.Faults.{Rose, NoneRose}
use Rattle.era_base.specs.declared.disk.Disk.{Ghosts}
pub use Rattle.era_serve.specs.Stops.{Around as StreamsAround, around as streams_around}
use Rattle.era_tools.specs.Around.{BayAround}
use Rattle.era_tools.specs.ReadTexts.{SourceAround}
use Rattle.era_tools.specs.declared.status.Status.{Status}
use Rattle.era_tools.specs.declared.status.Status.TheVariants.{Fault, Source}

-- The source of the streams around a call.
abbrev pub source_of : StreamsAround → SourceAround
source_of streams = record {
  left = streams.left;
  left' = streams.left';
  faults = streams.source_faults;
  faults' = streams.source_faults';
}

-- Nothing was taken of the source, and its count of faults is as before.
pub record LeavesSource (streams : StreamsAround) : Type 0 where
  pub left : streams.left' ≡ streams.left
  pub faults : streams.source_faults' ≡ streams.source_faults

-- A loan began in the call, and this disk was put back for it.
pub record CameBack {D : Type 0} (bay : BayAround D) (loan : Loan D) (back : D) : Type 0 where
  pub index : ℕ
  pub began : length bay.loans ≤ index
  pub found : slice_get bay.loans' index ≡ Some loan
  pub ended : loan.back ≡ Some back

-- The count of a disk rose that was lent and put back in the call.
pub record SomeDiskRose {D : Type 0} (disks : Ghosts D) (bay : BayAround D) : Type 0 where
  pub loan : Loan D
  pub back : D
  pub came_back : CameBack bay loan back
  pub rose : Rose (disks.faults loan.lent) (disks.faults back)

-- The bay's count rose, or that of a disk that it lent in the call.
abbrev pub SomeCountRose : {D : Type 0} → Ghosts D → BayAround D → Type 0
SomeCountRose disks bay = Rose bay.faults bay.faults' ⊎ SomeDiskRose disks bay

-- The count of the bay or of a disk rose in the call, where the run ended by a fault.
abbrev pub HasFaultCause : {D : Type 0} → Ghosts D → BayAround D → Status → Type 0
HasFaultCause disk bay result = result ≡ Fault → SomeCountRose disk bay

-- The source's count rose in the call, where the run ended by its failure.
abbrev pub HasSourceCause : StreamsAround → Status → Type 0
HasSourceCause streams result = result ≡ Source → Rose streams.source_faults streams.source_faults'

-- Each disk that was lent in the call was put back.
abbrev pub AllReturned : {D : Type 0} → BayAround D → Type 0
AllReturned {D} bay =
    (index : ℕ) (loan : Loan D) → length bay.loans ≤ index → slice_get bay.loans' index ≡ Some loan → (back : D) × (loan.back ≡ Some back)

-- No count of the source, the sink, the bay or a disk that it lent in the call rose.
pub record IsFaultless {D : Type 0} (disks : Ghosts D) (bay : BayAround D) (streams : StreamsAround) : Type 0 where
  pub quiet_source : NoneRose streams.source_faults streams.source_faults'
  pub quiet_sink : NoneRose streams.sink_faults streams.sink_faults'
  pub quiet_bay : NoneRose bay.faults bay.faults'
  pub quiet_disks : (loan : Loan D) (back : D) → CameBack bay loan back → NoneRose (disks.faults loan.lent) (disks.faults back)
