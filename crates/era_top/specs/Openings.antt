-- What opening the origin of a table line does, and serving a session over it.
use Rattle.std.specs.Prelude.{◌≡◌, ℕ, ◌<◌, List, [], ◌∷◌, ◌++◌, true, Some, Result, MatchResult}
use Rattle.era_base.specs.declared.disk.Disk.{Ghosts}
use Rattle.era_base.specs.declared.geometry.Geometry.{Geometry}
use Rattle.era_base.specs.declared.bay_error.BayError.{BayError}
use Rattle.era_base.specs.declared.bay_error.BayError.TheVariants.{Failed, Memory}
use Rattle.era_base.specs.Bay.{Loan, new_loan, ended_loan, NowReadsAs, ReadsAs, SameReads, SameReadsBut}
use Rattle.era_base.specs.CrashModel.{IsWhole}
use Rattle.era_base.specs.Faults.{Rose}
use Rattle.era_line.specs.declared.table_line.TableLine.{TableLine}
use Rattle.era_tools.specs.declared.refusal.Refusal.{Refusal}
use Rattle.era_tools.specs.declared.refusal.Refusal.TheVariants.{NoRoom, BayFault, OriginSmall}
use Rattle.era_tools.specs.declared.status.Status.{Status}
use Rattle.era_tools.specs.declared.status.Status.TheVariants.{Fault}
use Rattle.era_tools.specs.Around.{BayAround, LeavesBay}
use Rattle.era_tools.specs.Refusals.{refusal_status}
use Rattle.era_top.specs.Around.{StreamsAround}
use Rattle.era_top.specs.Reports.{HasGeometry, IsCauseOf, IsOrigin, around_session}
use Rattle.era_top.specs.Rises.{HasRiseFor}
use Rattle.era_top.specs.Endings.{Goes}

-- The origin of a table line was lent as it reads, and its loan is the last one.
pub record IsOriginLent {D : Type 0} (disks : Ghosts D) (bay : BayAround D) (line : TableLine) (lent : D) : Type 0 where
  pub origin : IsOrigin disks bay line lent
  pub content : disks.tells ≡ true → ReadsAs bay.reads line.origin 0 line.length (disks.history lent).now
  pub loans : bay.loans' ≡ bay.loans ++ new_loan lent ∷ []
  pub reads : SameReads bay.reads bay.reads'
  pub faults : bay.faults' ≡ bay.faults

-- The cause for which the origin of a table line wasn't lent.
abbrev pub IsOriginCause : {D : Type 0} → BayAround D → TableLine → Refusal → Type 0
IsOriginCause bay line NoRoom = bay.faults' ≡ bay.faults
IsOriginCause bay line (BayFault count) = (count ≡ bay.faults') × Rose bay.faults bay.faults'
IsOriginCause bay line (OriginSmall have need) =
    (bay.sizes line.origin ≡ Some have) × (need ≡ line.length) × (have < need) × (bay.faults' ≡ bay.faults)
IsOriginCause bay line refusal = ⊥

-- The refusal for which a bay with this count of faults didn't answer.
abbrev pub bay_refusal : ℕ → BayError → Refusal
bay_refusal count Failed = BayFault count
bay_refusal count Memory = NoRoom

-- The origin of a table line was lent, or wasn't for this cause.
abbrev pub OpensOrigin : {D : Type 0} → Ghosts D → BayAround D → TableLine → Result D Refusal → Type 0
OpensOrigin disks bay line result = MatchResult result (IsOriginLent disks bay line) (λ refusal. IsOriginCause bay line refusal × LeavesBay bay)

-- The origin of a table line was lent, with the geometry that the line gives it.
pub record IsOpened {D : Type 0} (line : TableLine) (disks : Ghosts D) (bay : BayAround D) (geometry : Geometry) (lent : D) : Type 0 where
  pub asked : HasGeometry line geometry
  pub taken : IsOriginLent disks bay line lent

-- The origin of a table line wasn't lent for this cause, and a fault is the bay's.
pub record IsUnopened {D : Type 0} (line : TableLine) (bay : BayAround D) (refusal : Refusal) : Type 0 where
  pub cause : IsCauseOf line bay refusal
  pub left : LeavesBay bay
  pub rose : refusal_status refusal ≡ Fault → Rose bay.faults bay.faults'

-- The origin of a table line was lent, or wasn't for this cause.
abbrev pub OpensAsAsked : {D : Type 0} → TableLine → Ghosts D → BayAround D → Result (Geometry × D) Refusal → Type 0
OpensAsAsked line disks bay result =
    MatchResult result (λ opened. IsOpened line disks bay opened.0 opened.1) (IsUnopened line bay)

-- A session was served over a disk, and the disk was put back behind the loans that began before it.
pub record HasServed {D : Type 0} (geometry : Geometry) (contents : List ℕ) (disks : Ghosts D) (bay : BayAround D)
    (streams : StreamsAround) (before : List (Loan D)) (lent : D) (result : Status) : Type 0 where
  pub back : D
  pub loans : bay.loans' ≡ before ++ ended_loan (new_loan lent) back ∷ []
  pub goes : Goes geometry contents (around_session disks streams lent back) streams.given streams.given' result
  pub rose : HasRiseFor result streams.source_faults streams.source_faults' streams.sink_faults streams.sink_faults' (disks.faults lent) (disks.faults back)
  pub content : disks.tells ≡ true → NowReadsAs bay.reads' (disks.place lent).device (disks.place lent).first (disks.sectors lent) (disks.history back).now
  pub was_whole : disks.tells ≡ true → IsWhole (disks.sectors lent) (disks.history lent).now
  pub whole : disks.tells ≡ true → IsWhole (disks.sectors lent) (disks.history back).now
  pub others : SameReadsBut (disks.place lent).device (disks.place lent).first (disks.sectors lent) bay.reads bay.reads'
  pub faults : bay.faults' ≡ bay.faults
