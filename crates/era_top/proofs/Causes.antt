-- Causes of refusals.
use Rattle.std.proofs.Common.{◌≡◌, inl, inr, ℕ, List, sym, ◌∙◌}
use Rattle.std.specs.Prelude.{Option}
use Rattle.era_base.specs.Faults.{Rose}
use Rattle.era_line.specs.declared.table_line.TableLine.{TableLine}
use Rattle.era_tools.specs.Around.{BayAround}
use Rattle.era_tools.specs.Needs.{AreGeometry}
use Rattle.era_tools.specs.Printing.{Prints}
use Rattle.era_tools.specs.Refusals.{refusal_status}
use Rattle.era_tools.specs.declared.refusal.Refusal.{Refusal}
use Rattle.era_tools.specs.declared.refusal.Refusal.TheVariants.{NoGeometry, SameDevice, OriginSmall, Metadata, NoSnap, BayFault, DataFault, NoRoom}
use Rattle.era_tools.specs.declared.status.Status.{Status}
use Rattle.era_tools.specs.declared.status.Status.TheVariants.{Fault}
use Rattle.era_top.specs.Openings.{IsOriginCause}
use Rattle.era_top.specs.Reports.{IsCauseOf}

-- why an origin wasn't lent
pub origin_cause : (D : Type 0) (bay : BayAround D) (line : TableLine) (refusal : Refusal)
    → AreGeometry line.length line.block_sectors → IsOriginCause bay line refusal → IsCauseOf line bay refusal
origin_cause D bay line NoRoom are cause = cause
origin_cause D bay line (BayFault count) are cause = (are, cause.0, cause.1)
origin_cause D bay line (OriginSmall have need) are cause = (are, cause.0, cause.1, cause.2, cause.3)
origin_cause D bay line (NoGeometry error size) are cause = absurd cause
origin_cause D bay line SameDevice are cause = absurd cause
origin_cause D bay line (Metadata error) are cause = absurd cause
origin_cause D bay line NoSnap are cause = absurd cause
origin_cause D bay line (DataFault count) are cause = absurd cause

-- a fault is the bay's
pub origin_rose : (D : Type 0) (bay : BayAround D) (line : TableLine) (refusal : Refusal) → IsOriginCause bay line refusal → refusal_status refusal ≡ Fault → Rose bay.faults bay.faults'
origin_rose D bay line NoRoom cause is = cc
origin_rose D bay line (BayFault count) cause is = cause.1
origin_rose D bay line (OriginSmall have need) cause is = cc
origin_rose D bay line (NoGeometry error size) cause is = absurd cause
origin_rose D bay line SameDevice cause is = absurd cause
origin_rose D bay line (Metadata error) cause is = absurd cause
origin_rose D bay line NoSnap cause is = absurd cause
origin_rose D bay line (DataFault count) cause is = absurd cause

-- a refusal whose text was given ends with its status, and by a fault where that is one
pub printed-fault : (given given' : Option (List ℕ)) (text : List ℕ) (ended result : Status) → Prints given given' text ended result → result ≡ Fault → ended ≡ Fault
printed-fault given given' text ended result (inl all) is = sym all.0 ∙ is
printed-fault given given' text ended result (inr some) is = cc (some.0)
