-- What a crash may bring back of the metadata, by a history: marks and a snapshot that may be recovered, or that are durable.
use Rattle.std.specs.Prelude.{◌≡◌, Bool, true, false, List}
use Rattle.era_base.specs.CrashModel.{State, Leaves}
use Rattle.era_meta.specs.Meaning.{Meaning, IsImageOf}
use Rattle.era_model.specs.declared.history.Happening.{Happening}
use Rattle.era_model.specs.History.{era_of}
use Rattle.era_model.specs.Marking.{era_is_volatile}
use Rattle.era_model.specs.Recovered.{IsRecoveredFrom, IsDurableFrom, fails_after_commits, is_switch}

-- Each crash image stands for marks and a snapshot that may be recovered by a history.
abbrev pub LeavesRecovered : List Happening → State → Type 0
LeavesRecovered h state =
    Leaves (λ image. (meaning : Meaning) × IsImageOf meaning image × IsRecoveredFrom h meaning.marks meaning.held) state

-- Each crash image stands for marks and a snapshot that are durable by a history.
abbrev pub LeavesDurable : List Happening → State → Type 0
LeavesDurable h state =
    Leaves (λ image. (meaning : Meaning) × IsImageOf meaning image × IsDurableFrom h meaning.marks meaning.held) state

-- A meaning that a crash may bring back is durable by a history, and has the present era unless that stands in memory alone.
pub record ComesBack (h : List Happening) (unstored : Bool) (meaning : Meaning) : Type 0 where
  pub durable : IsDurableFrom h meaning.marks meaning.held
  pub era : unstored ≡ false → meaning.marks.era ≡ era_of h

-- An era switch failed at the metadata behind the last commit, and its era stands in memory alone.
pub record HasFailedSwitch (h : List Happening) : Type 0 where
  pub volatile : era_is_volatile h ≡ true
  pub failed : fails_after_commits is_switch h h ≡ true
