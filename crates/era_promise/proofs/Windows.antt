-- A crash at a place leaves something of a device whose notes are of the journal.
use Rattle.std.proofs.Common.{ℕ, ◌≤◌, List, length, arith}
use Rattle.era_base.specs.CrashModel.{IsCrashImage, State, clock, state_at}
use Rattle.era_model.specs.declared.journal.Journal.{Journal}
use Rattle.era_model.specs.Counts.{FaultyDisk}
use Rattle.era_notes.specs.Notes.{Note}
use Rattle.era_notes.specs.Windows.{AreOrdered, IsLeftAt, NotedDevice, window_end, window_start}
use Rattle.era_promise.specs.Sessions.{NotesAreOf}

pub some-image : ((begun last bound place : ℕ) (notes : List Note) → AreOrdered begun last bound notes → window_start begun place notes ≤ window_end last place notes) → ((state : State) → IsCrashImage state state.seen)
    → (journal : Journal) (disk : FaultyDisk) (device : NotedDevice) (place : ℕ) → NotesAreOf journal disk device → (image : List ℕ) × IsLeftAt device place image
some-image some reads journal disk device place notes =
    let first = window_start device.begun place device.notes in (
      (state_at device.history first).seen,
      record {
        moment = first;
        inside = record { begun = omega arith; ended = some device.begun (clock device.history) (length journal.entries) place device.notes notes.ordered };
        left = reads (state_at device.history first);
      },
    )
