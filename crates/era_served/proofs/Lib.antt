-- The entries of lanes of which one alone got receipts.
pub mod LaneEntries
-- The events of each command in a history of numbered entries, and the replies by them.
pub mod TrailEvents
-- What the commands that a session served leave in its pass.
pub mod ServedPasses
-- The entries and the era of a journal over one lane.
pub mod ServedJournals
-- Counts of faults over one command, and over commands one after the other.
mod StepCounts
mod ChainCounts
-- The answers of commands where no device fails.
mod QuietAnswers
