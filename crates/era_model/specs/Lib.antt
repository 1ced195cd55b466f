-- Marks: what a metadata image means, how it changes, and what of it is told.
pub mod Marks
pub mod EraRuns
pub mod MarkRuns
pub mod Digest
pub mod Merging
pub mod Validity
pub mod MarkLaws
pub mod Usage
-- Events and histories: what a history says of its last moment.
pub mod Events
pub mod Writes
pub mod History
pub mod Marking
pub mod Changed
-- Commands of a stream: the events that each may have, their order, and the text of a session.
pub mod Tasks
pub mod Commands
pub mod CommandEvents
pub mod SessionRun
pub mod Transcript
pub mod StreamLists
-- Legal histories: what each event, crash and opening asks of what stands before it.
pub mod Counts
pub mod Conditions
pub mod Recovered
pub mod Crashes
pub mod Legal
-- Journals and chains of them, and what is promised of them.
pub mod Journal
pub mod Chains
pub mod Promises
pub mod PlainCalls
-- Small sessions that are worked out by hand.
pub mod Rows
pub mod RowsOfWrites
pub mod RowsOfFaults
pub mod RowsOfDigests
pub mod RowsOfCrashes
pub mod RowsOfRecoveries
pub mod RowsOfRuns
