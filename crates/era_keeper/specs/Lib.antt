-- What the keeper's own entries say, which meanings a crash may bring back, and what stands of a keeper before and after each call.
pub mod OwnEntries
pub mod Recovery
pub mod Keepers
-- What the calls ask and what they did.
pub mod Calls
pub mod Steps
pub mod Storing
pub mod Results
pub mod SnapshotResults
pub mod Answers
pub mod InStoredEra
