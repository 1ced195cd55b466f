pub mod RunLists
pub mod CrashImages
pub mod Moments
pub mod CallsSince
pub mod SyncedWrites
mod ListedRuns
