pub mod BayReads
pub mod Entries
pub mod FirstDevice
pub mod PlainReads
pub mod RowParts
pub mod SyncedRows
pub mod TornRows
pub mod States
pub mod Replay
mod ImageSizes
pub mod TextEnds
