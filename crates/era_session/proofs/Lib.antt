-- Receipts from call to call.
pub mod Receipts
pub mod Requested
-- A session after a command at one stripe, at all of them, or at the keeper alone.
pub mod AtStripes
pub mod KeeperAlone
-- What a checkpoint did at a stripe, and at the keeper.
pub mod Settled
pub mod CheckpointEnds
-- What a request did at the keeper.
pub mod Asked
-- What each step of a marking asks and draws.
pub mod Marking
-- What each step of a write asks.
pub mod WriteSteps
-- The entries of a write in their order.
pub mod WriteTrails
-- How a write ends, by its last step.
pub mod WriteEnds
-- The stripe of a block, and a write or a read there.
pub mod Places
pub mod WriteAt
pub mod ReadAt
-- The entries of a command, part by part.
pub mod TrailParts
-- A request, whatever it asks.
pub mod Served
-- The trail of a command that was served, and the answer that it fixes.
pub mod TrailAnswers
pub mod TrailOwners
pub mod LeftTrails
-- The seats of a session at its end.
pub mod HandedOver
-- What a session begins with.
pub mod ListsInOrder
pub mod OriginBytes
pub mod SyncedParts
pub mod StripesBegun
pub mod SessionBegun
pub mod Prepared
