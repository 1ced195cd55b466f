-- The acts of a gate as a log of draws.
pub mod ActsLog
-- What stands of the owners of a session's devices, and the devices as they see them.
pub mod Ranges
pub mod Requests
pub mod OwnersStand
pub mod SeenDevices
-- A small session that is worked out by hand.
pub mod Rows
