-- Entries of one device with their moments, and what holds through all moments between them.
pub mod Notes
pub mod Windows
-- A range of the origin on a disk of its own, and what the disk holds of it.
pub mod Parts
-- Memory that a command brings along.
pub mod Rooms
-- The order of all draws of a session, and what one device's own draws say of it.
pub mod Logs
pub mod OwnDraws
