-- What a command works with, and the receipts of what it drew.
pub mod Desks
pub mod Receipts
pub mod Chunks
-- What stands of a session before and after each call.
pub mod Sessions
-- What each call came to.
pub mod Writes
pub mod Marking
pub mod AtStripes
pub mod Reads
pub mod Requests
pub mod Checkpoints
-- What a command comes to, whatever it asks.
pub mod Serving
-- Which entries are those of the command that was served last.
pub mod Trails
-- What a session leaves at its end.
pub mod Ends
-- What a session begins with.
pub mod Openings
