-- The devices of a session and how they follow its journal, and what that promises of its marks after a crash.
pub mod Sessions
pub mod Survival
-- What the owners of the devices keep of them.
pub mod Owners
pub mod OwnConditions
-- Calls in a row: what an opening may leave, what a call may leave, and the history of calls.
pub mod Openings
pub mod Calls
-- A small session that is worked out by hand.
pub mod Rows
