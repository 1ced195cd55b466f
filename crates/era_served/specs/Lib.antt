-- The commands that a session served, and what its journal says of them.
pub mod Served
-- What the commands' answers tell of the counts of faults.
pub mod Counts
