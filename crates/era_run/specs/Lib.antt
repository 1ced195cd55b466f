-- The outside around a call, how a session ends, what its journal accounts for, and what a call for it reports.
pub mod Around
pub mod Endings
pub mod Accounts
pub mod Reports
-- What each step of a run comes to.
pub mod Steps
