pub mod Machine
pub mod AfterSteps
pub mod Schedules
pub mod Present
pub mod KeptState
pub mod Entries
