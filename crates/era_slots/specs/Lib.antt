pub mod Slot
pub mod Standing
pub mod Promise
pub mod Calls
pub mod Opening
pub mod Found
pub mod Wiping
