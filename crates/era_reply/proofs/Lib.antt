pub mod Gives
pub mod ReplyParts
mod Trails
