pub mod Names
pub mod Rules
pub mod Commands
pub mod Jobs
pub mod Words
pub mod Laws
