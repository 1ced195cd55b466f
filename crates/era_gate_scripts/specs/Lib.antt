-- What the rows of the gate ask and tell.
pub mod Rows
