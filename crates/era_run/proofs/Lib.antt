-- The lines of a session, and its text from its pieces.
pub mod LineParts
pub mod Texts
pub mod Pieces
pub mod Accounted
pub mod Reported
pub mod Streamed
