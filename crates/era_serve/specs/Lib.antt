-- The stream of a source, and the rounds of it that were served.
pub mod Streams
-- The lane of a session's commands.
pub mod Lanes
-- What the answers to commands say.
pub mod Answers
-- The memory of commands.
pub mod Memories
-- What commands come to, and the text of their replies.
pub mod Replying
-- What rounds come to, and why no more of them were served.
pub mod Stops
