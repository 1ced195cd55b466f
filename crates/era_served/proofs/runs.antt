-- What a history says of the entries that it goes on with.
mod Histories
-- The order of the commands in a journal.
mod Order
-- The stripes of a session's cut writes.
mod Cuts
-- The events of requests and reads, of a checkpoint's resolutions, and of writes.
mod Requested
mod Resolved
mod Written
-- The events of one command, and of all of them.
mod Steps
mod Chain
