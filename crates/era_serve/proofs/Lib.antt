-- Commands that were served, and more of them behind.
pub mod ServedSteps
-- Which commands may be served behind others.
pub mod MayServe
-- The one lane of a session, and which rounds may be served in it.
pub mod SessionLane
-- The rounds so far, and what the next one or the stop makes of them.
pub mod SoFar
