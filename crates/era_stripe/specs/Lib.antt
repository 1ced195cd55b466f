-- What a stripe's own entries say, and what stands of a stripe before and after each call.
pub mod OwnEntries
pub mod Stripes
-- What the calls ask and what they did.
pub mod Calls
pub mod Results
