-- Disks that are put back in the order in which they were lent.
mod Rows
mod InRow
mod WholeRow
-- The parts of an origin, by arithmetic, and as they are lent.
mod SplitParts
mod PartsLent
-- Disks that go back for those that were lent.
mod BackForLent
-- What a refused preparing did to devices.
mod LeftSafe
-- What is lent behind what was lent, and what goes back of it.
mod LentBehind
-- What an opening came to, over all that was done before.
mod OpenedLent
-- The devices of a session that was opened, whatever it served.
mod BackAtEnd
