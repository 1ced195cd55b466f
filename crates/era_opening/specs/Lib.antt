-- What an opening asks of a bay, and what the bay lends for it.
pub mod Splits
pub mod Lending
-- Disks that were lent in a row, and are put back so.
pub mod Loans
-- What the opening of a session comes to.
pub mod Openings
