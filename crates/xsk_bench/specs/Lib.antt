-- Drivers beside an application of one's own. To read in this order:
-- Traffic: what is received. Played: the histories. Serving: what a call adds, and why another isn't served. Laws.
-- For code: Drives, DriverRounds.
pub mod Drives
pub mod Laws
pub mod Played
pub mod DriverRounds
pub mod Serving
pub mod Traffic
