-- The bench for C, as c/include/xsk_c.h declares it. To read in this order:
-- Held: what a handle owns. Opened, Captures: how one is opened. Calls, Rounds, Reading, Journal: what the exports do.
-- Answers, Texts: what they tell. For code: Items, Live, Purse.
pub mod Answers
pub mod Calls
pub mod Captures
pub mod Held
pub mod Items
pub mod Journal
pub mod Live
pub mod Opened
pub mod Purse
pub mod Reading
pub mod Rounds
pub mod Texts
