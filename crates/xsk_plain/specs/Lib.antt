-- The object on one thread. To read in this order:
-- Engine: what a contract sees, and which states of the object that is. Steps: what a call leaves. Rooms: its room in the log.
-- Unlogged: the same without a log. Checked, Histories: with standings. Counts: a ring in numbers. Laws.
-- For code: Stores, Kept, Object, Sound.
pub mod Checked
pub mod Counts
pub mod Engine
pub mod Histories
pub mod Kept
pub mod Laws
pub mod Object
pub mod Rooms
pub mod Sound
pub mod Steps
pub mod Stores
pub mod Unlogged
