-- The application as a machine. To read in this order:
-- Shown: what a contract sees. Runs, Resumed: the calls and replies for which it stands. Of these: Waits, Frames.
-- For code: Stands (where the machine stands in the script), Ways.
pub mod Frames
pub mod Gives
pub mod Resumed
pub mod Runs
pub mod Shown
pub mod Stands
pub mod Waits
pub mod Ways
