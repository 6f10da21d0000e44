-- A run in rounds, on one thread. To read in this order:
-- Order, Rounds: histories in rounds. Runs: those of a configuration over packets. Stalls, Bounds: when nothing changes, and how often it can.
-- Journal. Shown, Left: what contracts see of a run, and of one that stalled. Rooms: the room of its calls in the log.
-- For code: Seats, Server, Turning, Counts, SoFar, Given.
pub mod Left
pub mod Order
pub mod Rounds
pub mod Runs
pub mod Seats
pub mod Shown
pub mod Stalls
pub mod Turning
pub mod Given
pub mod Bounds
pub mod Counts
pub mod Journal
pub mod Rooms
pub mod Server
pub mod SoFar
