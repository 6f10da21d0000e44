-- The setup of sockets, and layouts. To read in this order:
-- Setup: what accepted calls leave. Refusals: why one is refused. Sealed: the configuration.
-- Layout: what a command can ask for. Regular: its configuration. For code and proofs: Bound, Fits, InPlace, Rings, Sound.
pub mod Bound
pub mod Fits
pub mod InPlace
pub mod Layout
pub mod Refusals
pub mod Regular
pub mod Rings
pub mod Sealed
pub mod Setup
pub mod Sound
