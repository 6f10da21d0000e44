-- Files of several interfaces (pcapng draft). To read in this order:
-- Blocks, Limits, Pcapng: what a file is. Written: how one is written. Laws. For code: Steps.
pub mod Limits
pub mod Blocks
pub mod Pcapng
pub mod Steps
pub mod Written
pub mod Laws
