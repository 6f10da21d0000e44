-- Captures (pcap-savefile(5)). To read in this order:
-- Numbers, Limits, Capture: what a capture is. Written: how one is written. Laws. For code: Steps, Kept, Laid.
pub mod Numbers
pub mod Limits
pub mod Capture
pub mod Written
pub mod Laws
pub mod Steps
pub mod Kept
pub mod Laid
