-- A run that stands still, as text. To read in this order:
-- Why: the whole. Waiting, Rings, Held: what callers wait for, what stands in rings, and which frames callers have.
-- For code: KeptWaits, KeptFrames, Frames, Numbered.
pub mod Frames
pub mod KeptFrames
pub mod Held
pub mod Numbered
pub mod Rings
pub mod Waiting
pub mod KeptWaits
pub mod Why
