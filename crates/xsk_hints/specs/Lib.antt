-- What is surely unwanted in a recording. To read in this order:
-- Facts: what is told. Told: the text. Wakes: frames on TX without a wake. For code: Noted, Tallies, Fills.
pub mod Fills
pub mod Facts
pub mod Noted
pub mod Tallies
pub mod Told
pub mod Wakes
