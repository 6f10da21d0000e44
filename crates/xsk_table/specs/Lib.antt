-- The shared words and the rule that ties them to one legal history (docs/THREADS.md). To read in this order:
-- Words, Layout: counts and descriptors in words, and where each word stands. View: what a seat knows. Rule: the rule of the table.
-- Plays: what each step tells. Known, Looks: what is known of a ring's other side. Held: what a pass keeps. Opening, Meeting, Closing: a new table,
--   seats that meet, and the end. Laws.
pub mod Words
pub mod Layout
pub mod View
pub mod Rule
pub mod Known
pub mod Looks
pub mod Plays
pub mod Held
pub mod Opening
pub mod Meeting
pub mod Closing
pub mod Laws
