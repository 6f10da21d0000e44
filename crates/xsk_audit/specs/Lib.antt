-- Journals. To read in this order:
-- Lines, Reading: the lines of a text, and how one is read. Telling: which lines are those of a legal history.
-- Why, Naming: why one can't follow, and which name a frame. For code: Playing, Reasons, Shelf, Views.
pub mod Lines
pub mod Reading
pub mod Views
pub mod Shelf
pub mod Telling
pub mod Playing
pub mod Naming
pub mod Reasons
pub mod Why
