-- The log of all calls. To read in this order:
-- Line, Rows: the journal's line of an entry. Log: the entries that a log shows, and what its steps change. Items: those of an entry.
-- Left: a walk over entries. For code, how a log keeps them: Pieces, Extents, Repeats, RowCodes, Notes.
pub mod Extents
pub mod Items
pub mod Left
pub mod Line
pub mod Log
pub mod Notes
pub mod Pieces
pub mod Repeats
pub mod RowCodes
pub mod Rows
