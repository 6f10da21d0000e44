-- Which call a caller may make next, by what a standing keeps. To read in this order:
-- Standing: the lists of own calls that a standing stands for. Why: the first condition of a call that fails. StandingLaws: what follows.
-- For code: Given, ItemNotes, Noted, Queue, Marked, Pieces, Roles, Setting.
pub mod Given
pub mod Marked
pub mod Noted
pub mod ItemNotes
pub mod Pieces
pub mod Queue
pub mod Roles
pub mod Setting
pub mod Standing
pub mod StandingLaws
pub mod Why
