-- The judge of a program's calls. To read in this order:
-- Stands: the calls for which a judge stands. Reasons: why a call can't be. For code: Kept, First, Judging, Refusing.
pub mod Kept
pub mod Judging
pub mod Stands
pub mod First
pub mod Reasons
pub mod Refusing
