-- One program's ring calls, and when they are possible. To read in this order:
-- Setting, Entries: a UMEM and its rings. Object: one call. Own, Legal: what a party may call.
-- Possible: the calls of a program that some kernel answers so. Local: the same without kernels. Laws. For code: Parts.
pub mod Setting
pub mod Entries
pub mod Object
pub mod Own
pub mod Legal
pub mod Possible
pub mod Local
pub mod Laws
pub mod Parts
