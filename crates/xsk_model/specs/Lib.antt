-- The definitions of the object. To read in this order:
-- Config, Limits: the configuration of a set of sockets over one UMEM. Rings, Marks: who moves entries through each ring, who may swap each mark.
-- Entry, Object: calls, the reply and the state that each leaves. Own: what a caller's own calls and replies leave. Legal, Swaps, Ends: which call
--   it may make next. Opening, History: legal histories from the start on. Holders, Homes: who has a frame, and where it is at home.
--   Starts: other states to begin from.
-- Descriptor, Packets, Steering, Sent: packets in frames, where they go, and what a driver sent. Laws, StartLaws: what holds of all histories.
-- For code and proofs: Asks, Bases, Expected, MarkKinds, Numbers, OtherWords, Parts, Sizes, Stored.
pub mod Asks
pub mod Bases
pub mod Config
pub mod Descriptor
pub mod Entry
pub mod History
pub mod Holders
pub mod Homes
pub mod Laws
pub mod Legal
pub mod Limits
pub mod MarkKinds
pub mod Marks
pub mod Numbers
pub mod Object
pub mod Opening
pub mod Own
pub mod Packets
pub mod Parts
pub mod Rings
pub mod Sent
pub mod Sizes
pub mod StartLaws
pub mod Starts
pub mod Steering
pub mod Stored
pub mod Swaps
pub mod Expected
pub mod Ends
pub mod OtherWords
