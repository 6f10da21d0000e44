-- The memory that sockets share. To read in this order:
-- Geometry, Registration, Limits: how an area is cut. Frame, Frames, Batch: what moves.
-- PacketList, Span, Shared: packets in one text. For code: Walks.
pub mod Geometry
pub mod Batch
pub mod Frame
pub mod Frames
pub mod Limits
pub mod PacketList
pub mod Registration
pub mod Shared
pub mod Span
pub mod Walks
