-- The ends of one application, by steps. To read in this order:
-- Shown: what contracts see. Steps: what a step tells. Last: the last hand. For code: Standing, Hand.
pub mod Shown
pub mod Standing
pub mod Steps
pub mod Last
pub mod Hand
