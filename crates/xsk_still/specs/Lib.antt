-- That nobody stands still. To read in this order:
-- Still: calls that change nothing, and why a worker stays. Own: what holds at each of its calls. Laws.
pub mod Still
pub mod Own
pub mod Laws
