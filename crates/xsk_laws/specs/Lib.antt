-- Laws of whole runs. To read in this order:
-- Expected: what each port sends, by the input alone. Forwarded: what was delivered. Laws: what is sent is just that. Cut, Closed: where a socket is
--   closed. Lost, Reasons: what a wire that drops loses, and why. Woken: no wake is lost.
pub mod Reasons
pub mod Closed
pub mod Cut
pub mod Expected
pub mod Forwarded
pub mod Laws
pub mod Lost
pub mod Woken
