-- The counts of a layout.
use Rattle.std.proofs.Common.{◌≡◌, ℕ, ◌*◌, ◌<◌, ◌≤◌, ◌⊎◌, inl, inr, arith}
use Rattle.xsk_socket.specs.declared.layout.Layout.{Layout}
use Rattle.xsk_socket.specs.Fits.{Fits, HasCounts, IsCount}

pub some : (n : ℕ) → IsCount n → 0 < n
some n (inl is) = omega arith
some n (inr (inl is)) = omega arith
some n (inr (inr is)) = omega arith

pub few : (n : ℕ) → IsCount n → n ≤ 4
few n (inl is) = omega arith
few n (inr (inl is)) = omega arith
few n (inr (inr is)) = omega arith

pub some_ports : (n : ℕ) → (n ≡ 2) ⊎ (n ≡ 4) → 0 < n
some_ports n (inl is) = omega arith
some_ports n (inr is) = omega arith

pub few_ports : (n : ℕ) → (n ≡ 2) ⊎ (n ≡ 4) → n ≤ 4
few_ports n (inl is) = omega arith
few_ports n (inr is) = omega arith

pub product_some : (m n : ℕ) → 0 < m → 0 < n → 0 < m * n
product_some m n some_m some_n = grind arith

pub product_few : (m n a b : ℕ) → m ≤ a → n ≤ b → m * n ≤ a * b
product_few m n a b h k = grind arith

pub fits_counts : (l : Layout) → Fits l → HasCounts l
fits_counts l fits = record { ports = fits.ports; queues = fits.queues; sockets = fits.sockets }
