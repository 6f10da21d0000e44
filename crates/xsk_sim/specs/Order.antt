-- The order of the callers in a round. Each round has an order number: that of the first round is given, and each further
-- one is the number before it times 1103515245, modulo 2^32. All of this is this project's own.
use Rattle.std.specs.Prelude.{ℕ, zero, suc, ◌-◌, ◌*◌, ◌/◌, ◌%◌, ◌^◌, List, ◌++◌}
use Rattle.std.specs.List.{range_with_len}

-- the order number of the next round, and that of a round, counted from 0
abbrev pub next_number : ℕ → ℕ
next_number number = (number * 1103515245) % 2 ^ 32

abbrev pub number_at : ℕ → ℕ → ℕ
number_at order zero = order
number_at order (suc round) = next_number (number_at order round)

-- the caller that begins a round
abbrev pub start_of : ℕ → ℕ → ℕ
start_of callers number = (number / 65536) % callers

-- all callers in turn, from this one on
abbrev pub rotated : ℕ → ℕ → List ℕ
rotated callers start = range_with_len start (callers - start) ++ range_with_len 0 start
