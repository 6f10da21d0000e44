-- The room that a call takes in the log.
use Rattle.std.specs.Prelude.{ℕ, ◌*◌}
use Rattle.xsk_umem.specs.Limits.{most_items}

-- the most payload bytes of a call: a chunk for each item that it may have
abbrev pub most_payload : ℕ
most_payload = most_items * 4096
