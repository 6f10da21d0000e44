-- A pass between its calls.
use Rattle.std.specs.Prelude.{◌≡◌, ℕ, ◌<◌, List, None}
use Rattle.xsk_model.specs.Config.{Config, HasRing, callers_of}
use Rattle.xsk_model.specs.Rings.{producer, consumer}
use Rattle.xsk_model.specs.Entry.{Told, own}
use Rattle.xsk_model.specs.declared.call.Ring.{Ring}
use Rattle.xsk_table.specs.View.{idle}
use Rattle.xsk_table.specs.Held.{Board, Holder, Belongs}

-- a pass of this table that has no call in flight
abbrev pub Rests : Board → Holder → Type 0
Rests b p = Belongs b p × (p.view.flight ≡ idle)

-- its caller's own calls and replies
abbrev pub mine_of : Holder → List Told
mine_of p = own p.who p.view.seen

-- a caller that fills a ring, with no socket to close, and one that empties a ring
abbrev pub IsProducer : Config → ℕ → Ring → Type 0
IsProducer c who r = (who < callers_of c) × HasRing c r × (who ≡ producer c r) × (c.closing ≡ None)

abbrev pub IsConsumer : Config → ℕ → Ring → Type 0
IsConsumer c who r = (who < callers_of c) × HasRing c r × (who ≡ consumer c r)
