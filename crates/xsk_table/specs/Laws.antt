-- What follows from what the steps of a table tell.
use Rattle.std.specs.Prelude.{◌≡◌, ◌≢◌, ℕ, ◌<◌, length}
use Rattle.xsk_model.specs.Config.{HasRing}
use Rattle.xsk_model.specs.Rings.{consumer}
use Rattle.xsk_model.specs.Entry.{own}
use Rattle.xsk_model.specs.Own.{peeked_of}
use Rattle.xsk_model.specs.declared.call.Ring.{Ring}
use Rattle.xsk_model.specs.declared.call.Call.TheVariants.{Peek}
use Rattle.xsk_model.specs.declared.call.Reply.{Reply}
use Rattle.xsk_model.specs.declared.call.Reply.TheVariants.{Empty}
use Rattle.xsk_table.specs.View.{Basis, View}
use Rattle.xsk_table.specs.Rule.{given}
use Rattle.xsk_table.specs.Plays.{Extends}

-- What a meet is good for: where a consumer has seen more items come into a ring than it has peeked there, its next Peek
-- isn't answered Empty, whatever was done that it hasn't seen.
abbrev pub FindsWhatWasSeen : Type 0
FindsWhatWasSeen = (k : Basis) (who : ℕ) (r : Ring) (n : ℕ) (reply : Reply) (v w : View) → HasRing k.config r → who ≡ consumer k.config r
    → length (peeked_of r (own who v.seen)) < given k r v.seen
    → Extends k who (Peek r n) reply v w → reply ≢ Empty
