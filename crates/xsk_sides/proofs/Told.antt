-- Each call on a ring is told, as one on that ring, and no other call is.
use Rattle.std.proofs.Common.{◌≡◌, Bool, true, false, cond, nat_le, List, [], ◌∷◌, refl, sym, subst}
use Rattle.std.specs.Option.{option_map}
use Rattle.xsk_umem.specs.declared.batch.Item.{Item}
use Rattle.xsk_model.specs.Config.{Config, size_of}
use Rattle.xsk_model.specs.Object.{State, ring_at, free, peek_reply, reply_at, call_ring}
use Rattle.xsk_model.specs.History.{state_after}
use Rattle.xsk_model.specs.declared.call.Call.{Call}
use Rattle.xsk_model.specs.declared.call.Call.TheVariants.{Reserve, Submit, Peek, Release, Swap, Look}
use Rattle.xsk_model.specs.declared.call.Reply.{Reply}
use Rattle.xsk_model.specs.declared.call.Reply.TheVariants.{Granted, Full}
use Rattle.xsk_model.proofs.Replies.{history_entry}
use Rattle.xsk_side.specs.Object.{ring_of}
use Rattle.xsk_sides.specs.Sides.{side_call}
use Rattle.xsk_sides.specs.Laws.{TellsAll}

abbrev Tells : Call → Reply → Type 0
Tells call reply = option_map ring_of (side_call call reply) ≡ call_ring call

tells : (c : Config) (s : State) (call : Call) → Tells call (reply_at c s call)
tells c s (Reserve r n) = by (nat_le n (free (size_of c r) (ring_at c s r)))
  where
    by : (b : Bool) → Tells (Reserve r n) (cond b Granted (Full (free (size_of c r) (ring_at c s r))))
    by true = refl
    by false = refl
tells c s (Submit r items) = refl
tells c s (Peek r n) = by (ring_at c s r).out
  where
    by : (out : List Item) → Tells (Peek r n) (peek_reply n out)
    by [] = refl
    by (item ∷ out) = refl
tells c s (Release r n) = refl
tells c s (Swap m value) = refl
tells c s (Look m) = refl

pub tells_all : TellsAll
tells_all c frames past later e history =
    subst (Tells e.call) (sym (history_entry c frames past later e history).1) (tells c (state_after c frames past) e.call)
