-- What is asked of a Submit is what makes it legal after the calls for which the standing stands.
use Rattle.std.proofs.Common.{◌≡◌, ℕ, ◌≤◌, All, List, [], length, subst, arith}
use Rattle.xsk_umem.specs.Geometry.{IsGeometry}
use Rattle.xsk_umem.specs.declared.batch.Item.{Item}
use Rattle.xsk_model.specs.Config.{Config, HasRing}
use Rattle.xsk_model.specs.Numbers.{times, numbers}
use Rattle.xsk_model.specs.Own.{had_of}
use Rattle.xsk_model.specs.Rings.{producer}
use Rattle.xsk_model.specs.Entry.{Told}
use Rattle.xsk_model.specs.Swaps.{IsFed}
use Rattle.xsk_model.specs.Legal.{IsLegal, IsItemOn, ArePackets}
use Rattle.xsk_model.specs.History.{OwnGoesOn}
use Rattle.xsk_model.specs.declared.call.Ring.{Ring}
use Rattle.xsk_model.specs.declared.call.Ring.TheVariants.{Fill, Comp, Rx, Tx}
use Rattle.xsk_model.specs.declared.call.Call.TheVariants.{Submit}
use Rattle.xsk_legal.specs.Noted.{Noted}
use Rattle.xsk_legal.specs.Standing.{StandsFor}
use Rattle.xsk_legal.specs.Pieces.{MaySubmit, MayPlace}
use Rattle.xsk_legal.proofs.Submits.{pieces_received, received_pieces}
use Rattle.xsk_legal.proofs.Waiting.{IsWaiting, own_waiting}
use Rattle.xsk_legal.proofs.Frames.{has_to_had, had_to_has, filled_from, from_filled, all_named}
use Rattle.xsk_legal.proofs.Completed.{back_completed, completed_back}

module _ (c : Config) (kept : Noted) (mine : List Told) (items : List Item) (geometry : IsGeometry c.geometry) (h : StandsFor c kept mine) where
  waits : (d : ℕ) → HasRing c (Comp d) → kept.who ≡ d → IsWaiting c mine
  waits d has is = own_waiting c d has mine (subst (λ w. OwnGoesOn c w [] mine) is h.own)

  pub placed_packets : (r : Ring) → HasRing c r → kept.who ≡ producer c r → MaySubmit c kept r items → ArePackets c mine (Submit r items)
  placed_packets (Fill d) has is may = tt
  placed_packets (Comp d) has is may = back_completed c kept mine d items h (waits d has is) may.some may.lawful may.packets
  placed_packets (Rx s) has is may =
      pieces_received c mine items geometry may.some (λ k item within. (may.lawful k item within).body) (filled_from c kept mine h items may.packets.0) may.packets.1
  placed_packets (Tx s) has is may = tt

  pub may_legal : (r : Ring) → HasRing c r → kept.who ≡ producer c r → IsFed c mine r → MaySubmit c kept r items → IsLegal c mine kept.who (Submit r items)
  may_legal r has is fed may = record {
    caller = h.caller;
    known = has;
    role = is;
    counted = (may.some, may.few, omega (arith, may.room, h.keeps.room r has));
    frames = has_to_had c kept mine h items may.frames;
    items = may.lawful;
    packets = placed_packets r has is may;
    feeds = fed;
  }

  pub packets_placed : (r : Ring) → HasRing c r → kept.who ≡ producer c r → 1 ≤ length items → All (IsItemOn c.geometry r) items
      → ((n : ℕ) → times n (numbers items) ≤ times n (had_of mine)) → ArePackets c mine (Submit r items) → MayPlace c kept r items
  packets_placed (Fill d) has is some lawful frames packets = tt
  packets_placed (Comp d) has is some lawful frames packets = completed_back c kept mine d items h (waits d has is) some lawful packets
  packets_placed (Rx s) has is some lawful frames packets =
      let pieces = received_pieces c mine items packets in
      (from_filled c kept mine h items (all_named c.geometry c.sg items pieces) frames packets.from_fill, pieces)
  packets_placed (Tx s) has is some lawful frames packets = tt

  pub legal_may : (r : Ring) → HasRing c r → kept.who ≡ producer c r → IsLegal c mine kept.who (Submit r items) → MaySubmit c kept r items
  legal_may r has is legal = record {
    some = legal.counted.0;
    few = legal.counted.1;
    room = omega (arith, legal.counted.2, h.keeps.room r has);
    lawful = legal.items;
    frames = had_to_has c kept mine h r items legal.items legal.frames;
    packets = packets_placed r has is legal.counted.0 legal.items legal.frames legal.packets;
  }
