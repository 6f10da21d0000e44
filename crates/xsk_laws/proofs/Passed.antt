-- On an RX or a TX ring that is drained the consumer has peeked exactly what the producer submitted.
use Rattle.std.proofs.Common.{◌≡◌, ℕ, ◌+◌, ◌*◌, ◌≤◌, true, false, List, [], ◌++◌, length, sym, ap, ◌∙◌, arith, append-nil}
use Rattle.std.proofs.lemmas.List.{get_or_past}
use Rattle.xsk_umem.specs.Frame.{Frame}
use Rattle.xsk_model.specs.Config.{Config, HasRing, pool_of}
use Rattle.xsk_model.specs.Rings.{place, producer, consumer}
use Rattle.xsk_model.specs.Marks.{HasMark, IsMarkOwner}
use Rattle.xsk_model.specs.Object.{RingState, empty_ring, ring_at}
use Rattle.xsk_model.specs.Entry.{Entry, own, all_told}
use Rattle.xsk_model.specs.Own.{peeked_of, submitted_of}
use Rattle.xsk_model.specs.Opening.{opening, home_rings}
use Rattle.xsk_model.specs.Homes.{first_mark}
use Rattle.xsk_model.specs.History.{IsHistory}
use Rattle.xsk_model.specs.Ends.{draining_of, telling_of}
use Rattle.xsk_model.specs.declared.call.Ring.{Ring}
use Rattle.xsk_model.specs.declared.call.Mark.{Mark}
use Rattle.xsk_model.proofs.MarkNumbers.{opening_mark_is}
use Rattle.xsk_model.proofs.Opened.{get_or-blanks, length-home_rings}
use Rattle.xsk_model.proofs.Theorems.{in_order, items_by_own}
use Rattle.xsk_laws.proofs.Emptied.{has_mark, emptied}

-- all rings but FILL are empty at the opening
pub opening_empty : (c : Config) (frames : List Frame) (r : Ring) → length c.pairs ≤ place c r → (ring_at c (opening c frames) r).out ≡ []
opening_empty c frames r h =
    ap (λ (x : RingState). x.out)
    (get_or-blanks (home_rings c.geometry (pool_of c) (length c.pairs) frames) (length c.pairs + 2 * length c.sockets) (place c r) empty_ring
    ∙ get_or_past (home_rings c.geometry (pool_of c) (length c.pairs) frames) (place c r) empty_ring (omega (arith, length-home_rings c.geometry (pool_of c) (length c.pairs) frames)))

-- that a ring is so placed, that a mark of its producer is 0 at the opening, and what the two owners did at the end
pub record IsDrained (c : Config) (h : List Entry) (ms : List Mark) (m : Mark) (r : Ring) : Type 0 where
  pub ring : HasRing c r
  pub later : length c.pairs ≤ place c r
  pub mark : HasMark c m
  pub first : first_mark c m ≡ 0
  pub owned : (who : ℕ) → IsMarkOwner c who m → who ≡ producer c r
  pub listed : has_mark m ms ≡ true
  pub found : (draining_of ms r (own (consumer c r) h)).empty ≡ true
  pub none_late : (telling_of m r (own (producer c r) h)).late ≡ false

pub passed : (c : Config) (frames : List Frame) (h : List Entry) (ms : List Mark) (m : Mark) (r : Ring) → IsHistory c frames h → IsDrained c h ms m r
    → peeked_of r (own (consumer c r) h) ≡ submitted_of r (own (producer c r) h)
passed c frames h ms m r history drained =
    let over = emptied c frames ms m r history.opened.config drained.ring drained.mark drained.owned h history drained.listed (opening_mark_is c frames m history.opened.config drained.mark ∙ drained.first) drained.found drained.none_late in
    let order = in_order c frames h r history drained.ring in
    let mine = items_by_own c frames h r history drained.ring in
    sym mine.0
    ∙ sym (append-nil (peeked_of r (all_told h)))
    ∙ ap (λ out. peeked_of r (all_told h) ++ out) (sym over)
    ∙ order
    ∙ ap (λ out. out ++ submitted_of r (all_told h)) (opening_empty c frames r drained.later)
    ∙ mine.1
