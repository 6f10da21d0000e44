-- The packets that a driver bounces are those that are to be bounced, each once and in order.
use Rattle.std.proofs.Common.{◌≡◌, ℕ, suc, ◌-◌, Bool, true, false, cond, not, ◌&&◌, nat_lt, Some, List, [], ◌∷◌, ◌++◌, length, take, drop, refl, sym, ap, ◌∙◌, arith, append-nil, append_assoc, length-append}
use Rattle.std.proofs.lemmas.Grind.{flat_map-append}
use Rattle.std.proofs.lemmas.List.Sums.{sum_by_push}
use Rattle.std.proofs.Math.Bool.{and-false}
use Rattle.std.proofs.Math.Seq.{drop-append_seam}
use Rattle.xsk_model.specs.Config.{classes_of}
use Rattle.xsk_model.specs.Sent.{bounced_in, bounced_of}
use Rattle.xsk_turns.proofs.Calls.{Told, with_told, Gone, BouncedMark, Call, Swap, Reply, Old}
use Rattle.xsk_turns.specs.Turns.{Seat, Judged, Kept, seat_of, start, turn, bounces, bounce_of, bounced_among, disposal_by, disposal_untried}
use Rattle.xsk_turns.specs.SentWith.{bounces_at, bouncing, is_bouncing, BouncesNext, BouncesAll}
use Rattle.xsk_turns.specs.declared.disposal.Disposal.{Disposal}
use Rattle.xsk_turns.specs.declared.disposal.Disposal.TheVariants.{Delivered, NoFrames, RxFull, TooLong, Runt, Missed, Bounced}
use Rattle.xsk_prog.specs.declared.rule.Verdict.{Verdict}
use Rattle.xsk_prog.specs.declared.rule.Verdict.TheVariants.{Drop, Pass, Redirect, Bounce}
use Rattle.xsk_turns.proofs.Walks.{Anything, meet_anything}
use Rattle.xsk_turns.proofs.Disposing.{IsOver, over_later}
use Rattle.xsk_turns.proofs.DriverStages.{Family, IsBouncing, SubmitRx, TellBounced, call_at, told_rx_done, told_bounced, looked_none, looked_long, rx_submitted, looked_tx_done, found_end, point_of, reply_of, untried, drops_full, drops_frameless, untried_has, Said, AtCalls, AtEntries, AtSilent, IsLaw}
use Rattle.xsk_turns.proofs.DriverWalk.{at_call, at_end}

-- ---- packets that bounce, and those that don't

either : (b : Bool) (packet : List ℕ) (all xs ys : List (List ℕ)) → all ≡ xs ++ ys → (cond b (packet ∷ all) all) ≡ (cond b (packet ∷ xs) xs) ++ ys
either true packet all xs ys e = ap (λ ps. packet ∷ ps) e
either false packet all xs ys e = e

bouncing-append : (xs ys : List Judged) → bouncing (xs ++ ys) ≡ bouncing xs ++ bouncing ys
bouncing-append [] ys = refl
bouncing-append (x ∷ xs) ys = either (bounces_at x) x.bytes (bouncing (xs ++ ys)) (bouncing xs) (bouncing ys) (bouncing-append xs ys)

stays_there : (packet : Judged) → bounces packet.verdict ≡ false → bounces_at packet ≡ false
stays_there packet e = ap (λ b. not (nat_lt (length packet.bytes) 14) && b) e ∙ and-false (not (nat_lt (length packet.bytes) 14))

bounces_there : (packet : Judged) → nat_lt (length packet.bytes) 14 ≡ false → bounces packet.verdict ≡ true → bounces_at packet ≡ true
bounces_there packet e f = ap (λ b. not b && bounces packet.verdict) e ∙ f

untried_stays : (seat : Seat) (packet : Judged) (d : Disposal) → disposal_untried seat packet ≡ Some d → bounces_at packet ≡ false
untried_stays seat packet d e = by (nat_lt (length packet.bytes) 14) packet.verdict e
  where
    by : (short : Bool) (verdict : Verdict) → cond short (Some Runt) (disposal_by seat verdict) ≡ Some d → (not short && bounces verdict) ≡ false
    by true verdict e = refl
    by false Drop e = refl
    by false Pass e = refl
    by false (Redirect cell) e = refl
    by false Bounce e = absurd (cc)

-- one more packet, which bounces or doesn't
one_stays : (done : List Judged) (packet : Judged) → bounces_at packet ≡ false → bouncing (done ++ packet ∷ []) ≡ bouncing done
one_stays done packet e = bouncing-append done (packet ∷ []) ∙ ap (λ b. bouncing done ++ cond b (packet.bytes ∷ []) []) e ∙ append-nil (bouncing done)

one_bounces : (done : List Judged) (packet : Judged) → bounces_at packet ≡ true → bouncing (done ++ packet ∷ []) ≡ bouncing done ++ packet.bytes ∷ []
one_bounces done packet e = bouncing-append done (packet ∷ []) ∙ ap (λ b. bouncing done ++ cond b (packet.bytes ∷ []) []) e

bounced-push : (packets : List (List ℕ)) (mine : List Told) (call : Call) (reply : Reply) → bounced_of packets (with_told mine call reply) ≡ bounced_of packets mine ++ bounced_in packets call
bounced-push packets mine call reply =
    let t : Told = record { call = call; reply = reply } in
    flat_map-append (λ (u : Told). bounced_in packets u.call) mine (t ∷ []) ∙ ap (λ xs. bounced_of packets mine ++ xs) (append-nil (bounced_in packets call))

-- ---- the law

module _ (seat : Seat) (input : List Judged) where
  -- the packets so far, and those of them that bounced
  record IsSplit (ds : List Disposal) (coming : List Judged) (rx_done tx_done : Bool) (l : List Told) : Type 0 where
    pub done : List Judged
    pub all : done ++ coming ≡ input
    pub count : length (bouncing done) ≡ bounced_among ds
    pub sent : bounced_of (bouncing input) l ≡ bouncing done
    pub over : IsOver rx_done tx_done coming

  abbrev Split : Kept → List Told → Type 0
  Split kept l = IsSplit kept.disposals kept.coming kept.rx_done kept.tx_done l

  abbrev At : Family
  At place noted kept l = Split kept l

  abbrev IsNextSent : Kept → Call → Type 0
  IsNextSent kept (Swap (BouncedMark d) value) = (packet : Judged) × (later : List Judged) × (kept.coming ≡ packet ∷ later) × (bounced_in (bouncing input) (Swap (BouncedMark d) value) ≡ packet.bytes ∷ [])
  IsNextSent kept call = Unit {0}

  abbrev Asked : Said
  Asked kept call l = IsNextSent kept call

  abbrev Ended : Kept → List Told → Type 0
  Ended kept l = bounced_of (bouncing input) l ≡ bouncing input

  -- what the next swap sends
  next_sent : (kept : Kept) (l : List Told) (packet : Judged) (next : IsBouncing seat kept.coming packet) → Split kept l
      → bounced_in (bouncing input) (Swap (BouncedMark seat.pair) (suc (bounced_among kept.disposals))) ≡ packet.bytes ∷ []
  next_sent kept l packet next h =
      let at : bounces_at packet ≡ true = bounces_there packet next.long next.bounces in
      let parts : bouncing input ≡ bouncing h.done ++ packet.bytes ∷ bouncing next.later =
      ap bouncing (sym h.all) ∙ bouncing-append h.done kept.coming ∙ ap (λ ps. bouncing h.done ++ bouncing ps) next.is
      ∙ ap (λ b. bouncing h.done ++ cond b (packet.bytes ∷ bouncing next.later) (bouncing next.later)) at in
      let number : suc (bounced_among kept.disposals) - 1 ≡ length (bouncing h.done) = omega (arith, h.count) in
      ap (λ n. take 1 (drop n (bouncing input))) number ∙ ap (λ ps. take 1 (drop (length (bouncing h.done)) ps)) parts
      ∙ ap (take 1) (drop-append_seam (bouncing h.done) (packet.bytes ∷ bouncing next.later))

  -- a call that bounces nothing
  still : (kept : Kept) (l : List Told) (call : Call) (reply : Reply) → bounced_in (bouncing input) call ≡ [] → Split kept l → Split kept (with_told l call reply)
  still kept l call reply e h = record {
    done = h.done;
    all = h.all;
    count = h.count;
    sent = bounced-push (bouncing input) l call reply ∙ ap (λ xs. bounced_of (bouncing input) l ++ xs) e ∙ append-nil (bounced_of (bouncing input) l) ∙ h.sent;
    over = h.over;
  }

  -- a packet that doesn't bounce has its disposal
  settles : (ds : List Disposal) (coming later : List Judged) (rx_done tx_done : Bool) (packet : Judged) (x : Disposal) (l : List Told) → coming ≡ packet ∷ later → bounces_at packet ≡ false → bounce_of x ≡ 0
      → IsSplit ds coming rx_done tx_done l → IsSplit (ds ++ x ∷ []) (drop 1 coming) rx_done tx_done l
  settles ds coming later rx_done tx_done packet x l is stays none h = record {
    done = h.done ++ packet ∷ [];
    all = append_assoc h.done (packet ∷ []) (drop 1 coming) ∙ ap (λ (ps : List Judged). h.done ++ packet ∷ drop 1 ps) is ∙ ap (λ ps. h.done ++ ps) (sym is) ∙ h.all;
    count = omega (arith, ap length (one_stays h.done packet stays), h.count, sum_by_push bounce_of ds x, none);
    sent = h.sent ∙ sym (one_stays h.done packet stays);
    over = over_later rx_done tx_done coming h.over;
  }

  bounced : (kept : Kept) (l : List Told) (packet : Judged) (n : ℕ) → IsBouncing seat kept.coming packet → Split kept l
      → IsSplit (kept.disposals ++ Bounced ∷ []) (drop 1 kept.coming) kept.rx_done kept.tx_done (with_told l (Swap (BouncedMark seat.pair) (suc (bounced_among kept.disposals))) (Old n))
  bounced kept l packet n next h =
      let call = Swap (BouncedMark seat.pair) (suc (bounced_among kept.disposals)) in
      let at : bounces_at packet ≡ true = bounces_there packet next.long next.bounces in
      let one = one_bounces h.done packet at in
      record {
        done = h.done ++ packet ∷ [];
        all = append_assoc h.done (packet ∷ []) (drop 1 kept.coming) ∙ ap (λ (ps : List Judged). h.done ++ packet ∷ drop 1 ps) next.is ∙ ap (λ ps. h.done ++ ps) (sym next.is) ∙ h.all;
        count = omega (arith, ap length one, length-append (bouncing h.done) (packet.bytes ∷ []), h.count, sum_by_push bounce_of kept.disposals Bounced);
        sent = bounced-push (bouncing input) l call (Old n) ∙ ap (λ xs. bounced_of (bouncing input) l ++ xs) (next_sent kept l packet next h)
            ∙ ap (λ xs. xs ++ packet.bytes ∷ []) h.sent ∙ sym one;
        over = over_later kept.rx_done kept.tx_done kept.coming h.over;
      }

  calls : AtCalls seat Anything At Asked
  calls (TellBounced packet) noted kept l known h = (packet, known.later, known.is, next_sent kept l packet known h)
  calls p noted kept l known h = tt

  entries : AtEntries seat Anything At Asked
  entries (told_rx_done n) noted kept l known found h a q =
      let now = still kept l _ (Old n) refl h in record { done = now.done; all = now.all; count = now.count; sent = now.sent; over = record { none = λ x. known.0; first = λ x. refl } }
  entries (told_bounced packet n) noted kept l known found h a q = bounced kept l packet n known h
  entries (looked_none packet n) noted kept l known found h a q =
      settles kept.disposals kept.coming known.later kept.rx_done kept.tx_done packet Missed _ known.is (stays_there packet known.stays) refl (still kept l _ (Old n) refl h)
  entries (looked_long packet n s) noted kept l known found h a q =
      settles kept.disposals kept.coming known.later kept.rx_done kept.tx_done packet TooLong _ known.is (stays_there packet known.stays) refl (still kept l _ (Old n) refl h)
  entries (rx_submitted packet s) noted kept l known found h a q =
      settles kept.disposals kept.coming known.0.next.later kept.rx_done kept.tx_done packet (Delivered s) _ known.0.next.is (stays_there packet known.0.next.stays) refl (still kept l (call_at seat (SubmitRx packet s) kept) _ refl h)
  entries (looked_tx_done n) noted kept l known found h a q =
      let now = still kept l _ (Old n) refl h in record { done = now.done; all = now.all; count = now.count; sent = now.sent; over = record { none = now.over.none; first = λ x. known.0 } }
  entries (found_end n) noted kept l known found h a q =
      let now = still kept l _ (Old n) refl h in record { done = now.done; all = now.all; count = now.count; sent = now.sent; over = record { none = now.over.none; first = λ x. known.1 } }
  entries e noted kept l known found h a q = still kept l (call_at seat (point_of e) kept) (reply_of e) refl h

  silent : AtSilent seat Anything At
  silent (untried packet later d) noted kept l = λ h e.
      settles kept.disposals kept.coming later kept.rx_done kept.tx_done packet d l e.0 (untried_stays seat packet d e.1) (untried_has (λ d. bounce_of d ≡ 0) refl refl refl refl seat packet d e.1) h
  silent (drops_full packet s) noted kept l = λ h e.
      settles kept.disposals kept.coming e.0.next.later kept.rx_done kept.tx_done packet RxFull l e.0.next.is (stays_there packet e.0.next.stays) refl h
  silent (drops_frameless packet s) noted kept l = λ h e.
      settles kept.disposals kept.coming e.0.next.later kept.rx_done kept.tx_done packet NoFrames l e.0.next.is (stays_there packet e.0.next.stays) refl h
  silent p noted kept l = λ h e. h

  all_bounced : (kept : Kept) (l : List Told) → kept.tx_done ≡ true → Split kept l → Ended kept l
  all_bounced kept l done h =
      let none : kept.coming ≡ [] = h.over.none (h.over.first done) in
      h.sent ∙ ap bouncing (sym (append-nil h.done) ∙ ap (λ ps. h.done ++ ps) (sym none) ∙ h.all)

  law : IsLaw seat Anything At Asked Ended
  law = record { calls = calls; entries = entries; silent = silent; ends = λ noted kept l n known h a q. all_bounced kept _ known.2 (still kept l (Swap (Gone seat.pair) 1) (Old n) refl h) }

  first : (classes : ℕ) → Split (start classes input) []
  first classes = record { done = []; all = refl; count = refl; sent = refl; over = record { none = λ e. absurd (cc); first = λ e. absurd (cc) } }

as_next : (seat : Seat) (input : List Judged) (kept : Kept) (call : Call) → is_bouncing call ≡ true → IsNextSent seat input kept call
    → (packet : Judged) × (later : List Judged) × (kept.coming ≡ packet ∷ later) × (bounced_in (bouncing input) call ≡ packet.bytes ∷ [])
as_next seat input kept (Swap (BouncedMark d) value) e h = h
as_next seat input kept call e h = absurd (cc)

pub bounces_next : BouncesNext
bounces_next wire c d input l kept call rest asks e =
    let seat = seat_of wire c d in
    as_next seat input kept call e
    (at_call seat Anything (At seat input) (Asked seat input) (Ended seat input) (law seat input) (start (classes_of c) input) (first seat input (classes_of c)) l (meet_anything (turn seat) (turn seat (start (classes_of c) input)) [] l) kept call rest asks)

pub bounces_all : BouncesAll
bounces_all wire c d input l whole =
    let seat = seat_of wire c d in
    at_end seat Anything (At seat input) (Asked seat input) (Ended seat input) (law seat input) (start (classes_of c) input) (first seat input (classes_of c)) l (meet_anything (turn seat) (turn seat (start (classes_of c) input)) [] l) whole.0 whole.1
