-- A legal call of one of the object's callers is a legal call of its party, with a reply that its ring may give; and what it leaves.
use Rattle.std.proofs.Common.{◌≡◌, ℕ, ◌<◌, ◌≤◌, Bool, true, false, cond, nat_le, Option, Some, None, List, [], ◌∷◌, ◌++◌, length, take, refl, sym, ap, ◌∙◌, subst, arith, ⊎_elim}
use Rattle.std.proofs.lemmas.Bool.{cases_lt, cases_eq}
use Rattle.std.proofs.lemmas.List.{length-map}
use Rattle.xsk_umem.specs.Frame.{Frame}
use Rattle.xsk_umem.specs.declared.batch.Item.{Item}
use Rattle.xsk_model.specs.Config.{Config, HasRing, size_of}
use Rattle.xsk_model.specs.Rings.{producer as producer_of, consumer as consumer_of}
use Rattle.xsk_model.specs.Numbers.{times, numbers}
use Rattle.xsk_model.specs.Object.{State, ring_at, free, peek_reply, reply_at}
use Rattle.xsk_model.specs.Entry.{Told, Entry, told, own}
use Rattle.xsk_model.specs.Own.{had_of}
use Rattle.xsk_model.specs.Legal.{IsLegal}
use Rattle.xsk_model.specs.Opening.{opening}
use Rattle.xsk_model.specs.History.{IsHistory, OwnGoesOn, state_after}
use Rattle.xsk_model.specs.declared.call.Ring.{Ring}
use Rattle.xsk_model.specs.declared.call.Ring.TheVariants.{Fill, Comp, Rx, Tx}
use Rattle.xsk_model.specs.declared.call.Call.{Call}
use Rattle.xsk_model.specs.declared.call.Call.TheVariants.{Reserve, Submit, Peek, Release, Swap, Look}
use Rattle.xsk_model.specs.declared.call.Reply.{Reply}
use Rattle.xsk_model.specs.declared.call.Reply.TheVariants.{Granted, Full}
use Rattle.xsk_model.proofs.Places.{is_ring-self}
use Rattle.xsk_model.proofs.Moves.{ring_reply}
use Rattle.xsk_model.proofs.Folds.{own-push_same, own-push_other}
use Rattle.xsk_model.proofs.Histories.{IsSound, history_sound, after_all-append, goes_push}
use Rattle.xsk_model.proofs.Replies.{reply_fits}
use Rattle.xsk_model.proofs.OwnRuns.{history_own}
use Rattle.xsk_model.proofs.Completions.{times-had_of-push}
use Rattle.xsk_model.proofs.Theorems.{legal_within_ring}
use Rattle.xsk_model.proofs.FrameTheorems.{frames_apart}
use Rattle.xsk_side.specs.Setting.{Setting, size_of as side_size, pair_of}
use Rattle.xsk_side.specs.Object.{RingState as SideRing, Entry as SideEntry, ring_of, ring_at as side_at, producer as side_producer, consumer as side_consumer, Replies}
use Rattle.xsk_side.specs.Own.{entry_of, has, source_of, room_of, held_of, strays_taken}
use Rattle.xsk_side.specs.Legal.{IsLegal as IsSideLegal, MayCome, HasFrames as HasSideFrames}
use Rattle.xsk_side.specs.Possible.{IsHistory as IsSideHistory, own as side_own}
use Rattle.xsk_side.specs.declared.call.Party.{Party}
use Rattle.xsk_side.specs.declared.call.Party.TheVariants.{Program, Kernel}
use Rattle.xsk_side.specs.declared.call.Answer.TheVariants as an_answer
use Rattle.xsk_side.specs.declared.call.Call.{Call as SideCall}
use Rattle.xsk_side.specs.declared.call.Call.TheVariants as a_side
use Rattle.xsk_side.proofs.Bounds.{two_parties}
use Rattle.xsk_side.proofs.Rings.{rings_sound}
use Rattle.xsk_sides.specs.Sides.{entries, desc_in, setting_of, side_call, party_of, pushed}
use Rattle.xsk_sides.proofs.Rings.{IsSame, may_reply, same_step}
use Rattle.xsk_sides.proofs.Items.{same_times}
use Rattle.xsk_sides.proofs.Places.{has_ring, same_size, same_pair}
use Rattle.xsk_sides.proofs.Parties.{own_here, own_else, one_party, producer_is, consumer_is}
use Rattle.xsk_sides.proofs.Sources.{got_on, filled}
use Rattle.xsk_sides.proofs.Holding.{Holds, holds_has, holds_here, holds_old, given, got, same_given, same_got}
use Rattle.xsk_sides.proofs.Received.{may_come_on_rx}
use Rattle.xsk_sides.proofs.Completed.{may_come_on_comp}

-- what holds of a history of the object and of the same calls as one of two parties
pub record Along (c : Config) (frames : List Frame) (past : List Entry) (side : List SideEntry) : Type 0 where
  pub history : IsHistory c frames past
  pub legal : IsSideHistory (setting_of c) side
  pub same : IsSame c (state_after c frames past) side
  pub has : (w f : ℕ) → 1 ≤ times f (had_of (own w past)) → Holds c (party_of c w) (side_own (party_of c w) side) (own w past) f

-- a party's call that may follow, if it is one
abbrev MayFollow : Setting → Party → List SideEntry → Option SideCall → Type 0
MayFollow s p side None = Unit {0}
MayFollow s p side (Some call) = IsSideLegal s p (side_own p side) call × Replies (side_size s (ring_of call)) (side_at (ring_of call) side) call

followed : (s : Setting) (p : Party) (side : List SideEntry) (o : Option SideCall) → IsSideHistory s side → MayFollow s p side o → IsSideHistory s (pushed p o side)
followed s p side None legal may = legal
followed s p side (Some call) legal may = (legal, may.0, may.1)

source_is : (c : Config) (p : Party) (calls : List SideCall) (mine : List Told) (f : ℕ) → p ≡ Kernel → Holds c p calls mine f → source_of (setting_of c) calls f ≡ got_on f mine
source_is c Program calls mine f kernel h = absurd (two_parties (sym kernel))
source_is c Kernel calls mine f kernel h = h.0

-- ---- one call

module _ (c : Config) (frames : List Frame) (past : List Entry) (side : List SideEntry) (along : Along c frames past side) (who : ℕ) where
  abbrev now : State
  now = state_after c frames past

  abbrev mine : List Told
  mine = own who past

  abbrev party : Party
  party = party_of c who

  once : (f : ℕ) → times f (had_of mine) ≤ 1
  once f = omega (arith, (frames_apart c frames past along.history).1 who (Fill 0) f)

  answered : (r : Ring) (call : Call) (x : SideCall) → HasRing c r → side_call call (ring_reply (size_of c r) (ring_at c now r) call) ≡ Some x
      → Replies (side_size (setting_of c) r) (side_at r side) x
  answered r call x has is =
      subst (λ n. Replies n (side_at r side) x) (sym (same_size c r has))
      (subst (λ (ring : SideRing). Replies (size_of c r) ring x) (sym (along.same.rings r has)) (may_reply (size_of c r) (ring_at c now r) call x is))

  produces : (r : Ring) → HasRing c r → who ≡ producer_of c r → party ≡ side_producer r
  produces r has role = ap (party_of c) role ∙ producer_is c r along.history.opened.config has

  consumes : (r : Ring) → HasRing c r → who ≡ consumer_of c r → party ≡ side_consumer r
  consumes r has role = ap (party_of c) role ∙ consumer_is c r along.history.opened.config has

  has_room : (r : Ring) (items : List Item) → IsLegal c mine who (Submit r items) → length (entries items) ≤ room_of r (side_own party side)
  has_room r items legal =
      let within : length items ≤ (ring_at c now r).room = legal_within_ring c frames past who (Submit r items) r along.history legal (is_ring-self r) in
      omega (
        arith,
        within,
        length-map items desc_in,
        ap (λ (ring : SideRing). ring.room) (along.same.rings r legal.known),
        (rings_sound (setting_of c) side along.legal r).room,
        ap (λ p. room_of r (side_own p side)) (produces r legal.known legal.role),
      )

  holds_many : (r : Ring) (n : ℕ) → IsLegal c mine who (Release r n) → n ≤ length (held_of (setting_of c) r (side_own party side))
  holds_many r n legal =
      let within : n ≤ length (ring_at c now r).held = legal_within_ring c frames past who (Release r n) r along.history legal (is_ring-self r) in
      omega (
        arith,
        within,
        length-map (ring_at c now r).held desc_in,
        ap (λ (ring : SideRing). length ring.held) (along.same.rings r legal.known),
        ap length (rings_sound (setting_of c) side along.legal r).held,
        length-map (held_of (setting_of c) r (side_own (side_consumer r) side)) entry_of,
        ap (λ p. length (held_of (setting_of c) r (side_own p side))) (consumes r legal.known legal.role),
      )

  has_frames : (r : Ring) (items : List Item) → IsLegal c mine who (Submit r items) → HasSideFrames (setting_of c) party (side_own party side) (a_side.Submit r (entries items))
  has_frames r items legal = λ f.
      let named = same_times c r f items legal.items in
      ⊎_elim
      (λ (some : 0 < times f (numbers items)).
      let it : Holds c party (side_own party side) mine f = along.has who f (omega (arith, some, legal.frames f)) in
      omega (arith, named, legal.frames f, once f, ap {B = ℕ} (λ b. cond b 1 0) (holds_has c party (side_own party side) mine f it)))
      (λ (none : times f (numbers items) ≤ 0). omega (arith, named, none))
      (cases_lt 0 (times f (numbers items)))

  -- the frames of what a driver submits come from where it got them
  from : (r : Ring) (items : List Item) → IsLegal c mine who (Submit r items) → party ≡ Kernel → (f : ℕ) → 1 ≤ times f (numbers items)
      → source_of (setting_of c) (side_own party side) f ≡ got_on f mine
  from r items legal kernel f some =
      source_is c party (side_own party side) mine f kernel (along.has who f (omega (arith, some, legal.frames f)))

  goes_on : OwnGoesOn c who [] mine
  goes_on = history_own c frames past who along.history

  may_come : (r : Ring) (items : List Item) → IsLegal c mine who (Submit r items)
      → MayCome (setting_of c) (source_of (setting_of c) (side_own party side)) (strays_taken (setting_of c) (pair_of (setting_of c) r) (side_own party side)) r (entries items)
  may_come (Fill d) items legal = tt
  may_come (Comp d) items legal =
      may_come_on_comp c d items mine (source_of (setting_of c) (side_own party side)) (strays_taken (setting_of c) d (side_own party side)) along.history.opened.config legal.known
      (subst (λ w. OwnGoesOn c w [] mine) legal.role goes_on) legal.packets legal.items
      (from (Comp d) items legal (produces (Comp d) legal.known legal.role))
  may_come (Rx k) items legal =
      may_come_on_rx c along.history.opened.geometry k items mine (source_of (setting_of c) (side_own party side)) legal.packets legal.items
      (λ f some. from (Rx k) items legal (produces (Rx k) legal.known legal.role) f some
      ∙ filled c who f mine goes_on (legal.packets.from_fill f some)
      ∙ ap (λ d. Some (Fill d)) (legal.role ∙ sym (same_pair c (Rx k) legal.known)))
  may_come (Tx k) items legal = tt

  follows : (call : Call) → IsLegal c mine who call → MayFollow (setting_of c) party side (side_call call (reply_at c now call))
  follows (Reserve r n) legal = by (nat_le n (free (size_of c r) (ring_at c now r))) refl
    where
      by : (b : Bool) → nat_le n (free (size_of c r) (ring_at c now r)) ≡ b
          → MayFollow (setting_of c) party side (side_call (Reserve r n) (cond b Granted (Full (free (size_of c r) (ring_at c now r)))))
      by true t = (
        record { known = has_ring c r legal.known; role = produces r legal.known legal.role; counted = tt; frames = tt; untouched = tt; put = tt },
        answered r (Reserve r n) (a_side.Reserve r n an_answer.Granted) legal.known
            (ap (λ b. side_call (Reserve r n) (cond b Granted (Full (free (size_of c r) (ring_at c now r))))) t),
      )
      by false t = (
        record { known = has_ring c r legal.known; role = produces r legal.known legal.role; counted = tt; frames = tt; untouched = tt; put = tt },
        answered r (Reserve r n) (a_side.Reserve r n (an_answer.Full (free (size_of c r) (ring_at c now r)))) legal.known
            (ap (λ b. side_call (Reserve r n) (cond b Granted (Full (free (size_of c r) (ring_at c now r))))) t),
      )
  follows (Submit r items) legal = (
    record {
      known = has_ring c r legal.known;
      role = produces r legal.known legal.role;
      counted = has_room r items legal;
      frames = has_frames r items legal;
      untouched = tt;
      put = may_come r items legal;
    },
    tt,
  )
  follows (Peek r n) legal = by (ring_at c now r).out refl
    where
      by : (out : List Item) → (ring_at c now r).out ≡ out → MayFollow (setting_of c) party side (side_call (Peek r n) (peek_reply n out))
      by [] t = (
        record { known = has_ring c r legal.known; role = consumes r legal.known legal.role; counted = tt; frames = tt; untouched = tt; put = tt },
        answered r (Peek r n) (a_side.Peek r n []) legal.known (ap (λ out. side_call (Peek r n) (peek_reply n out)) t),
      )
      by (item ∷ out) t = (
        record { known = has_ring c r legal.known; role = consumes r legal.known legal.role; counted = tt; frames = tt; untouched = tt; put = tt },
        answered r (Peek r n) (a_side.Peek r n (entries (take n (item ∷ out)))) legal.known (ap (λ out. side_call (Peek r n) (peek_reply n out)) t),
      )
  follows (Release r n) legal = (
    record {
      known = has_ring c r legal.known;
      role = consumes r legal.known legal.role;
      counted = holds_many r n legal;
      frames = tt;
      untouched = tt;
      put = tt;
    },
    tt,
  )
  follows (Swap m value) legal = tt
  follows (Look m) legal = tt

  -- ---- what it leaves

  sound : IsSound c frames now past
  sound = history_sound c frames past along.history

  module _ (call : Call) (legal : IsLegal c mine who call) where
    abbrev reply : Reply
    reply = reply_at c now call

    abbrev last : Entry
    last = record { who = who; call = call; reply = reply }

    abbrev next : List SideEntry
    next = pushed party (side_call call reply) side

    longer : IsHistory c frames (past ++ last ∷ [])
    longer = record { opened = along.history.opened; legal = goes_push c (opening c frames) [] past last along.history.legal legal refl }

    pushed_is : own who (past ++ last ∷ []) ≡ mine ++ told last ∷ []
    pushed_is = own-push_same who past last refl

    holds_own : (f : ℕ) → 1 ≤ times f (had_of (own who (past ++ last ∷ []))) → Holds c party (side_own party next) (own who (past ++ last ∷ [])) f
    holds_own f some =
        subst (λ (l : List Told). Holds c party (side_own party next) l f) (sym pushed_is)
        (subst (λ (calls : List SideCall). Holds c party calls (mine ++ told last ∷ []) f) (sym (own_here party (side_call call reply) side))
        (holds_here c now f who call party (side_own party side) mine legal (reply_fits c frames now past who call sound legal) (once f) (along.has who f)
        (subst (λ (l : List Told). 1 ≤ times f (had_of l)) pushed_is some)))

    -- no other caller's frame moves
    stays : (w f : ℕ) → (who ≡ w → ⊥) → 1 ≤ times f (had_of (own w past)) → (given c f call ≤ 0) × (got c f reply ≤ 0)
    stays w f other some =
        let before = (frames_apart c frames past along.history).0 who w other f in
        let later = (frames_apart c frames (past ++ last ∷ []) longer).0 who w other f in
        let unmoved = ap (λ (l : List Told). times f (had_of l)) (own-push_other w past last other) in
        let own_is = ap (λ (l : List Told). times f (had_of l)) pushed_is in (
          omega (arith, same_given c mine who f call legal, legal.frames f, before, some),
          omega (arith, same_got c mine f call reply (reply_fits c frames now past who call sound legal), times-had_of-push f mine (told last), later, unmoved, own_is, some),
        )

    holds_other : (w f : ℕ) → (who ≡ w → ⊥) → 1 ≤ times f (had_of (own w past)) → Holds c (party_of c w) (side_own (party_of c w) next) (own w past) f
    holds_other w f other some = ⊎_elim
        (λ (same : party_of c w ≡ party).
        let unmoved = stays w f other some in
        let before : Holds c party (side_own party side) (own w past) f = subst (λ p. Holds c p (side_own p side) (own w past) f) same (along.has w f some) in
        subst (λ p. Holds c p (side_own p next) (own w past) f) (sym same)
        (subst (λ (calls : List SideCall). Holds c party calls (own w past) f) (sym (own_here party (side_call call reply) side))
        (holds_old c now f who call party (side_own party side) (own w past) (own w past) unmoved.0 unmoved.1 refl before)))
        (λ (apart : party_of c w ≡ party → ⊥).
        subst (λ (calls : List SideCall). Holds c (party_of c w) calls (own w past) f) (sym (own_else (party_of c w) party (side_call call reply) side apart)) (along.has w f some))
        (one_party (party_of c w) party)

    holds_next : (w f : ℕ) → 1 ≤ times f (had_of (own w (past ++ last ∷ []))) → Holds c (party_of c w) (side_own (party_of c w) next) (own w (past ++ last ∷ [])) f
    holds_next w f some = ⊎_elim
        (λ (e : who ≡ w).
        subst (λ x. 1 ≤ times f (had_of (own x (past ++ last ∷ []))) → Holds c (party_of c x) (side_own (party_of c x) next) (own x (past ++ last ∷ [])) f) e (holds_own f) some)
        (λ (e : who ≡ w → ⊥).
        let unmoved : own w (past ++ last ∷ []) ≡ own w past = own-push_other w past last e in
        subst (λ (l : List Told). Holds c (party_of c w) (side_own (party_of c w) next) l f) (sym unmoved)
        (holds_other w f e (subst (λ (l : List Told). 1 ≤ times f (had_of l)) unmoved some)))
        (cases_eq who w)

    pub along_next : Along c frames (past ++ last ∷ []) next
    along_next = record {
      history = longer;
      legal = followed (setting_of c) party side (side_call call reply) along.legal (follows call legal);
      same =
          subst (λ (s : State). IsSame c s next) (sym (after_all-append c (opening c frames) past (last ∷ [])))
          (same_step c now who call party side along.same legal.known sound.rings);
      has = holds_next;
    }
