-- Calls that are not noted leave what a standing stands for, and a Submit or a Peek begins with no item.
use Rattle.std.proofs.Common.{◌≡◌, ℕ, Bool, true, false, not, cond, nat_lt, List, [], ◌∷◌, ◌++◌, length, map, drop, None, refl, sym, ap, subst, ◌∙◌, arith, append-nil}
use Rattle.xsk_umem.specs.declared.batch.Item.{Item}
use Rattle.xsk_model.specs.Config.{Config}
use Rattle.xsk_model.specs.Packets.{rest}
use Rattle.xsk_model.specs.Numbers.{times, numbers}
use Rattle.xsk_model.specs.Rings.{is_ring}
use Rattle.xsk_model.specs.Object.{call_ring, submitted, taken}
use Rattle.xsk_model.specs.Entry.{Told, with_told}
use Rattle.xsk_model.specs.Own.{TxWork, is_on, granted, released, room_of, held_of, room_step, held_step, waiting, tx_work_of, tx_work_after}
use Rattle.xsk_model.specs.Legal.{IsLegal}
use Rattle.xsk_model.specs.History.{Fits}
use Rattle.xsk_model.specs.declared.call.Ring.{Ring}
use Rattle.xsk_model.specs.declared.call.Ring.TheVariants.{Fill, Comp, Rx, Tx}
use Rattle.xsk_model.specs.OtherWords.{is_flag}
use Rattle.xsk_model.specs.declared.call.Mark.{Mark}
use Rattle.xsk_model.specs.declared.call.Mark.TheVariants.{NeedFill, NeedTx, Kick, RxDone, Gone, TxDone, Cell, Closing, Acked, Bounced}
use Rattle.xsk_model.specs.declared.call.Call.{Call}
use Rattle.xsk_model.specs.declared.call.Call.TheVariants.{Reserve, Submit, Peek, Release, Swap, Look}
use Rattle.xsk_model.specs.declared.call.Reply.{Reply}
use Rattle.xsk_model.specs.declared.call.Reply.TheVariants.{Granted, Full, Submitted, Items, Empty, Released, Old}
use Rattle.xsk_model.proofs.Folds.{part_of-push}
use Rattle.xsk_model.proofs.Sendings.{tx_work_of-push}
use Rattle.xsk_legal.specs.declared.marked.Marked.{Marked}
use Rattle.xsk_legal.specs.Noted.{Noted}
use Rattle.xsk_legal.specs.Marked.{after_swap, after_look, IsMarked}
use Rattle.xsk_legal.specs.Standing.{StandsFor, Keeps, source_of, uncompleted, desc_of, begins, given_back, none_back}
use Rattle.xsk_legal.specs.StandingLaws.{is_noted, is_watched, NeedsNoNote, BeginsWithNone, CanBeNoted}
use Rattle.xsk_legal.proofs.Sources.{source_of-push}
use Rattle.xsk_legal.proofs.Marks.{same_told, marks_same, swapped_marked, looked_marked}
use Rattle.xsk_legal.proofs.Able.{stands_for, can_grant, can_release, can_fetch, can_place}
use Rattle.xsk_model.proofs.OwnRuns.{own_push}

-- ---- calls that are not noted

-- a call that moves nothing
record IsQuiet (c : Config) (mine : List Told) (t : Told) : Type 0 where
  submits : submitted t.call ≡ []
  takes : taken t.reply ≡ []
  gets : granted t.call t.reply ≡ 0
  frees : released t.call ≡ 0
  still : (s : ℕ) → tx_work_after c s (tx_work_of c s mine) t.call t.reply ≡ tx_work_of c s mine

same_cond : {X : Type 0} (b : Bool) (x y : X) → x ≡ y → cond b x y ≡ y
same_cond true x y e = e
same_cond false x y e = refl

module _ (c : Config) (kept : Noted) (mine : List Told) (t : Told) (quiet : IsQuiet c mine t) where
  room_same : (r : Ring) → room_of r (mine ++ t ∷ []) ≡ room_of r mine
  room_same r =
      part_of-push room_step r 0 mine t
      ∙ same_cond (is_on r t.call) (room_step (room_of r mine) t) (room_of r mine) (omega (arith, quiet.gets, ap length quiet.submits))

  held_same : (r : Ring) → held_of r (mine ++ t ∷ []) ≡ held_of r mine
  held_same r =
      part_of-push held_step r 0 mine t
      ∙ same_cond (is_on r t.call) (held_step (held_of r mine) t) (held_of r mine) (omega (arith, quiet.frees, ap length quiet.takes))

  source_same : (n : ℕ) → source_of n (mine ++ t ∷ []) ≡ source_of n mine
  source_same n =
      source_of-push n mine t
      ∙ ap (λ items. cond (nat_lt 0 (times n (numbers items))) (call_ring t.call) (cond (nat_lt 0 (times n (numbers (submitted t.call)))) None (source_of n mine))) quiet.takes
      ∙ ap (λ items. cond (nat_lt 0 (times n (numbers items))) None (source_of n mine)) quiet.submits

  sending_same : (s : ℕ) → tx_work_of c s (mine ++ t ∷ []) ≡ tx_work_of c s mine
  sending_same s = tx_work_of-push c s mine t ∙ quiet.still s

  stands_on : (marked : Marked) → StandsFor c kept mine → IsLegal c mine kept.who t.call → Fits c mine t.call t.reply → IsMarked c kept.who marked (mine ++ t ∷ [])
      → StandsFor c (record kept { marked = marked }) (mine ++ t ∷ [])
  stands_on marked h legal fits marks = record {
    caller = h.caller;
    own = own_push c kept.who [] mine t h.own legal fits;
    keeps = record {
      rings = h.keeps.rings;
      frames = h.keeps.frames;
      sockets = h.keeps.sockets;
      limits = h.keeps.limits;
      room = λ r has. h.keeps.room r has ∙ sym (room_same r);
      held = λ r has. h.keeps.held r has ∙ sym (held_same r);
      sources = λ n below. h.keeps.sources n below ∙ sym (source_same n);
      descs = λ s has. h.keeps.descs s has ∙ ap (λ u. map desc_of (uncompleted c u)) (sym (sending_same s));
      begun = λ s has. h.keeps.begun s has ∙ ap (λ u. length (rest c.geometry c.sg u.peeked)) (sym (sending_same s));
      marked = marks;
    };
  }

peeked_none : (b : Bool) (u : TxWork) → cond b (record u { peeked = u.peeked ++ [] }) u ≡ u
peeked_none true u = ap (λ (items : List Item). record u { peeked = items }) (append-nil u.peeked)
peeked_none false u = refl

quiet_swap : (c : Config) (mine : List Told) (m : Mark) (value old : ℕ) → IsQuiet c mine (record { call = Swap m value; reply = Old old })
quiet_swap c mine m value old = record { submits = refl; takes = refl; gets = refl; frees = refl; still = λ s. refl }

quiet_look : (c : Config) (mine : List Told) (m : Mark) (old : ℕ) → IsQuiet c mine (record { call = Look m; reply = Old old })
quiet_look c mine m old = record { submits = refl; takes = refl; gets = refl; frees = refl; still = λ s. refl }

quiet_call : (c : Config) (mine : List Told) (call : Call) (reply : Reply) → Fits c mine call reply → is_noted call reply ≡ false → IsQuiet c mine (record { call = call; reply = reply })
quiet_call c mine (Reserve r n) Granted fits none = absurd (cc)
quiet_call c mine (Reserve r n) (Full places) fits none = record { submits = refl; takes = refl; gets = refl; frees = refl; still = λ s. refl }
quiet_call c mine (Reserve r n) Submitted fits none = absurd fits
quiet_call c mine (Reserve r n) (Items items) fits none = absurd fits
quiet_call c mine (Reserve r n) Empty fits none = absurd fits
quiet_call c mine (Reserve r n) Released fits none = absurd fits
quiet_call c mine (Reserve r n) (Old value) fits none = absurd fits
quiet_call c mine (Submit r items) Granted fits none = absurd fits
quiet_call c mine (Submit r items) (Full places) fits none = absurd fits
quiet_call c mine (Submit r items) Submitted fits none = absurd (cc)
quiet_call c mine (Submit r items) (Items others) fits none = absurd fits
quiet_call c mine (Submit r items) Empty fits none = absurd fits
quiet_call c mine (Submit r items) Released fits none = absurd fits
quiet_call c mine (Submit r items) (Old value) fits none = absurd fits
quiet_call c mine (Peek r n) Granted fits none = absurd fits
quiet_call c mine (Peek r n) (Full places) fits none = absurd fits
quiet_call c mine (Peek r n) Submitted fits none = absurd fits
quiet_call c mine (Peek r n) (Items items) fits none = absurd (cc)
quiet_call c mine (Peek r n) Empty fits none =
    record { submits = refl; takes = refl; gets = refl; frees = refl; still = λ s. peeked_none (is_ring (Tx s) r) (tx_work_of c s mine) }
quiet_call c mine (Peek r n) Released fits none = absurd fits
quiet_call c mine (Peek r n) (Old value) fits none = absurd fits
quiet_call c mine (Release r n) Granted fits none = absurd fits
quiet_call c mine (Release r n) (Full places) fits none = absurd fits
quiet_call c mine (Release r n) Submitted fits none = absurd fits
quiet_call c mine (Release r n) (Items items) fits none = absurd fits
quiet_call c mine (Release r n) Empty fits none = absurd fits
quiet_call c mine (Release r n) Released fits none = absurd (cc)
quiet_call c mine (Release r n) (Old value) fits none = absurd fits
quiet_call c mine (Swap m value) Granted fits none = absurd fits
quiet_call c mine (Swap m value) (Full places) fits none = absurd fits
quiet_call c mine (Swap m value) Submitted fits none = absurd fits
quiet_call c mine (Swap m value) (Items items) fits none = absurd fits
quiet_call c mine (Swap m value) Empty fits none = absurd fits
quiet_call c mine (Swap m value) Released fits none = absurd fits
quiet_call c mine (Swap m value) (Old old) fits none = quiet_swap c mine m value old
quiet_call c mine (Look m) Granted fits none = absurd fits
quiet_call c mine (Look m) (Full places) fits none = absurd fits
quiet_call c mine (Look m) Submitted fits none = absurd fits
quiet_call c mine (Look m) (Items items) fits none = absurd fits
quiet_call c mine (Look m) Empty fits none = absurd fits
quiet_call c mine (Look m) Released fits none = absurd fits
quiet_call c mine (Look m) (Old old) fits none = quiet_look c mine m old

same_set : (m : Mark) (marked : Marked) (c : Config) (value : ℕ) → not (is_flag m) ≡ false → after_swap c marked m value ≡ marked
same_set (NeedFill d) marked c value e = refl
same_set (NeedTx s) marked c value e = refl
same_set (Kick d) marked c value e = refl
same_set (RxDone d) marked c value e = refl
same_set (Gone d) marked c value e = refl
same_set (TxDone a) marked c value e = refl
same_set (Cell p i) marked c value e = absurd (cc)
same_set (Closing s) marked c value e = absurd (cc)
same_set (Acked s) marked c value e = absurd (cc)
same_set (Bounced d) marked c value e = absurd (cc)

same_look : (m : Mark) (marked : Marked) (c : Config) (old : ℕ) → is_watched m ≡ false → after_look c marked m old ≡ marked
same_look (NeedFill d) marked c old e = refl
same_look (NeedTx s) marked c old e = refl
same_look (Kick d) marked c old e = refl
same_look (RxDone d) marked c old e = refl
same_look (Gone d) marked c old e = refl
same_look (TxDone a) marked c old e = refl
same_look (Cell p i) marked c old e = refl
same_look (Closing s) marked c old e = absurd (cc)
same_look (Acked s) marked c old e = refl
same_look (Bounced d) marked c old e = refl

-- a call that isn't noted leaves what is kept of marks
quiet_marks : (c : Config) (who : ℕ) (marked : Marked) (mine : List Told) (call : Call) (reply : Reply) → IsLegal c mine who call → Fits c mine call reply → is_noted call reply ≡ false
    → IsMarked c who marked mine → IsMarked c who marked (mine ++ (record { call = call; reply = reply }) ∷ [])
quiet_marks c who marked mine (Reserve r n) reply legal fits none h =
    marks_same c who marked mine (mine ++ (record { call = Reserve r n; reply = reply }) ∷ []) (same_told mine (record { call = Reserve r n; reply = reply }) (λ m b. refl) (λ m b. refl)) h
quiet_marks c who marked mine (Submit r items) reply legal fits none h =
    marks_same c who marked mine (mine ++ (record { call = Submit r items; reply = reply }) ∷ []) (same_told mine (record { call = Submit r items; reply = reply }) (λ m b. refl) (λ m b. refl)) h
quiet_marks c who marked mine (Peek r n) reply legal fits none h =
    marks_same c who marked mine (mine ++ (record { call = Peek r n; reply = reply }) ∷ []) (same_told mine (record { call = Peek r n; reply = reply }) (λ m b. refl) (λ m b. refl)) h
quiet_marks c who marked mine (Release r n) reply legal fits none h =
    marks_same c who marked mine (mine ++ (record { call = Release r n; reply = reply }) ∷ []) (same_told mine (record { call = Release r n; reply = reply }) (λ m b. refl) (λ m b. refl)) h
quiet_marks c who marked mine (Swap m value) reply legal fits none h =
    subst (λ (k : Marked). IsMarked c who k (mine ++ (record { call = Swap m value; reply = reply }) ∷ [])) (same_set m marked c value none)
    (swapped_marked c who marked mine reply h m value legal.role)
quiet_marks c who marked mine (Look m) Granted legal fits none h = absurd fits
quiet_marks c who marked mine (Look m) (Full places) legal fits none h = absurd fits
quiet_marks c who marked mine (Look m) Submitted legal fits none h = absurd fits
quiet_marks c who marked mine (Look m) (Items items) legal fits none h = absurd fits
quiet_marks c who marked mine (Look m) Empty legal fits none h = absurd fits
quiet_marks c who marked mine (Look m) Released legal fits none h = absurd fits
quiet_marks c who marked mine (Look m) (Old old) legal fits none h =
    subst (λ (k : Marked). IsMarked c who k (mine ++ (record { call = Look m; reply = Old old }) ∷ [])) (same_look m marked c old none) (looked_marked c who marked mine old h m)

pub needs_no_note : NeedsNoNote
needs_no_note c kept mine call reply h legal fits none =
    stands_on c kept mine (record { call = call; reply = reply }) (quiet_call c mine call reply fits none) kept.marked h legal fits
    (quiet_marks c kept.who kept.marked mine call reply legal fits none h.keeps.marked)

-- ---- Swaps and Looks

pub swapped_stands : (c : Config) (kept : Noted) (mine : List Told) (m : Mark) (value old : ℕ) → StandsFor c kept mine → IsLegal c mine kept.who (Swap m value)
    → Fits c mine (Swap m value) (Old old) → StandsFor c (record kept { marked = after_swap c kept.marked m value }) (with_told mine (Swap m value) (Old old))
swapped_stands c kept mine m value old h legal fits =
    stands_on c kept mine (record { call = Swap m value; reply = Old old }) (quiet_swap c mine m value old) (after_swap c kept.marked m value) h legal fits
    (swapped_marked c kept.who kept.marked mine (Old old) h.keeps.marked m value legal.role)

pub looked_stands : (c : Config) (kept : Noted) (mine : List Told) (m : Mark) (old : ℕ) → StandsFor c kept mine → IsLegal c mine kept.who (Look m)
    → Fits c mine (Look m) (Old old) → StandsFor c (record kept { marked = after_look c kept.marked m old }) (with_told mine (Look m) (Old old))
looked_stands c kept mine m old h legal fits =
    stands_on c kept mine (record { call = Look m; reply = Old old }) (quiet_look c mine m old) (after_look c kept.marked m old) h legal fits
    (looked_marked c kept.who kept.marked mine old h.keeps.marked m)

-- ---- calls that begin

cond_both : (b : Bool) (n : ℕ) → cond b n n ≡ n
cond_both true n = refl
cond_both false n = refl

none_given : (c : Config) (mine : List Told) (r : Ring) (s : ℕ) → given_back c mine r [] s ≡ 0
none_given c mine (Fill d) s = refl
none_given c mine (Comp d) s = cond_both (begins [] (waiting c (tx_work_of c s mine))) 0
none_given c mine (Rx t) s = refl
none_given c mine (Tx t) s = refl

pub begins_with_none : BeginsWithNone
begins_with_none c kept mine r h =
    let keeps : Keeps c kept (mine ++ []) mine none_back = subst (λ m. Keeps c kept m mine none_back) (sym (append-nil mine)) h.keeps in
    let both : Keeps c kept (mine ++ []) (mine ++ []) none_back = subst (λ m. Keeps c kept m m none_back) (sym (append-nil mine)) h.keeps in (
      record {
        caller = h.caller;
        own = h.own;
        keeps = record {
          rings = keeps.rings;
          frames = keeps.frames;
          sockets = keeps.sockets;
          limits = keeps.limits;
          room = keeps.room;
          held = keeps.held;
          sources = keeps.sources;
          descs = λ s has. keeps.descs s has ∙ ap (λ n. drop n (map desc_of (uncompleted c (tx_work_of c s mine)))) (sym (none_given c mine r s));
          begun = keeps.begun;
          marked = keeps.marked;
        };
      },
      record { caller = h.caller; own = h.own; keeps = both },
    )

pub can_be_noted : CanBeNoted
can_be_noted = record { kind = stands_for; grant = can_grant; release = can_release; fetch = can_fetch; place = can_place }
