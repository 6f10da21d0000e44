-- What a standing keeps of a caller's Swaps and Looks is what they leave.
use Rattle.std.proofs.Common.{◌≡◌, ℕ, ◌<◌, ◌&&◌, Bool, true, false, cond, eqb, List, [], ◌∷◌, ◌++◌, length, get_or, set, replicate, Option, Some, refl, sym, ap, subst, ◌∙◌, ⊎_elim, arith, eq-eqb, ne_eqb, length-set, get_or-set_same, get_or-set_other}
use Rattle.std.specs.Prelude.{IfSome, unwrap_or}
use Rattle.std.proofs.lemmas.Bool.{cases_eq}
use Rattle.std.proofs.lemmas.List.{get_or-replicate, length-replicate}
use Rattle.xsk_model.specs.Config.{Config, IsConfig, IsClosable, HasRing}
use Rattle.xsk_model.specs.Rings.{port_of}
use Rattle.xsk_model.specs.Entry.{Told, with_told}
use Rattle.xsk_model.specs.Swaps.{set_after, last_set, seen_after, last_seen, MaySwap}
use Rattle.xsk_model.specs.OtherWords.{is_flag}
use Rattle.xsk_model.specs.declared.call.Ring.TheVariants.{Rx}
use Rattle.xsk_model.specs.declared.call.Mark.{Mark}
use Rattle.xsk_model.specs.declared.call.Mark.TheVariants.{NeedFill, NeedTx, Kick, RxDone, Gone, TxDone, Cell, Closing, Acked, Bounced}
use Rattle.xsk_model.specs.declared.call.Call.TheVariants.{Swap, Look}
use Rattle.xsk_model.specs.declared.call.Reply.{Reply}
use Rattle.xsk_model.specs.declared.call.Reply.TheVariants.{Old}
use Rattle.xsk_model.proofs.Closings.{set_push, seen_push}
use Rattle.xsk_legal.specs.declared.marked.Marked.{Marked}
use Rattle.xsk_legal.specs.Marked.{is_number, is_port_of, after_swap, after_look, IsMarked}
use Rattle.xsk_legal.specs.StandingLaws.{is_watched}

-- ---- calls on rings

-- what the caller set and saw is the same
pub record SameMarks (before after : List Told) : Type 0 where
  pub sets : (m : Mark) → last_set m after ≡ last_set m before
  pub sees : (m : Mark) → last_seen m after ≡ last_seen m before

pub same_itself : (mine : List Told) → SameMarks mine mine
same_itself mine = record { sets = λ m. refl; sees = λ m. refl }

pub same_told : (mine : List Told) (t : Told) → ((m : Mark) (before : Option ℕ) → set_after m before t.call ≡ before)
    → ((m : Mark) (before : Option ℕ) → seen_after m before t.call t.reply ≡ before) → SameMarks mine (mine ++ t ∷ [])
same_told mine t sets sees = record {
  sets = λ m. set_push m mine t ∙ sets m (last_set m mine);
  sees = λ m. seen_push m mine t ∙ sees m (last_seen m mine);
}

-- two lists that leave the same as a third
pub same_between : (mine before after : List Told) → SameMarks mine before → SameMarks mine after → SameMarks before after
same_between mine before after h k = record { sets = λ m. k.sets m ∙ sym (h.sets m); sees = λ m. k.sees m ∙ sym (h.sees m) }

pub marks_same : (c : Config) (who : ℕ) (marked : Marked) (before after : List Told) → SameMarks before after → IsMarked c who marked before → IsMarked c who marked after
marks_same c who marked before after same h = record {
  cells = h.cells;
  lowered = λ s index is within. h.lowered s index is within ∙ ap (is_number 0) (sym (same.sets (Cell (port_of c (Rx s)) index)));
  closed = λ s is. h.closed s is ∙ ap (is_number 1) (sym (same.sets (Closing s)));
  acked = λ s is. h.acked s is ∙ ap (is_number 1) (sym (same.sets (Acked s)));
  seen = λ s is. h.seen s is ∙ ap (is_number 1) (sym (same.sees (Closing s)));
  bounced = h.bounced ∙ ap (λ (o : Option ℕ). unwrap_or o 0) (sym (same.sets (Bounced who)));
}

-- ---- the opening

pub marks_none : (c : Config) (who : ℕ) → IsMarked c who (record { lowered = replicate 64 false; closed = false; acked = false; seen = false; bounced = 0 }) []
marks_none c who = record {
  cells = length-replicate 64 false;
  lowered = λ s index is within. get_or-replicate 64 index false false within;
  closed = λ s is. refl;
  acked = λ s is. refl;
  seen = λ s is. refl;
  bounced = refl;
}

-- ---- a call that leaves all marks that are kept

record Leaves (c : Config) (who : ℕ) (marked now : Marked) (t : Told) : Type 0 where
  cells : (p i : ℕ) (before : Option ℕ) → set_after (Cell p i) before t.call ≡ before
  closing : (s : ℕ) (before : Option ℕ) → set_after (Closing s) before t.call ≡ before
  acked : (s : ℕ) (before : Option ℕ) → set_after (Acked s) before t.call ≡ before
  bounced : (d : ℕ) (before : Option ℕ) → set_after (Bounced d) before t.call ≡ before
  seen : (s : ℕ) (before : Option ℕ) → seen_after (Closing s) before t.call t.reply ≡ before
  same : now ≡ marked

left : (c : Config) (who : ℕ) (marked now : Marked) (mine : List Told) (t : Told) → Leaves c who marked now t → IsMarked c who marked mine → IsMarked c who now (mine ++ t ∷ [])
left c who marked now mine t leaves h = subst (λ (k : Marked). IsMarked c who k (mine ++ t ∷ [])) (sym leaves.same) (record {
  cells = h.cells;
  lowered = λ s index is within.
      h.lowered s index is within
      ∙ ap (is_number 0) (sym (set_push (Cell (port_of c (Rx s)) index) mine t ∙ leaves.cells (port_of c (Rx s)) index (last_set (Cell (port_of c (Rx s)) index) mine)));
  closed = λ s is. h.closed s is ∙ ap (is_number 1) (sym (set_push (Closing s) mine t ∙ leaves.closing s (last_set (Closing s) mine)));
  acked = λ s is. h.acked s is ∙ ap (is_number 1) (sym (set_push (Acked s) mine t ∙ leaves.acked s (last_set (Acked s) mine)));
  seen = λ s is. h.seen s is ∙ ap (is_number 1) (sym (seen_push (Closing s) mine t ∙ leaves.seen s (last_seen (Closing s) mine)));
  bounced = h.bounced ∙ ap (λ (o : Option ℕ). unwrap_or o 0) (sym (set_push (Bounced who) mine t ∙ leaves.bounced who (last_set (Bounced who) mine)));
})

-- ---- a Swap

-- one of two numbers that are asked for is the other
pub one_socket : (o : Option ℕ) (s t : ℕ) → o ≡ Some s → o ≡ Some t → s ≡ t
one_socket o s t e f = let same : Some s ≡ Some t = sym e ∙ f in cc

lowered_at : (b : Bool) (xs : List Bool) (i k : ℕ) (last : Option ℕ) → length xs ≡ 64 → k < 64 → get_or xs k false ≡ is_number 0 last
    → get_or (cond b (set xs i true) xs) k false ≡ is_number 0 (cond (b && eqb k i) (Some 0) last)
lowered_at false xs i k last size within h = h
lowered_at true xs i k last size within h = ⊎_elim
    (λ (e : k ≡ i).
    ap (λ j. get_or (set xs j true) k false) (sym e)
    ∙ get_or-set_same xs k true false (omega (arith, size, within))
    ∙ sym (ap (λ b. is_number 0 (cond b (Some 0) last)) (eq-eqb k i e)))
    (λ (e : k ≡ i → ⊥).
    get_or-set_other xs i k true false e ∙ h ∙ sym (ap (λ b. is_number 0 (cond b (Some 0) last)) (ne_eqb k i e)))
    (cases_eq k i)

length_either : (b : Bool) (xs : List Bool) (i : ℕ) → length (cond b (set xs i true) xs) ≡ length xs
length_either true xs i = length-set xs i true
length_either false xs i = refl

module _ (c : Config) (who : ℕ) (marked : Marked) (mine : List Told) (reply : Reply) (h : IsMarked c who marked mine) where
  swapped_cell : (port index value : ℕ) → MaySwap c mine who (Cell port index) value → IsMarked c who (after_swap c marked (Cell port index) value) (with_told mine (Swap (Cell port index) value) reply)
  swapped_cell port index value may =
      let t : Told = record { call = Swap (Cell port index) value; reply = reply } in
      record {
        cells = length_either (is_port_of c c.closing port) marked.lowered index ∙ h.cells;
        lowered = λ s k is within.
            ap (λ o. get_or (cond (is_port_of c o port) (set marked.lowered index true) marked.lowered) k false) is
            ∙ lowered_at (eqb (port_of c (Rx s)) port) marked.lowered index k (last_set (Cell (port_of c (Rx s)) k) mine) h.cells within (h.lowered s k is within)
            ∙ ap (λ v. is_number 0 (cond (eqb (port_of c (Rx s)) port && eqb k index) (Some v) (last_set (Cell (port_of c (Rx s)) k) mine))) (sym may.1)
            ∙ ap (is_number 0) (sym (set_push (Cell (port_of c (Rx s)) k) mine t));
        closed = λ s is. h.closed s is ∙ ap (is_number 1) (sym (set_push (Closing s) mine t));
        acked = λ s is. h.acked s is ∙ ap (is_number 1) (sym (set_push (Acked s) mine t));
        seen = λ s is. h.seen s is ∙ ap (is_number 1) (sym (seen_push (Closing s) mine t));
        bounced = h.bounced ∙ ap (λ (o : Option ℕ). unwrap_or o 0) (sym (set_push (Bounced who) mine t));
      }

  swapped_closing : (x value : ℕ) → MaySwap c mine who (Closing x) value → IsMarked c who (after_swap c marked (Closing x) value) (with_told mine (Swap (Closing x) value) reply)
  swapped_closing x value may =
      let t : Told = record { call = Swap (Closing x) value; reply = reply } in
      record {
        cells = h.cells;
        lowered = λ s k is within. h.lowered s k is within ∙ ap (is_number 0) (sym (set_push (Cell (port_of c (Rx s)) k) mine t));
        closed = λ s is.
            let one : eqb s x ≡ true = eq-eqb s x (one_socket c.closing s x is may.0.0) in
            sym (ap (is_number 1) (set_push (Closing s) mine t)
            ∙ ap (λ b. is_number 1 (cond b (Some value) (last_set (Closing s) mine))) one
            ∙ ap (λ v. is_number 1 (Some v)) may.1.0);
        acked = λ s is. h.acked s is ∙ ap (is_number 1) (sym (set_push (Acked s) mine t));
        seen = λ s is. h.seen s is ∙ ap (is_number 1) (sym (seen_push (Closing s) mine t));
        bounced = h.bounced ∙ ap (λ (o : Option ℕ). unwrap_or o 0) (sym (set_push (Bounced who) mine t));
      }

  swapped_acked : (x value : ℕ) → MaySwap c mine who (Acked x) value → IsMarked c who (after_swap c marked (Acked x) value) (with_told mine (Swap (Acked x) value) reply)
  swapped_acked x value may =
      let t : Told = record { call = Swap (Acked x) value; reply = reply } in
      record {
        cells = h.cells;
        lowered = λ s k is within. h.lowered s k is within ∙ ap (is_number 0) (sym (set_push (Cell (port_of c (Rx s)) k) mine t));
        closed = λ s is. h.closed s is ∙ ap (is_number 1) (sym (set_push (Closing s) mine t));
        acked = λ s is.
            let one : eqb s x ≡ true = eq-eqb s x (one_socket c.closing s x is may.0.0) in
            sym (ap (is_number 1) (set_push (Acked s) mine t)
            ∙ ap (λ b. is_number 1 (cond b (Some value) (last_set (Acked s) mine))) one
            ∙ ap (λ v. is_number 1 (Some v)) may.1.0);
        seen = λ s is. h.seen s is ∙ ap (is_number 1) (sym (seen_push (Closing s) mine t));
        bounced = h.bounced ∙ ap (λ (o : Option ℕ). unwrap_or o 0) (sym (set_push (Bounced who) mine t));
      }

  swapped_bounced : (d value : ℕ) → MaySwap c mine who (Bounced d) value → IsMarked c who (after_swap c marked (Bounced d) value) (with_told mine (Swap (Bounced d) value) reply)
  swapped_bounced d value may =
      let t : Told = record { call = Swap (Bounced d) value; reply = reply } in
      record {
        cells = h.cells;
        lowered = λ s k is within. h.lowered s k is within ∙ ap (is_number 0) (sym (set_push (Cell (port_of c (Rx s)) k) mine t));
        closed = λ s is. h.closed s is ∙ ap (is_number 1) (sym (set_push (Closing s) mine t));
        acked = λ s is. h.acked s is ∙ ap (is_number 1) (sym (set_push (Acked s) mine t));
        seen = λ s is. h.seen s is ∙ ap (is_number 1) (sym (seen_push (Closing s) mine t));
        bounced =
            sym (ap (λ (o : Option ℕ). unwrap_or o 0) (set_push (Bounced who) mine t)
            ∙ ap (λ b. unwrap_or (cond b (Some value) (last_set (Bounced who) mine)) 0) (eq-eqb who d may.0));
      }

  swapped_flag : (m : Mark) (value : ℕ) → is_flag m ≡ true → IsMarked c who (after_swap c marked m value) (with_told mine (Swap m value) reply)
  swapped_flag m value flag = left c who marked (after_swap c marked m value) mine (record { call = Swap m value; reply = reply }) (by m flag) h
    where
      by : (m : Mark) → is_flag m ≡ true → Leaves c who marked (after_swap c marked m value) (record { call = Swap m value; reply = reply })
      by (NeedFill d) e = record { cells = λ p i b. refl; closing = λ s b. refl; acked = λ s b. refl; bounced = λ d b. refl; seen = λ s b. refl; same = refl }
      by (NeedTx s) e = record { cells = λ p i b. refl; closing = λ s b. refl; acked = λ s b. refl; bounced = λ d b. refl; seen = λ s b. refl; same = refl }
      by (Kick d) e = record { cells = λ p i b. refl; closing = λ s b. refl; acked = λ s b. refl; bounced = λ d b. refl; seen = λ s b. refl; same = refl }
      by (RxDone d) e = record { cells = λ p i b. refl; closing = λ s b. refl; acked = λ s b. refl; bounced = λ d b. refl; seen = λ s b. refl; same = refl }
      by (Gone d) e = record { cells = λ p i b. refl; closing = λ s b. refl; acked = λ s b. refl; bounced = λ d b. refl; seen = λ s b. refl; same = refl }
      by (TxDone a) e = record { cells = λ p i b. refl; closing = λ s b. refl; acked = λ s b. refl; bounced = λ d b. refl; seen = λ s b. refl; same = refl }
      by (Cell p i) e = absurd (cc)
      by (Closing s) e = absurd (cc)
      by (Acked s) e = absurd (cc)
      by (Bounced d) e = absurd (cc)

  pub swapped_marked : (m : Mark) (value : ℕ) → MaySwap c mine who m value → IsMarked c who (after_swap c marked m value) (with_told mine (Swap m value) reply)
  swapped_marked (NeedFill d) value may = swapped_flag (NeedFill d) value refl
  swapped_marked (NeedTx s) value may = swapped_flag (NeedTx s) value refl
  swapped_marked (Kick d) value may = swapped_flag (Kick d) value refl
  swapped_marked (RxDone d) value may = swapped_flag (RxDone d) value refl
  swapped_marked (Gone d) value may = swapped_flag (Gone d) value refl
  swapped_marked (TxDone a) value may = swapped_flag (TxDone a) value refl
  swapped_marked (Cell p i) value may = swapped_cell p i value may
  swapped_marked (Closing s) value may = swapped_closing s value may
  swapped_marked (Acked s) value may = swapped_acked s value may
  swapped_marked (Bounced d) value may = swapped_bounced d value may

-- ---- a Look

seen_either : (b : Bool) (old : ℕ) (seen : Bool) (last : Option ℕ) → seen ≡ is_number 1 last → cond b (eqb old 1) seen ≡ is_number 1 (cond b (Some old) last)
seen_either true old seen last h = turned old
  where
    turned : (n : ℕ) → eqb n 1 ≡ eqb 1 n
    turned n = ⊎_elim
        (λ (e : n ≡ 1). eq-eqb n 1 e ∙ sym (eq-eqb 1 n (sym e)))
        (λ (e : n ≡ 1 → ⊥). ne_eqb n 1 e ∙ sym (ne_eqb 1 n (λ (f : 1 ≡ n). e (sym f))))
        (cases_eq n 1)
seen_either false old seen last h = h

module _ (c : Config) (who : ℕ) (marked : Marked) (mine : List Told) (old : ℕ) (h : IsMarked c who marked mine) where
  looked_closing : (x : ℕ) → IsMarked c who (after_look c marked (Closing x) old) (with_told mine (Look (Closing x)) (Old old))
  looked_closing x =
      let t : Told = record { call = Look (Closing x); reply = Old old } in
      record {
        cells = h.cells;
        lowered = λ s k is within. h.lowered s k is within ∙ ap (is_number 0) (sym (set_push (Cell (port_of c (Rx s)) k) mine t));
        closed = λ s is. h.closed s is ∙ ap (is_number 1) (sym (set_push (Closing s) mine t));
        acked = λ s is. h.acked s is ∙ ap (is_number 1) (sym (set_push (Acked s) mine t));
        seen = λ s is.
            let turned : is_number x c.closing ≡ eqb s x = ap (is_number x) is ∙ same_way x s in
            ap (λ b. cond b (eqb old 1) marked.seen) turned
            ∙ seen_either (eqb s x) old marked.seen (last_seen (Closing s) mine) (h.seen s is)
            ∙ ap (is_number 1) (sym (seen_push (Closing s) mine t));
        bounced = h.bounced ∙ ap (λ (o : Option ℕ). unwrap_or o 0) (sym (set_push (Bounced who) mine t));
      }
    where
      same_way : (a b : ℕ) → eqb a b ≡ eqb b a
      same_way a b = ⊎_elim
          (λ (e : a ≡ b). eq-eqb a b e ∙ sym (eq-eqb b a (sym e)))
          (λ (e : a ≡ b → ⊥). ne_eqb a b e ∙ sym (ne_eqb b a (λ (f : b ≡ a). e (sym f))))
          (cases_eq a b)

  looked_other : (m : Mark) → is_watched m ≡ false → IsMarked c who (after_look c marked m old) (with_told mine (Look m) (Old old))
  looked_other m other = left c who marked (after_look c marked m old) mine (record { call = Look m; reply = Old old }) (by m other) h
    where
      by : (m : Mark) → is_watched m ≡ false → Leaves c who marked (after_look c marked m old) (record { call = Look m; reply = Old old })
      by (NeedFill d) e = record { cells = λ p i b. refl; closing = λ s b. refl; acked = λ s b. refl; bounced = λ d b. refl; seen = λ s b. refl; same = refl }
      by (NeedTx s) e = record { cells = λ p i b. refl; closing = λ s b. refl; acked = λ s b. refl; bounced = λ d b. refl; seen = λ s b. refl; same = refl }
      by (Kick d) e = record { cells = λ p i b. refl; closing = λ s b. refl; acked = λ s b. refl; bounced = λ d b. refl; seen = λ s b. refl; same = refl }
      by (RxDone d) e = record { cells = λ p i b. refl; closing = λ s b. refl; acked = λ s b. refl; bounced = λ d b. refl; seen = λ s b. refl; same = refl }
      by (Gone d) e = record { cells = λ p i b. refl; closing = λ s b. refl; acked = λ s b. refl; bounced = λ d b. refl; seen = λ s b. refl; same = refl }
      by (TxDone a) e = record { cells = λ p i b. refl; closing = λ s b. refl; acked = λ s b. refl; bounced = λ d b. refl; seen = λ s b. refl; same = refl }
      by (Cell p i) e = record { cells = λ p i b. refl; closing = λ s b. refl; acked = λ s b. refl; bounced = λ d b. refl; seen = λ s b. refl; same = refl }
      by (Closing s) e = absurd (cc)
      by (Acked s) e = record { cells = λ p i b. refl; closing = λ s b. refl; acked = λ s b. refl; bounced = λ d b. refl; seen = λ s b. refl; same = refl }
      by (Bounced d) e = record { cells = λ p i b. refl; closing = λ s b. refl; acked = λ s b. refl; bounced = λ d b. refl; seen = λ s b. refl; same = refl }

  pub looked_marked : (m : Mark) → IsMarked c who (after_look c marked m old) (with_told mine (Look m) (Old old))
  looked_marked (NeedFill d) = looked_other (NeedFill d) refl
  looked_marked (NeedTx s) = looked_other (NeedTx s) refl
  looked_marked (Kick d) = looked_other (Kick d) refl
  looked_marked (RxDone d) = looked_other (RxDone d) refl
  looked_marked (Gone d) = looked_other (Gone d) refl
  looked_marked (TxDone a) = looked_other (TxDone a) refl
  looked_marked (Cell p i) = looked_other (Cell p i) refl
  looked_marked (Closing s) = looked_closing s
  looked_marked (Acked s) = looked_other (Acked s) refl
  looked_marked (Bounced d) = looked_other (Bounced d) refl

-- ---- the socket to close

closable : (c : Config) (s : ℕ) → IsConfig c → c.closing ≡ Some s → IsClosable c.sockets s
closable c s config is = subst (λ (o : Option ℕ). IfSome o (IsClosable c.sockets)) is config.closing

pub closing_rx : (c : Config) (s : ℕ) → IsConfig c → c.closing ≡ Some s → HasRing c (Rx s)
closing_rx c s config is = let can = closable c s config is in (can.0, can.1)
