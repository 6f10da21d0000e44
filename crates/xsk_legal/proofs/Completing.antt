-- The items of a legal Submit on COMPLETION: each has a frame that came from one TX ring, and the first of them begin
-- the next packet that waits there, and no other.
use Rattle.std.proofs.Common.{◌≡◌, ℕ, ◌+◌, ◌<◌, ◌≤◌, Bool, true, false, cond, eqb, nat_lt, List, [], ◌∷◌, ◌++◌, length, take, drop, map, flat_map, All, Some, refl, sym, ap, subst, ◌∙◌, ⊎_elim, arith, append_assoc, append-nil, length-append, take-append-drop, drop-drop, eq-eqb, ne_eqb}
use Rattle.std.specs.Prelude.{is_some}
use Rattle.std.proofs.lemmas.Bool.{cases_eq, cases_lt}
use Rattle.std.proofs.lemmas.List.{length-map, map-append}
use Rattle.std.proofs.lemmas.List.Elements.{All-nil, All-cons, All-head, All-tail}
use Rattle.std.proofs.Math.Seq.{take-append_seam, drop-append_seam}
use Rattle.xsk_umem.specs.Frame.{Frame}
use Rattle.xsk_umem.specs.Geometry.{Geometry, area_of}
use Rattle.xsk_umem.specs.declared.batch.Item.{Item}
use Rattle.xsk_model.specs.Config.{Config}
use Rattle.xsk_model.specs.Packets.{rest}
use Rattle.xsk_model.specs.Numbers.{times, number_of, numbers}
use Rattle.xsk_model.specs.Entry.{Told, with_told}
use Rattle.xsk_model.specs.Own.{TxWork, had_of, is_same, waiting, completed_by, tx_work_of}
use Rattle.xsk_model.specs.Legal.{IsItemOn, AreCompleted}
use Rattle.xsk_model.specs.declared.call.Ring.TheVariants.{Comp, Tx}
use Rattle.xsk_model.specs.declared.call.Call.TheVariants.{Submit}
use Rattle.xsk_model.specs.declared.call.Reply.TheVariants.{Submitted}
use Rattle.xsk_model.proofs.Counting.{times-append, its_own, numbers-append}
use Rattle.xsk_model.proofs.Sendings.{wholes, tx_work_of-push}
use Rattle.xsk_model.proofs.Completions.{kept, is_same-self, times-numbers-append, is_same-true}
use Rattle.xsk_legal.specs.Standing.{source_of, begins, given_back, desc_of, uncompleted}
use Rattle.xsk_legal.proofs.Steps.{all_later}
use Rattle.xsk_legal.proofs.Completed.{all_next}
use Rattle.xsk_legal.proofs.Waiting.{IsWaiting, IsInside, uncompleted_inside, framed}

abbrev joined : List (List Item) → List Item
joined groups = flat_map (λ (group : List Item). group) groups

-- items with the addresses of others lie in the UMEM as they do
inside_by : (g : Geometry) (xs ys : List Item) → map (λ (i : Item). i.desc.addr) xs ≡ map (λ (i : Item). i.desc.addr) ys → All (IsInside g) ys → All (IsInside g) xs
inside_by g [] ys e h = All-nil (IsInside g)
inside_by g (x ∷ xs) [] e h = absurd (cc)
inside_by g (x ∷ xs) (y ∷ ys) e h =
    let address : x.desc.addr ≡ y.desc.addr = cc in
    let later : map (λ (i : Item). i.desc.addr) xs ≡ map (λ (i : Item). i.desc.addr) ys = cc in
    All-cons (IsInside g) x xs (ap (λ a. nat_lt a (area_of g)) address ∙ All-head (IsInside g) y ys h) (inside_by g xs ys later (All-tail (IsInside g) y ys h))

-- ---- which packet they begin

-- the numbers with which a packet begins stand in it
begins_times : (n : ℕ) (ns : List ℕ) (waits : List (List Item)) → begins ns waits ≡ true → times n ns ≤ times n (flat_map numbers waits)
begins_times n ns [] h = absurd (cc)
begins_times n ns (packet ∷ later) h =
    let same = is_same-true ns (take (length ns) (numbers packet)) h in
    omega (
      arith,
      ap (times n) same,
      ap (times n) (take-append-drop (length ns) (numbers packet)),
      times-append n (take (length ns) (numbers packet)) (drop (length ns) (numbers packet)),
      times-append n (numbers packet) (flat_map numbers later),
    )

completes_times : (n : ℕ) (items : List Item) (waits : List (List Item)) → 1 ≤ length (completed_by items waits) → times n (numbers items) ≤ times n (flat_map numbers waits)
completes_times n items [] h = absurd (omega (arith, h))
completes_times n items (packet ∷ later) h = either (is_same (numbers items) (numbers packet)) refl h
  where
    either : (b : Bool) → is_same (numbers items) (numbers packet) ≡ b → 1 ≤ length (cond b (packet ∷ []) []) → times n (numbers items) ≤ times n (flat_map numbers (packet ∷ later))
    either true e k = omega (arith, ap (times n) (is_same-true (numbers items) (numbers packet) e), times-append n (numbers packet) (flat_map numbers later))
    either false e k = absurd (omega (arith, k))

begins_front : (front later : List ℕ) (packet : List Item) (groups : List (List Item)) → numbers packet ≡ front ++ later → begins front (packet ∷ groups) ≡ true
begins_front front later packet groups e =
    ap (λ ns. is_same front (take (length front) ns)) e ∙ ap (is_same front) (take-append_seam front later) ∙ is_same-self front

waiting_part : (n : ℕ) (c : Config) (u : TxWork) → times n (flat_map numbers (waiting c u)) ≤ times n (kept c u)
waiting_part n c u = omega (arith, times-append n (flat_map numbers (waiting c u)) (numbers (rest c.geometry c.sg u.peeked)))

same_ring : (s k : ℕ) → Some (Tx s) ≡ Some (Tx k) → s ≡ k
same_ring s k e = cc

same_zero : (b : Bool) (n : ℕ) → n ≡ 0 → cond b n 0 ≡ 0
same_zero true n h = h
same_zero false n h = refl

-- ---- a legal Submit

module _ (c : Config) (mine : List Told) (d : ℕ) (items : List Item) (waits : IsWaiting c mine) (lawful : All (IsItemOn c.geometry (Comp d)) items)
    (had : (n : ℕ) → times n (numbers items) ≤ times n (had_of mine)) (done : AreCompleted c mine (Comp d) items) where
  packet_inside : All (IsInside c.geometry) done.packet
  packet_inside = all_next (IsInside c.geometry) c (tx_work_of c done.socket mine) done.packet done.later done.next (uncompleted_inside c (tx_work_of c done.socket mine))

  inside : All (IsInside c.geometry) items
  inside = inside_by c.geometry items done.packet done.addresses packet_inside

  -- a number of the items came from the TX ring
  pub from_ring : (n : ℕ) → 1 ≤ times n (numbers items) → source_of n mine ≡ Some (Tx done.socket)
  from_ring n some = (waits.sent done.socket n).source (omega (
    arith,
    some,
    ap (times n) done.frames,
    ap (λ ws. times n (flat_map numbers ws)) done.next,
    times-append n (numbers done.packet) (flat_map numbers done.later),
    waiting_part n c (tx_work_of c done.socket mine),
  ))

  -- an item in the midst
  module _ (front : List Item) (item : Item) (more : List Item) (is : items ≡ front ++ item ∷ more) where
    pub item_lawful : IsItemOn c.geometry (Comp d) item
    item_lawful = All-head (IsItemOn c.geometry (Comp d)) item more (all_later (IsItemOn c.geometry (Comp d)) front (item ∷ more) (subst (All (IsItemOn c.geometry (Comp d))) is lawful))

    item_inside : IsInside c.geometry item
    item_inside = All-head (IsInside c.geometry) item more (all_later (IsInside c.geometry) front (item ∷ more) (subst (All (IsInside c.geometry)) is inside))

    pub item_framed : (f : Frame) × (item.frame ≡ Some f)
    item_framed = framed c.geometry (Comp d) item item_lawful item_inside

    parts : (n : ℕ) → times n (numbers items) ≡ times n (numbers front) + (times n (number_of item.frame) + times n (numbers more))
    parts n = ap (λ xs. times n (numbers xs)) is ∙ omega (arith, times-numbers-append n front (item ∷ more), times-append n (number_of item.frame) (numbers more))

    here : times item_framed.0.number (number_of item.frame) ≡ 1
    here = omega (arith, ap (λ o. times item_framed.0.number (number_of o)) item_framed.1, its_own item_framed.0.number item_framed.0.number refl)

    pub item_from : source_of item_framed.0.number mine ≡ Some (Tx done.socket)
    item_from = from_ring item_framed.0.number (omega (arith, parts item_framed.0.number, here))

    -- its frame is not that of an earlier one
    pub not_earlier : times item_framed.0.number (numbers front) ≡ 0
    not_earlier =
        omega (arith, parts item_framed.0.number, here, had item_framed.0.number, (waits.from item_framed.0.number).had, at_most (is_some (source_of item_framed.0.number mine)))
      where
        at_most : (b : Bool) → cond b 1 0 ≤ 1
        at_most true = omega arith
        at_most false = omega arith

  -- ---- what is given back

  -- numbers that stand in what another ring waits for aren't those of the items
  not_there : (first : Item) (others : List Item) (more : List Item) → items ≡ (first ∷ others) ++ more → (s : ℕ) → (s ≡ done.socket → ⊥)
      → ((n : ℕ) → times n (numbers (first ∷ others)) ≤ times n (flat_map numbers (waiting c (tx_work_of c s mine)))) → ⊥
  not_there first others more is s other within =
      let f : (f : Frame) × (first.frame ≡ Some f) = item_framed [] first (others ++ more) is in
      let some : 1 ≤ times f.0.number (numbers (first ∷ others)) =
      omega (
        arith,
        times-append f.0.number (number_of first.frame) (numbers others),
        ap (λ o. times f.0.number (number_of o)) f.1,
        its_own f.0.number f.0.number refl,
      ) in
      let there : source_of f.0.number mine ≡ Some (Tx s) =
      (waits.sent s f.0.number).source (omega (arith, some, within f.0.number, waiting_part f.0.number c (tx_work_of c s mine))) in
      other (same_ring s done.socket (sym there ∙ item_from [] first (others ++ more) is))

  given_other : (front more : List Item) → items ≡ front ++ more → (s : ℕ) → (s ≡ done.socket → ⊥) → given_back c mine (Comp d) front s ≡ 0
  given_other [] more is s other = same_zero (begins [] (waiting c (tx_work_of c s mine))) 0 refl
  given_other (first ∷ others) more is s other = either (begins (numbers (first ∷ others)) (waiting c (tx_work_of c s mine))) refl
    where
      either : (b : Bool) → begins (numbers (first ∷ others)) (waiting c (tx_work_of c s mine)) ≡ b → cond b (length (first ∷ others)) 0 ≡ 0
      either true e = absurd (not_there first others more is s other (λ n. begins_times n (numbers (first ∷ others)) (waiting c (tx_work_of c s mine)) e))
      either false e = refl

  given_here : (front more : List Item) → items ≡ front ++ more → given_back c mine (Comp d) front done.socket ≡ length front
  given_here front more is =
      let split : numbers done.packet ≡ numbers front ++ numbers more = sym done.frames ∙ ap numbers is ∙ numbers-append front more in
      ap (λ ws. cond (begins (numbers front) ws) (length front) 0) done.next
      ∙ ap (λ b. cond b (length front) 0) (begins_front (numbers front) (numbers more) done.packet done.later split)

  -- the first items give back the first of the ring, and none of others
  pub given_is : (front more : List Item) → items ≡ front ++ more → (s : ℕ) → given_back c mine (Comp d) front s ≡ cond (eqb s done.socket) (length front) 0
  given_is front more is s = ⊎_elim
      (λ (e : s ≡ done.socket).
      ap (given_back c mine (Comp d) front) e ∙ given_here front more is ∙ sym (ap (λ b. cond b (length front) 0) (eq-eqb s done.socket e)))
      (λ (e : s ≡ done.socket → ⊥). given_other front more is s e ∙ sym (ap (λ b. cond b (length front) 0) (ne_eqb s done.socket e)))
      (cases_eq s done.socket)

  as_long : length items ≡ length done.packet
  as_long = omega (arith, ap length done.addresses, length-map items (λ (i : Item). i.desc.addr), length-map done.packet (λ (i : Item). i.desc.addr))

  -- what waits on the ring
  pub next_items : uncompleted c (tx_work_of c done.socket mine) ≡ done.packet ++ (joined done.later ++ rest c.geometry c.sg (tx_work_of c done.socket mine).peeked)
  next_items =
      ap (λ ws. joined ws ++ rest c.geometry c.sg (tx_work_of c done.socket mine).peeked) done.next
      ∙ append_assoc done.packet (joined done.later) (rest c.geometry c.sg (tx_work_of c done.socket mine).peeked)

  pub some_left : length items + length (rest c.geometry c.sg (tx_work_of c done.socket mine).peeked) ≤ length (uncompleted c (tx_work_of c done.socket mine))
  some_left =
      omega (
        arith,
        as_long,
        ap length next_items,
        length-append done.packet (joined done.later ++ rest c.geometry c.sg (tx_work_of c done.socket mine).peeked),
        length-append (joined done.later) (rest c.geometry c.sg (tx_work_of c done.socket mine).peeked),
      )

  -- ---- the whole Submit

  pub told_sending : (s : ℕ) → tx_work_of c s (with_told mine (Submit (Comp d) items) Submitted)
      ≡ record (tx_work_of c s mine) { completed = (tx_work_of c s mine).completed + length (completed_by items (waiting c (tx_work_of c s mine))) }
  told_sending s = tx_work_of-push c s mine (record { call = Submit (Comp d) items; reply = Submitted })

  completed_here : length (completed_by items (waiting c (tx_work_of c done.socket mine))) ≡ 1
  completed_here =
      ap (λ ws. length (completed_by items ws)) done.next
      ∙ ap (λ ns. length (cond (is_same (numbers items) ns) (done.packet ∷ []) [])) (sym done.frames)
      ∙ ap (λ b. length (cond b (done.packet ∷ []) [])) (is_same-self (numbers items))

  completed_other : (first : Item) (others : List Item) → items ≡ first ∷ others → (s : ℕ) → (s ≡ done.socket → ⊥) → length (completed_by items (waiting c (tx_work_of c s mine))) ≡ 0
  completed_other first others is s other = ⊎_elim
      (λ (some : 0 < length (completed_by items (waiting c (tx_work_of c s mine)))).
      absurd (not_there first others [] (is ∙ sym (append-nil (first ∷ others))) s other
      (λ n. subst (λ xs. times n (numbers xs) ≤ times n (flat_map numbers (waiting c (tx_work_of c s mine)))) is (completes_times n items (waiting c (tx_work_of c s mine)) some))))
      (λ (none : length (completed_by items (waiting c (tx_work_of c s mine))) ≤ 0). omega (arith, none))
      (cases_lt 0 (length (completed_by items (waiting c (tx_work_of c s mine)))))

  left_here : map desc_of (uncompleted c (tx_work_of c done.socket (with_told mine (Submit (Comp d) items) Submitted)))
      ≡ drop (length items) (map desc_of (uncompleted c (tx_work_of c done.socket mine)))
  left_here =
      let u : TxWork = tx_work_of c done.socket mine in
      let later : List Item = joined done.later ++ rest c.geometry c.sg u.peeked in
      let waits_now : drop (u.completed + length (completed_by items (waiting c u))) (wholes c u) ≡ done.later =
      ap (λ k. drop (u.completed + k) (wholes c u)) completed_here
      ∙ sym (drop-drop 1 u.completed (wholes c u))
      ∙ ap (drop 1) done.next in
      let now : uncompleted c (tx_work_of c done.socket (with_told mine (Submit (Comp d) items) Submitted)) ≡ later =
      ap (uncompleted c) (told_sending done.socket) ∙ ap (λ ws. joined ws ++ rest c.geometry c.sg u.peeked) waits_now in
      let size : length items ≡ length (map desc_of done.packet) = omega (arith, as_long, length-map done.packet desc_of) in
      ap (map desc_of) now
      ∙ sym (drop-append_seam (map desc_of done.packet) (map desc_of later))
      ∙ ap (λ k. drop k (map desc_of done.packet ++ map desc_of later)) (sym size)
      ∙ ap (drop (length items)) (sym (ap (map desc_of) next_items ∙ map-append desc_of done.packet later))

  left_other : (first : Item) (others : List Item) → items ≡ first ∷ others → (s : ℕ) → (s ≡ done.socket → ⊥)
      → tx_work_of c s (with_told mine (Submit (Comp d) items) Submitted) ≡ tx_work_of c s mine
  left_other first others is s other =
      let none : (tx_work_of c s mine).completed + length (completed_by items (waiting c (tx_work_of c s mine))) ≡ (tx_work_of c s mine).completed = omega (arith, completed_other first others is s other) in
      told_sending s ∙ ap (λ k. record (tx_work_of c s mine) { completed = k }) none

  -- the ring has lost its first packet, and the others are as they were
  pub left_is : (first : Item) (others : List Item) → items ≡ first ∷ others → (s : ℕ)
      → map desc_of (uncompleted c (tx_work_of c s (with_told mine (Submit (Comp d) items) Submitted)))
      ≡ drop (cond (eqb s done.socket) (length items) 0) (map desc_of (uncompleted c (tx_work_of c s mine)))
  left_is first others is s = ⊎_elim
      (λ (e : s ≡ done.socket).
      ap (λ k. map desc_of (uncompleted c (tx_work_of c k (with_told mine (Submit (Comp d) items) Submitted)))) e
      ∙ left_here
      ∙ ap (λ k. drop (length items) (map desc_of (uncompleted c (tx_work_of c k mine)))) (sym e)
      ∙ ap (λ b. drop (cond b (length items) 0) (map desc_of (uncompleted c (tx_work_of c s mine)))) (sym (eq-eqb s done.socket e)))
      (λ (e : s ≡ done.socket → ⊥).
      ap (λ u. map desc_of (uncompleted c u)) (left_other first others is s e)
      ∙ ap (λ b. drop (cond b (length items) 0) (map desc_of (uncompleted c (tx_work_of c s mine)))) (sym (ne_eqb s done.socket e)))
      (cases_eq s done.socket)
