-- What a driver has done with a TX ring, and what it sent.
use Rattle.std.proofs.Common.{◌≡◌, ℕ, ◌≤◌, inl, inr, Bool, true, false, cond, List, [], ◌∷◌, ◌++◌, length, take, map, refl, sym, ap, subst, ◌∙◌, arith, append_assoc, append-nil, length-append, length-drop, take-add}
use Rattle.std.proofs.lemmas.List.{map-append, take-append-le}
use Rattle.std.proofs.lemmas.List.Sums.{fold_push}
use Rattle.xsk_umem.specs.declared.batch.Item.{Item}
use Rattle.xsk_model.specs.Config.{Config}
use Rattle.xsk_model.specs.Packets.{packets, packets_from, rest, whole_packets, bytes_of}
use Rattle.xsk_model.specs.Numbers.{numbers}
use Rattle.xsk_model.specs.Rings.{is_ring}
use Rattle.xsk_model.specs.Object.{taken}
use Rattle.xsk_model.specs.Entry.{Told}
use Rattle.xsk_model.specs.Own.{TxWork, is_on, is_same, waiting, completed_by, tx_work_after, tx_work_step, tx_work_of, peeked_step, peeked_of}
use Rattle.xsk_model.specs.History.{Fits, OwnGoesOn}
use Rattle.xsk_model.specs.Sent.{completed_in, sent_from}
use Rattle.xsk_model.specs.declared.call.Ring.TheVariants.{Fill, Comp, Rx, Tx}
use Rattle.xsk_model.specs.declared.call.Call.{Call}
use Rattle.xsk_model.specs.declared.call.Call.TheVariants.{Reserve, Submit, Peek, Release, Swap, Look}
use Rattle.xsk_model.specs.declared.call.Reply.{Reply}
use Rattle.xsk_model.proofs.PacketsLaws.{packets_from-append, whole_packets-append}
use Rattle.xsk_model.proofs.Folds.{part_of-push}
use Rattle.xsk_model.proofs.OwnRuns.{own_all, fits_taken}

-- the Whole packets of all that was peeked on a TX ring
abbrev pub wholes : Config → TxWork → List (List Item)
wholes c sending = whole_packets (packets c.geometry c.sg sending.peeked)

-- those that further items bring
abbrev pub more_wholes : Config → List Item → List Item → List (List Item)
more_wholes c peeked items = whole_packets (packets_from c.geometry c.sg (rest c.geometry c.sg peeked) items)

pub wholes-append : (c : Config) (peeked items : List Item)
    → whole_packets (packets c.geometry c.sg (peeked ++ items)) ≡ whole_packets (packets c.geometry c.sg peeked) ++ more_wholes c peeked items
wholes-append c peeked items =
    ap whole_packets (packets_from-append c.geometry c.sg [] peeked items)
    ∙ whole_packets-append (packets c.geometry c.sg peeked) (packets_from c.geometry c.sg (rest c.geometry c.sg peeked) items)

pub tx_work_of-push : (c : Config) (s : ℕ) (mine : List Told) (t : Told) → tx_work_of c s (mine ++ t ∷ []) ≡ tx_work_after c s (tx_work_of c s mine) t.call t.reply
tx_work_of-push c s mine t = fold_push (tx_work_step c s) (record { peeked = []; completed = 0 }) mine t

-- ---- completed packets

completed_front : (items : List Item) (b : Bool) (packet : List Item) (later : List (List Item))
    → cond b (packet ∷ []) [] ≡ take (length (cond b (packet ∷ []) [])) (packet ∷ later)
completed_front items true packet later = refl
completed_front items false packet later = refl

-- what a Submit completes stands at the front of what waits
pub completed_by-front : (items : List Item) (packets : List (List Item)) → completed_by items packets ≡ take (length (completed_by items packets)) packets
completed_by-front items [] = refl
completed_by-front items (packet ∷ later) = completed_front items (is_same (numbers items) (numbers packet)) packet later

one_or_none : (b : Bool) (packet : List Item) (later : List (List Item)) → length (cond b (packet ∷ []) []) ≤ length (packet ∷ later)
one_or_none true packet later = omega arith
one_or_none false packet later = omega arith

pub completed_by-few : (items : List Item) (packets : List (List Item)) → length (completed_by items packets) ≤ length packets
completed_by-few items [] = omega arith
completed_by-few items (packet ∷ later) = one_or_none (is_same (numbers items) (numbers packet)) packet later

cond-take : (b : Bool) (c : Config) (u : TxWork) (items : List Item) → u.completed ≤ length (wholes c u)
    → (take (cond b (record u { peeked = u.peeked ++ items }) u).completed (wholes c (cond b (record u { peeked = u.peeked ++ items }) u)) ≡ take u.completed (wholes c u))
    × ((cond b (record u { peeked = u.peeked ++ items }) u).completed ≤ length (wholes c (cond b (record u { peeked = u.peeked ++ items }) u)))
cond-take true c u items h =
    let more = wholes-append c u.peeked items in (
      ap (take u.completed) more ∙ take-append-le u.completed (wholes c u) (more_wholes c u.peeked items) h,
      omega (arith, h, ap length more, length-append (wholes c u) (more_wholes c u.peeked items)),
    )
cond-take false c u items h = (refl, h)

abbrev IsDone : Config → TxWork → TxWork → List (List Item) → Type 0
IsDone c old new done = (take new.completed (wholes c new) ≡ take old.completed (wholes c old) ++ done) × (new.completed ≤ length (wholes c new))

same_done : (c : Config) (u : TxWork) → u.completed ≤ length (wholes c u) → IsDone c u u []
same_done c u h = (sym (append-nil (take u.completed (wholes c u))), h)

-- the packets that a call completes on one TX ring
abbrev pub completed_at : Config → TxWork → Call → List (List Item)
completed_at c u (Reserve r n) = []
completed_at c u (Submit (Fill d) items) = []
completed_at c u (Submit (Comp d) items) = completed_by items (waiting c u)
completed_at c u (Submit (Rx s) items) = []
completed_at c u (Submit (Tx s) items) = []
completed_at c u (Peek r n) = []
completed_at c u (Release r n) = []
completed_at c u (Swap m value) = []
completed_at c u (Look m) = []

pub sending_done : (c : Config) (s : ℕ) (u : TxWork) (call : Call) (reply : Reply) → u.completed ≤ length (wholes c u)
    → IsDone c u (tx_work_after c s u call reply) (completed_at c u call)
sending_done c s u (Reserve r n) reply h = same_done c u h
sending_done c s u (Submit (Fill d) items) reply h = same_done c u h
sending_done c s u (Submit (Comp d) items) reply h = (
  take-add u.completed (length (completed_by items (waiting c u))) (wholes c u)
      ∙ ap (λ xs. take u.completed (wholes c u) ++ xs) (sym (completed_by-front items (waiting c u))),
  omega (arith, completed_by-few items (waiting c u), length-drop u.completed (wholes c u), h),
)
sending_done c s u (Submit (Rx t) items) reply h = same_done c u h
sending_done c s u (Submit (Tx t) items) reply h = same_done c u h
sending_done c s u (Peek r n) reply h =
    let same = cond-take (is_ring (Tx s) r) c u (taken reply) h in
    (same.0 ∙ sym (append-nil (take u.completed (wholes c u))), same.1)
sending_done c s u (Release r n) reply h = same_done c u h
sending_done c s u (Swap m value) reply h = same_done c u h
sending_done c s u (Look m) reply h = same_done c u h

pub completed_in-one : (c : Config) (s : ℕ) (past : List Told) (call : Call) → completed_in c (s ∷ []) past call ≡ completed_at c (tx_work_of c s past) call
completed_in-one c s past (Reserve r n) = refl
completed_in-one c s past (Submit (Fill d) items) = refl
completed_in-one c s past (Submit (Comp d) items) = append-nil (completed_by items (waiting c (tx_work_of c s past)))
completed_in-one c s past (Submit (Rx t) items) = refl
completed_in-one c s past (Submit (Tx t) items) = refl
completed_in-one c s past (Peek r n) = refl
completed_in-one c s past (Release r n) = refl
completed_in-one c s past (Swap m value) = refl
completed_in-one c s past (Look m) = refl

abbrev pub IsWithin : Config → ℕ → List Told → Type 0
IsWithin c s mine = (tx_work_of c s mine).completed ≤ length (wholes c (tx_work_of c s mine))

pub within-push : (c : Config) (s : ℕ) (mine : List Told) (t : Told) → IsWithin c s mine → IsWithin c s (mine ++ t ∷ [])
within-push c s mine t h =
    subst (λ u. u.completed ≤ length (wholes c u)) (sym (tx_work_of-push c s mine t)) (sending_done c s (tx_work_of c s mine) t.call t.reply h).1

done_packets : Config → ℕ → List Told → List (List Item)
done_packets c s mine = take (tx_work_of c s mine).completed (wholes c (tx_work_of c s mine))

done_packets-push : (c : Config) (s : ℕ) (mine : List Told) (t : Told) → IsWithin c s mine
    → done_packets c s (mine ++ t ∷ []) ≡ done_packets c s mine ++ completed_in c (s ∷ []) mine t.call
unfolding done_packets
done_packets-push c s mine t h =
    ap (λ u. take u.completed (wholes c u)) (tx_work_of-push c s mine t)
    ∙ (sending_done c s (tx_work_of c s mine) t.call t.reply h).0
    ∙ ap (λ xs. take (tx_work_of c s mine).completed (wholes c (tx_work_of c s mine)) ++ xs) (sym (completed_in-one c s mine t.call))

-- what is sent from some calls on, after what was sent before
sent_goes : (c : Config) (s : ℕ) (past mine : List Told) → IsWithin c s past
    → map (bytes_of c.geometry c.sg) (done_packets c s past) ++ sent_from c (s ∷ []) past mine ≡ map (bytes_of c.geometry c.sg) (done_packets c s (past ++ mine))
sent_goes c s past [] h =
    append-nil (map (bytes_of c.geometry c.sg) (done_packets c s past)) ∙ ap (λ p. map (bytes_of c.geometry c.sg) (done_packets c s p)) (sym (append-nil past))
sent_goes c s past (t ∷ mine) h =
    let bytes : List Item → List ℕ = bytes_of c.geometry c.sg in
    let now : List (List Item) = completed_in c (s ∷ []) past t.call in
    let later : List (List ℕ) = sent_from c (s ∷ []) (past ++ t ∷ []) mine in
    sym (append_assoc (map (bytes_of c.geometry c.sg) (done_packets c s past)) (map (bytes_of c.geometry c.sg) now) later)
    ∙ ap (λ xs. xs ++ later) (sym (map-append (bytes_of c.geometry c.sg) (done_packets c s past) now))
    ∙ ap (λ xs. map (bytes_of c.geometry c.sg) xs ++ later) (sym (done_packets-push c s past t h))
    ∙ sent_goes c s (past ++ t ∷ []) mine (within-push c s past t h)
    ∙ ap (λ p. map (bytes_of c.geometry c.sg) (done_packets c s p)) (append_assoc past (t ∷ []) mine)

pub sent_is : (c : Config) (s : ℕ) (mine : List Told)
    → sent_from c (s ∷ []) [] mine ≡ map (bytes_of c.geometry c.sg) (take (tx_work_of c s mine).completed (wholes c (tx_work_of c s mine)))
unfolding done_packets
sent_is c s mine = sent_goes c s [] mine (omega arith)

-- ---- peeked items

peeked_step-cond : (b : Bool) (u : TxWork) (items : List Item) → (cond b (record u { peeked = u.peeked ++ items }) u).peeked ≡ cond b (u.peeked ++ items) u.peeked
peeked_step-cond true u items = refl
peeked_step-cond false u items = refl

cond_same : (b : Bool) (xs ys : List Item) → ys ≡ [] → xs ≡ cond b (xs ++ ys) xs
cond_same true xs ys h = sym (append-nil xs) ∙ ap (λ zs. xs ++ zs) (sym h)
cond_same false xs ys h = refl

-- a call and a fitting reply bring a TX ring's items to both
sending_peeked : (c : Config) (s : ℕ) (mine : List Told) (u : TxWork) (call : Call) (reply : Reply) → Fits c mine call reply
    → (tx_work_after c s u call reply).peeked ≡ cond (is_on (Tx s) call) (u.peeked ++ taken reply) u.peeked
sending_peeked c s mine u (Reserve r n) reply h = elim (fits_taken c mine (Reserve r n) reply h) [ inl e ↦ cond_same (is_ring (Tx s) r) u.peeked (taken reply) e | inr p ↦ absurd (cc (p.2)) ]
sending_peeked c s mine u (Submit (Fill d) items) reply h = refl
sending_peeked c s mine u (Submit (Comp d) items) reply h = refl
sending_peeked c s mine u (Submit (Rx t) items) reply h = refl
sending_peeked c s mine u (Submit (Tx t) items) reply h = elim (fits_taken c mine (Submit (Tx t) items) reply h) [ inl e ↦ cond_same (is_ring (Tx s) (Tx t)) u.peeked (taken reply) e | inr p ↦ absurd (cc (p.2)) ]
sending_peeked c s mine u (Peek r n) reply h = peeked_step-cond (is_ring (Tx s) r) u (taken reply)
sending_peeked c s mine u (Release r n) reply h = elim (fits_taken c mine (Release r n) reply h) [ inl e ↦ cond_same (is_ring (Tx s) r) u.peeked (taken reply) e | inr p ↦ absurd (cc (p.2)) ]
sending_peeked c s mine u (Swap m value) reply h = refl
sending_peeked c s mine u (Look m) reply h = refl

pub peeked_is : (c : Config) (who s : ℕ) (mine : List Told) → OwnGoesOn c who [] mine → (tx_work_of c s mine).peeked ≡ peeked_of (Tx s) mine
peeked_is c who s mine goes =
    own_all (λ m. (tx_work_of c s m).peeked ≡ peeked_of (Tx s) m) c who [] mine
    (λ before t legal fits h.
    ap (λ (u : TxWork). u.peeked) (tx_work_of-push c s before t)
    ∙ sending_peeked c s before (tx_work_of c s before) t.call t.reply fits
    ∙ ap (λ xs. cond (is_on (Tx s) t.call) (xs ++ taken t.reply) xs) h
    ∙ sym (part_of-push peeked_step (Tx s) [] before t))
    goes refl
