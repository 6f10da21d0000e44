-- What a call's history says of its point.
use Rattle.std.proofs.Common.{◌≡◌, ℕ, ◌-◌, ◌<◌, ◌≤◌, Bool, true, false, cond, nat_le, List, [], ◌∷◌, ◌++◌, refl, ap, sym, ◌∙◌, arith, subst, leb-false, leb-true}
use Rattle.std.specs.Prelude.{◌↔◌}
use Rattle.xsk_umem.specs.declared.batch.Item.{Item}
use Rattle.xsk_model.specs.Config.{size_of}
use Rattle.xsk_model.specs.Rings.{producer}
use Rattle.xsk_model.specs.Object.{ring_at, free, peek_reply, reply_at, taken}
use Rattle.xsk_model.specs.Entry.{Entry, own, all_told}
use Rattle.xsk_model.specs.Asks.{HasAnswered}
use Rattle.xsk_model.specs.declared.ask.Answer.{Answer}
use Rattle.xsk_model.specs.declared.ask.Answer.TheVariants as answer
use Rattle.xsk_model.specs.Own.{peeked_step, peeked_of, submitted_of}
use Rattle.xsk_model.specs.Opening.{opening}
use Rattle.xsk_model.specs.History.{state_after}
use Rattle.xsk_model.specs.Legal.{IsLegal}
use Rattle.xsk_model.specs.declared.call.Ring.{Ring}
use Rattle.xsk_model.specs.declared.call.Call.{Call}
use Rattle.xsk_model.specs.declared.call.Call.TheVariants.{Reserve, Submit, Peek, Release, Swap, Look}
use Rattle.xsk_model.specs.declared.call.Reply.{Reply}
use Rattle.xsk_model.specs.declared.call.Reply.TheVariants.{Granted, Full, Submitted, Items, Empty, Released, Old}
use Rattle.xsk_model.proofs.Places.{is_ring-self}
use Rattle.xsk_model.proofs.Folds.{part_of-push_same}
use Rattle.xsk_model.proofs.Theorems.{in_order, items_by_own}
use Rattle.xsk_table.specs.View.{Basis, View}
use Rattle.xsk_table.specs.Plays.{entry}
use Rattle.xsk_table.specs.Known.{free_after, out_after}
use Rattle.xsk_table.specs.Held.{Holder, known_on, with_known, is_covered}
use Rattle.xsk_rings.specs.Serving.{Served, before_last, point_of, TellsFree, TellsEmpty, TellsMark, GivesSubmitted, GetsCovered, Tells, known_after, MayGiveServed}

before_push : (l : List Entry) (e : Entry) → before_last (l ++ e ∷ []) ≡ l
before_push [] e = refl
before_push (x ∷ []) e = refl
before_push (x ∷ y ∷ l) e = ap (λ m. x ∷ m) (before_push (y ∷ l) e)

-- the reply is the object's at the point of the call
pub replied : (p q : Holder) (call : Call) (reply : Reply) → Served p q call reply → reply ≡ reply_at q.view.setup.config (point_of q.view) call
replied p q call reply s =
    let h = s.history in
    let before : before_last q.view.seen ≡ p.view.seen ++ h.between = ap before_last h.seen ∙ before_push (p.view.seen ++ h.between) (entry p.who call reply) in
    h.given ∙ (λ i. reply_at (sym h.setup i).config (state_after (sym h.setup i).config (sym h.setup i).frames (sym before i)) call)

-- ---- Full and Empty

granted_full : (places : ℕ) → Granted ≡ Full places → ⊥
granted_full places e = cc

abbrev places_of_reply : Reply → ℕ
places_of_reply Granted = 0
places_of_reply (Full places) = places
places_of_reply Submitted = 0
places_of_reply (Items items) = 0
places_of_reply Empty = 0
places_of_reply Released = 0
places_of_reply (Old value) = 0

full_by : (b : Bool) (n there places : ℕ) (reply : Reply) → nat_le n there ≡ b → reply ≡ cond b Granted (Full there) → (reply ≡ Full places) ↔ ((places ≡ there) × (places < n))
full_by true n there places reply e is = (
  λ full. absurd (granted_full places (sym is ∙ full)),
  λ h. absurd (let le : n ≤ there = leb-true n there e in let same = h.0 in let lt = h.1 in omega arith),
)
full_by false n there places reply e is = (
  λ full. (let same : there ≡ places = ap places_of_reply (sym is ∙ full) in let lt : there < n = leb-false n there e in (sym same, omega arith)),
  λ h. is ∙ ap Full (sym h.0),
)

items_empty : (items : List Item) → Items items ≡ Empty → ⊥
items_empty items e = cc

empty_by : (n : ℕ) (out : List Item) (reply : Reply) → reply ≡ peek_reply n out → (reply ≡ Empty) ↔ (out ≡ [])
empty_by n [] reply is = (λ e. refl, λ e. is)
empty_by n (x ∷ out) reply is = (λ e. absurd (items_empty _ (sym is ∙ e)), λ e. absurd (cc))

pub tells_free : (v : View) (call : Call) (reply : Reply) → reply ≡ reply_at v.setup.config (point_of v) call → TellsFree v call reply
tells_free v (Reserve r n) reply is = λ places. let there : ℕ = free (size_of v.setup.config r) (ring_at v.setup.config (point_of v) r) in full_by (nat_le n there) n there places reply refl is
tells_free v (Submit r items) reply is = tt
tells_free v (Peek r n) reply is = tt
tells_free v (Release r n) reply is = tt
tells_free v (Swap m value) reply is = tt
tells_free v (Look m) reply is = tt

pub tells_empty : (v : View) (call : Call) (reply : Reply) → reply ≡ reply_at v.setup.config (point_of v) call → TellsEmpty v call reply
tells_empty v (Reserve r n) reply is = tt
tells_empty v (Submit r items) reply is = tt
tells_empty v (Peek r n) reply is = empty_by n (ring_at v.setup.config (point_of v) r).out reply is
tells_empty v (Release r n) reply is = tt
tells_empty v (Swap m value) reply is = tt
tells_empty v (Look m) reply is = tt

pub tells_mark : (v : View) (call : Call) (reply : Reply) → reply ≡ reply_at v.setup.config (point_of v) call → TellsMark v call reply
tells_mark v (Reserve r n) reply is = tt
tells_mark v (Submit r items) reply is = tt
tells_mark v (Peek r n) reply is = tt
tells_mark v (Release r n) reply is = tt
tells_mark v (Swap m value) reply is = is
tells_mark v (Look m) reply is = is

-- ---- items

peek_gives : (p q : Holder) (r : Ring) (n : ℕ) (reply : Reply) → IsLegal p.view.setup.config (own p.who p.view.seen) p.who (Peek r n) → Served p q (Peek r n) reply → GivesSubmitted p q.view (Peek r n) reply
peek_gives p q r n reply legal s =
    let h = s.history in
    let k : Basis = p.view.setup in
    let seen = q.view.seen in
    let left : List Item = (ring_at k.config (state_after k.config k.frames seen) r).out in
    let order : peeked_of r (all_told seen) ++ left ≡ (ring_at k.config (opening k.config k.frames) r).out ++ submitted_of r (all_told seen) = in_order k.config k.frames seen r h.legal legal.known in
    let by_own = items_by_own k.config k.frames seen r h.legal legal.known in
    let grown : peeked_of r (own p.who seen) ≡ peeked_of r (own p.who p.view.seen) ++ taken reply =
    ap (peeked_of r) h.mine ∙ part_of-push_same peeked_step r [] (own p.who p.view.seen) (record { call = Peek r n; reply = reply }) (is_ring-self r) in
    let mine : peeked_of r (all_told seen) ≡ peeked_of r (own p.who p.view.seen) ++ taken reply = by_own.0 ∙ ap (λ w. peeked_of r (own w seen)) (sym legal.role) ∙ grown in
    let whole : (ring_at k.config (opening k.config k.frames) r).out ++ submitted_of r (own (producer k.config r) seen) ≡ (peeked_of r (own p.who p.view.seen) ++ taken reply) ++ left =
    ap (λ l. (ring_at k.config (opening k.config k.frames) r).out ++ l) (sym by_own.1) ∙ sym order ∙ ap (λ l. l ++ left) mine in
    let P : Basis → Type 0 = λ j. (ring_at j.config (opening j.config j.frames) r).out ++ submitted_of r (own (producer j.config r) seen)
    ≡ (peeked_of r (own p.who p.view.seen) ++ taken reply) ++ (ring_at j.config (state_after j.config j.frames seen) r).out in
    subst P (sym h.setup) whole

pub gives_submitted : (p q : Holder) (call : Call) (reply : Reply) → IsLegal p.view.setup.config (own p.who p.view.seen) p.who call → Served p q call reply → GivesSubmitted p q.view call reply
gives_submitted p q (Reserve r n) reply legal s = tt
gives_submitted p q (Submit r items) reply legal s = tt
gives_submitted p q (Peek r n) reply legal s = peek_gives p q r n reply legal s
gives_submitted p q (Release r n) reply legal s = tt
gives_submitted p q (Swap m value) reply legal s = tt
gives_submitted p q (Look m) reply legal s = tt

pub served_free : (p q : Holder) (call : Call) (reply : Reply) → Served p q call reply → TellsFree q.view call reply
served_free p q call reply s = tells_free q.view call reply (replied p q call reply s)

pub served_empty : (p q : Holder) (call : Call) (reply : Reply) → Served p q call reply → TellsEmpty q.view call reply
served_empty p q call reply s = tells_empty q.view call reply (replied p q call reply s)

pub served_mark : (p q : Holder) (call : Call) (reply : Reply) → Served p q call reply → TellsMark q.view call reply
served_mark p q call reply s = tells_mark q.view call reply (replied p q call reply s)

-- ---- machines

pub may_give_served : MayGiveServed
may_give_served p q call reply s =
    let h = s.history in
    let k : Basis = p.view.setup in
    (record { frames = k.frames; history = q.view.seen; legal = h.legal; entries = h.mine }, ap (λ w. own w q.view.seen) s.who ∙ h.mine)

-- ---- all that a call tells

pub tells : (p q : Holder) (call : Call) (reply : Reply) → IsLegal p.view.setup.config (own p.who p.view.seen) p.who call → Served p q call reply → GetsCovered p call reply → q.known ≡ known_after p q.view call
    → Tells p q call reply
tells p q call reply legal s covered known = record {
  served = s;
  free = served_free p q call reply s;
  empty = served_empty p q call reply s;
  mark = served_mark p q call reply s;
  submitted = gives_submitted p q call reply legal s;
  covered = covered;
  known = known;
}

-- what is known after a Reserve that is covered, and after one that isn't; and the same of a Peek
pub known_reserved : (p : Holder) (v : View) (r : Ring) (n : ℕ) (known : List ℕ) → is_covered p (Reserve r n) ≡ true → known ≡ with_known p r (known_on p r - n) → known ≡ known_after p v (Reserve r n)
known_reserved p v r n known covers is = is ∙ ap (λ b. with_known p r (cond b (known_on p r - n) (free_after p.view.setup v.seen r))) (sym covers)

pub known_looked : (p : Holder) (v : View) (r : Ring) (n : ℕ) (known : List ℕ) → is_covered p (Reserve r n) ≡ false → known ≡ with_known p r (free_after p.view.setup v.seen r) → known ≡ known_after p v (Reserve r n)
known_looked p v r n known uncovered is = is ∙ ap (λ b. with_known p r (cond b (known_on p r - n) (free_after p.view.setup v.seen r))) (sym uncovered)

pub known_peeked : (p : Holder) (v : View) (r : Ring) (n : ℕ) (known : List ℕ) → is_covered p (Peek r n) ≡ true → known ≡ with_known p r (known_on p r - n) → known ≡ known_after p v (Peek r n)
known_peeked p v r n known covers is = is ∙ ap (λ b. with_known p r (cond b (known_on p r - n) (out_after p.view.setup v.seen r))) (sym covers)

pub known_found : (p : Holder) (v : View) (r : Ring) (n : ℕ) (known : List ℕ) → is_covered p (Peek r n) ≡ false → known ≡ with_known p r (out_after p.view.setup v.seen r) → known ≡ known_after p v (Peek r n)
known_found p v r n known uncovered is = is ∙ ap (λ b. with_known p r (cond b (known_on p r - n) (out_after p.view.setup v.seen r))) (sym uncovered)

pub not_both : (b : Bool) → b ≡ false → b ≡ true → ⊥
not_both b is_false is_true = cc

-- an answer that gives no items has none beside it
pub none_answered : (answer : Answer) → HasAnswered answer []
none_answered answer.Granted = refl
none_answered (answer.Full free) = refl
none_answered answer.Submitted = refl
none_answered answer.Items = tt
none_answered answer.Empty = refl
none_answered answer.Released = refl
none_answered (answer.Old number) = refl
