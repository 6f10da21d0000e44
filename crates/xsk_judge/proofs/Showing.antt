-- What a Peek is answered, by its parts.
use Rattle.std.proofs.Common.{◌≡◌, ℕ, ◌+◌, ◌≤◌, min, false, List, ◌++◌, length, take, drop, set, refl, sym, ap, ◌∙◌, arith, length-drop}
use Rattle.std.proofs.lemmas.List.{take_min, drop_min, length-take}
use Rattle.xsk_umem.specs.declared.batch.XdpDesc.{XdpDesc}
use Rattle.xsk_model.specs.declared.call.Ring.{Ring}
use Rattle.xsk_model.specs.declared.call.Ring.TheVariants.{Fill, Comp, Rx, Tx}
use Rattle.xsk_side.specs.Setting.{Setting, HasRing, pair_of}
use Rattle.xsk_side.specs.Entries.{times}
use Rattle.xsk_side.specs.Object.{is_made}
use Rattle.xsk_side.specs.Legal.{MayCome}
use Rattle.xsk_side.specs.declared.call.Call.TheVariants.{Peek}
use Rattle.xsk_judge.specs.Kept.{Queue, Kept, place, queue_at, strays_at, standing}
use Rattle.xsk_judge.specs.Judging.{IsFor, CanCome, Agrees, MayAnswer, after, come_after, given_in, held_after, marked, peeked, strays_come}

may_come : (s : Setting) (kept : Kept) (r : Ring) (es : List XdpDesc) → CanCome s kept r es → MayCome s (given_in kept.frames) (strays_at kept (pair_of s r)) r es
may_come s kept (Fill d) es h = tt
may_come s kept (Comp d) es h = (h.0.1, h.1)
may_come s kept (Rx k) es h = h.0.1
may_come s kept (Tx k) es h = tt

can_come : (s : Setting) (kept : Kept) (r : Ring) (es : List XdpDesc) → is_made r ≡ false → ((f : ℕ) → times s f es ≤ 1)
    → MayCome s (given_in kept.frames) (strays_at kept (pair_of s r)) r es → CanCome s kept r es
can_come s kept (Fill d) es made once h = absurd (cc)
can_come s kept (Comp d) es made once h = ((once, h.0), h.1)
can_come s kept (Rx k) es made once h = ((once, h), tt)
can_come s kept (Tx k) es made once h = absurd (cc)

pub parts_answer : (s : Setting) (kept : Kept) (r : Ring) (n : ℕ) (es : List XdpDesc) → IsFor s kept → HasRing s r → is_made r ≡ false → Agrees (queue_at s kept r) n es
    → CanCome s kept r (drop (length (standing (queue_at s kept r))) es) → MayAnswer s kept (Peek r n es)
parts_answer s kept r n es for has made agrees come = record {
  few = agrees.0;
  none = agrees.1;
  again = agrees.2;
  places = omega (arith, agrees.3, for.size r has made);
  once = come.0.0;
  new = may_come s kept r (drop (length (standing (queue_at s kept r))) es) come;
}

pub answer_agrees : (s : Setting) (kept : Kept) (r : Ring) (n : ℕ) (es : List XdpDesc) → IsFor s kept → HasRing s r → is_made r ≡ false → MayAnswer s kept (Peek r n es) → Agrees (queue_at s kept r) n es
answer_agrees s kept r n es for has made h = (h.few, h.none, h.again, omega (arith, h.places, for.size r has made))

pub answer_comes : (s : Setting) (kept : Kept) (r : Ring) (n : ℕ) (es : List XdpDesc) → is_made r ≡ false → MayAnswer s kept (Peek r n es)
    → CanCome s kept r (drop (length (standing (queue_at s kept r))) es)
answer_comes s kept r n es made h = can_come s kept r (drop (length (standing (queue_at s kept r))) es) made h.once h.new

-- as far as both reach
pub drop_again : (back es : List XdpDesc) (n : ℕ) → n ≡ min (length back) (length es) → drop n es ≡ drop (length back) es
drop_again back es n is = ap (λ k. drop k es) is ∙ drop_min (length back) es

pub take_again : (back es : List XdpDesc) (n : ℕ) → n ≡ min (length back) (length es) → take n es ≡ take (length back) es
take_again back es n is = ap (λ k. take k es) is ∙ take_min (length back) es

pub length_again : (back es : List XdpDesc) (n : ℕ) → n ≡ min (length back) (length es) → n ≡ length (take (length back) es)
length_again back es n is = is ∙ sym (length-take (length back) es)

-- ---- what is kept behind it, where so many entries stood there before

abbrev pub peek_parts : Setting → ℕ → Kept → Ring → Queue → List XdpDesc → List XdpDesc → ℕ → ℕ → Kept
peek_parts s line kept r queue known new again all = record {
  frames = marked s (peeked r queue.first line) queue.held known (marked s (peeked r queue.first line) (queue.held + again) new kept.frames);
  ends = kept.ends;
  queues = set kept.queues (place s r) (record queue { entries = queue.entries ++ new; held = queue.held + all });
  strays = strays_come s kept r new;
}

pub peek_is : (s : Setting) (line : ℕ) (kept : Kept) (r : Ring) (n again : ℕ) (es : List XdpDesc) → is_made r ≡ false
    → again ≡ min (length (standing (queue_at s kept r))) (length es)
    → peek_parts s line kept r (queue_at s kept r) (take again es) (drop again es) again (again + length (drop again es)) ≡ after s line kept (Peek r n es)
peek_is s line kept r n again es made is =
    let queue = queue_at s kept r in
    let back = standing queue in
    let all : again + length (drop again es) ≡ length es = omega (arith, is, length-drop again es) in
    ap (λ x. peek_parts s line kept r queue x (drop again es) again (again + length (drop again es))) (take_again back es again is)
    ∙ ap (λ x. peek_parts s line kept r queue (take (length back) es) (drop again es) again x) all
    ∙ ap (λ x. peek_parts s line kept r queue (take (length back) es) x again (length es)) (drop_again back es again is)
    ∙ ap (λ x. peek_parts s line kept r queue (take (length back) es) (drop (length back) es) x (length es)) (length_again back es again is)
    ∙ same r made
  where
    same : (r : Ring) → is_made r ≡ false
        → peek_parts s line kept r (queue_at s kept r) (take (length (standing (queue_at s kept r))) es) (drop (length (standing (queue_at s kept r))) es)
        (length (take (length (standing (queue_at s kept r))) es)) (length es) ≡ after s line kept (Peek r n es)
    same (Fill d) h = absurd (cc)
    same (Comp d) h = refl
    same (Rx k) h = refl
    same (Tx k) h = absurd (cc)

pub by_way : (y : Kept) {x z : Kept} → x ≡ y → y ≡ z → x ≡ z
by_way y h k = h ∙ k

pub peek_done : (s : Setting) (line : ℕ) (kept done : Kept) (r : Ring) (n again first at : ℕ) (es known new : List XdpDesc) → is_made r ≡ false
    → again ≡ min (length (standing (queue_at s kept r))) (length es)
    → first ≡ (queue_at s kept r).first → at ≡ (queue_at s kept r).held + again → known ≡ take again es → new ≡ drop again es
    → done ≡ held_after s line (come_after s line kept r first at new) r known new → done ≡ after s line kept (Peek r n es)
peek_done s line kept done r n again first at es known new made is f a k w d =
    let queue = queue_at s kept r in
    let reach : again ≡ length (take again es) = omega (arith, is, length-take again es) in
    d
    ∙ ap (λ x. held_after s line (come_after s line kept r x at new) r known new) f
    ∙ ap (λ x. held_after s line (come_after s line kept r queue.first x new) r known new) a
    ∙ ap (λ x. held_after s line (come_after s line kept r queue.first (queue.held + again) new) r x new) k
    ∙ ap (λ x. held_after s line (come_after s line kept r queue.first (queue.held + again) x) r (take again es) x) w
    ∙ ap (λ x. peek_parts s line kept r queue (take again es) (drop again es) again (x + length (drop again es))) (sym reach)
    ∙ peek_is s line kept r n again es made is
