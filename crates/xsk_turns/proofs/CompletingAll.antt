-- In a whole run all packets that were peeked on a TX ring whole are completed, since nothing finished is left.
use Rattle.std.proofs.Common.{◌≡◌, ℕ, ◌≤◌, List, [], ◌∷◌, length, drop, ap, sym, ◌∙◌, length-drop, arith, refl}
use Rattle.xsk_umem.specs.declared.batch.Item.{Item}
use Rattle.xsk_turns.proofs.Object.{packets, whole_packets, tx_work_of}
use Rattle.xsk_model.proofs.Completions.{own_kept}
use Rattle.xsk_model.proofs.Sendings.{wholes, peeked_is}
use Rattle.xsk_turns.specs.Owned.{of_class, socket_at_class}
use Rattle.xsk_turns.specs.Law.{CompletesAll}
use Rattle.xsk_turns.proofs.Owning.{has_ended}

none_of : (class : ℕ) (ks : List ℕ) (xs : List (List Item)) → xs ≡ [] → of_class class ks xs ≡ []
none_of class [] xs e = refl
none_of class (k ∷ ks) [] e = refl
none_of class (k ∷ ks) (x ∷ xs) e = absurd (omega (arith, ap length e))

all_done : (completed : ℕ) (all : List (List Item)) → completed ≤ length all → length (drop completed all) ≡ 0 → completed ≡ length all
all_done completed all h e = omega (arith, length-drop completed all)

pub completes_all : CompletesAll
completes_all wire c d class input l is fit whole below =
    let has = has_ended wire c d input l is fit whole.0 whole.1 in
    let s = socket_at_class c d class in
    let u = tx_work_of c s l in
    let within = (own_kept c d is.known l has.0.own).within s in
    let none = sym (has.0.waits class below) ∙ none_of class has.0.origins whole.0.finished has.1 in
    all_done u.completed (wholes c u) within (ap length none) ∙ ap (λ items. length (whole_packets (packets c.geometry c.sg items))) (peeked_is c d s l has.0.own)
