-- Giving back the first finished packet completes that packet alone, and no other call completes any.
use Rattle.std.proofs.Common.{◌≡◌, ℕ, ◌≤◌, Bool, true, false, cond, List, [], ◌∷◌, ◌++◌, length, get_or, map, flat_map, refl, sym, ap, subst, ◌∙◌, ⊎_elim, arith, append_assoc, append-nil, length-append, ne_eqb}
use Rattle.std.proofs.lemmas.Bool.{cases_eq}
use Rattle.xsk_turns.proofs.Object.{Config, times, bytes_of, taken, completed_by, waiting, tx_work_of, IsLegal, Fits, sockets_of, completed_in}
use Rattle.xsk_model.specs.Sent.{all_sent_from, bounced_in}
use Rattle.xsk_turns.proofs.Calls.{Told, with_told, Comp, Call, Submit, Reply}
use Rattle.xsk_model.specs.declared.call.Act.TheVariants.{Call as Gave, Ended as IsEnded}
use Rattle.xsk_model.proofs.Closings.{all_sent-push}
use Rattle.xsk_model.proofs.Completions.{one_completion}
use Rattle.xsk_turns.specs.Turns.{Judged, Kept, seat_of, returned}
use Rattle.xsk_turns.specs.Owned.{IsSeat, socket_at_class, Owned}
use Rattle.xsk_turns.specs.declared.wire.Wire.{Wire}
use Rattle.xsk_turns.specs.SentWith.{is_completing, bouncing, Completes, sent_by, sent_with, sent_by_act}
use Rattle.xsk_turns.proofs.Completing.{completes}
use Rattle.xsk_turns.proofs.Legality.{first_class, first_known, behind_first, first_waits}
use Rattle.xsk_turns.proofs.Owned.{HasKept, has_told}
use Rattle.xsk_turns.proofs.Places.{class_among}

-- ---- the part that has it

none_left : {X : Type 0} (xs : List X) → length xs ≡ 0 → xs ≡ []
none_left [] h = refl
none_left (x ∷ xs) h = absurd (omega arith)

-- a joined list of one element is the part that has it
only_part : {X : Type 0} (f : ℕ → List X) (x : X) (s : ℕ) (xs : List ℕ) → f s ≡ x ∷ [] → 1 ≤ times s xs → length (flat_map f xs) ≤ 1 → flat_map f xs ≡ x ∷ []
only_part f x s [] e some few = absurd (omega arith)
only_part f x s (y ∷ xs) e some few = ⊎_elim
    (λ (same : y ≡ s).
    let here : f y ≡ x ∷ [] = ap f same ∙ e in
    let rest : flat_map f xs ≡ [] = none_left (flat_map f xs) (omega (arith, few, length-append (f y) (flat_map f xs), ap length here)) in
    ap (λ (zs : List _). zs ++ flat_map f xs) here ∙ ap (λ (zs : List _). x ∷ zs) rest)
    (λ (other : y ≡ s → ⊥).
    let later : flat_map f xs ≡ x ∷ [] =
    only_part f x s xs e (omega (arith, some, ap {B = ℕ} (λ (b : Bool). cond b 1 0) (ne_eqb y s other))) (omega (arith, few, length-append (f y) (flat_map f xs))) in
    let none : f y ≡ [] = none_left (f y) (omega (arith, few, length-append (f y) (flat_map f xs), ap length later)) in
    ap (λ (zs : List _). zs ++ flat_map f xs) none ∙ later)
    (cases_eq y s)

-- ---- what is sent

-- ---- the first finished packet

completed_first : (c : Config) (pair : ℕ) (seat : IsSeat c pair) (kept : Kept) (l : List Told) (h : HasKept c pair kept l) → 1 ≤ length kept.finished
    → IsLegal c l pair (Submit (Comp pair) (map returned (get_or kept.finished 0 [])))
    → completed_in c (sockets_of c pair) l (Submit (Comp pair) (map returned (get_or kept.finished 0 []))) ≡ get_or kept.finished 0 [] ∷ []
completed_first c pair seat kept l h some legal =
    let packet = get_or kept.finished 0 [] in
    let items = map returned packet in
    let s = socket_at_class c pair (first_class c pair kept l h some) in
    let f = λ (t : ℕ). completed_by items (waiting c (tx_work_of c t l)) in
    only_part f packet s (sockets_of c pair) (completes packet (behind_first c pair kept l h some) (waiting c (tx_work_of c s l)) (first_waits c pair kept l h some))
    (class_among c pair seat (first_class c pair kept l h some) (first_known c pair kept l h some)) (omega (arith, one_completion c pair l items h.own legal))

-- ---- the next call

completes_none : (c : Config) (sockets : List ℕ) (l : List Told) (call : Call) → is_completing call ≡ false → completed_in c sockets l call ≡ []
completes_none c sockets l (Submit (Comp d) items) e = absurd (cc)
completes_none c sockets l call e = refl

module _ (c : Config) (pair : ℕ) (seat : IsSeat c pair) (l : List Told) (kept : Kept) (call : Call) (reply : Reply) (owned : Owned c pair kept call l) (legal : IsLegal c l pair call) (fits : Fits c l call reply) where
  by_call : (next : Call) (b : Bool) → is_completing next ≡ b → (is_completing next ≡ true → Completes pair kept reply next) → IsLegal c (with_told l call reply) pair next
      → map (bytes_of c.geometry c.sg) (completed_in c (sockets_of c pair) (with_told l call reply) next) ≡ cond b (bytes_of c.geometry c.sg (get_or kept.finished 0 []) ∷ []) []
  by_call next false e completing lawful = ap (map (bytes_of c.geometry c.sg)) (completes_none c (sockets_of c pair) (with_told l call reply) next e)
  by_call next true e completing lawful =
      let k = completing e in
      let give = Submit (Comp pair) (map returned (get_or kept.finished 0 [])) in
      let h : HasKept c pair kept (with_told l call reply) = has_told c pair kept call reply l owned legal fits (subst (λ r. taken r ≡ []) (sym k.granted) refl) in
      ap (map (bytes_of c.geometry c.sg))
      (subst (λ x. completed_in c (sockets_of c pair) (with_told l call reply) x ≡ get_or kept.finished 0 [] ∷ []) (sym k.is)
      (completed_first c pair seat kept (with_told l call reply) h k.some (subst (λ x. IsLegal c (with_told l call reply) pair x) k.is lawful)))

  pub sent_next : (wire : Wire) (input : List Judged) (next : Call) → (is_completing next ≡ true → Completes pair kept reply next) → IsLegal c (with_told l call reply) pair next
      → sent_with c pair input (with_told l call reply) next ≡ sent_with c pair input l call ++ (sent_by (seat_of wire c pair) kept (Gave next) ++ bounced_in (bouncing input) next)
  sent_next wire input next completing lawful =
      let completed : List (List ℕ) = map (bytes_of c.geometry c.sg) (completed_in c (sockets_of c pair) (with_told l call reply) next) in
      let bounced : List (List ℕ) = bounced_in (bouncing input) next in
      ap (λ xs. xs ++ (completed ++ bounced)) (all_sent-push c (sockets_of c pair) (bouncing input) [] l (record { call = call; reply = reply }))
      ∙ ap (λ xs. sent_with c pair input l call ++ (xs ++ bounced)) (by_call next (is_completing next) refl completing lawful)

  pub sent_end : (input : List Judged) → sent_by_act c pair input (with_told l call reply) IsEnded ≡ sent_with c pair input l call ++ []
  sent_end input =
      all_sent-push c (sockets_of c pair) (bouncing input) [] l (record { call = call; reply = reply }) ∙ sym (append-nil (sent_with c pair input l call))

-- no packet is sent before the first call, and by it none but the one that it counts as bounced
pub sent_first : (c : Config) (pair : ℕ) (input : List Judged) (call : Call) → is_completing call ≡ false → sent_with c pair input [] call ≡ bounced_in (bouncing input) call
sent_first c pair input call e =
    ap (λ xs. xs ++ bounced_in (bouncing input) call) (ap (map (bytes_of c.geometry c.sg)) (completes_none c (sockets_of c pair) [] call e))
