-- With one queue and one socket on each port the expected packets are those of the paired port that have such a length.
use Rattle.std.proofs.Common.{◌≡◌, ℕ, ◌+◌, ◌*◌, ◌%◌, ◌<◌, Bool, true, false, cond, leb, ◌&&◌, List, [], ◌∷◌, length, take, sum, get_or, refl, ap, ◌∙◌, arith, leb-true}
use Rattle.std.specs.List.{filter}
use Rattle.std.proofs.lemmas.Bool.{eq-eqb}
use Rattle.xsk_model.specs.Config.{Config, map_of}
use Rattle.xsk_model.specs.Steering.{packet_queue, packet_cell, packet_limit, paired_port, driver_on, socket_on}
use Rattle.xsk_prog.specs.Rules.{MeetsChain}
use Rattle.xsk_prog.proofs.Chains.{one_chain_verdict}
use Rattle.xsk_prog.specs.declared.rule.Rule.TheVariants.{Redirect as ByClass}
use Rattle.xsk_prog.specs.declared.rule.Verdict.{Verdict}
use Rattle.xsk_turns.specs.Inputs.{packets_of_port, packets_of_queue}
use Rattle.xsk_turns.specs.Turns.{Judged}
use Rattle.xsk_turns.specs.Disposals.{bytes_in}
use Rattle.xsk_turns.specs.Verdicts.{judged, EachHas, IsGiven}
use Rattle.xsk_laws.specs.Expected.{received, holds_socket, leads_to, has_length, is_redirected}
use Rattle.xsk_laws.specs.Laws.{HasOwnSockets, ExpectedIsOther}
use Rattle.xsk_laws.proofs.Places.{are_paired}

mod_one : (n m : ℕ) → m ≡ 1 → n % m ≡ 0
mod_one n m e = ap (λ k. n % k) e ∙ omega arith

only_socket : (c : Config) (o : ℕ) → HasOwnSockets c → socket_on c o 0 0 ≡ o
only_socket c o own = ap (λ n. (o * c.queues + 0) * n + 0) own.classes ∙ ap (λ n. (o * n + 0) * 1 + 0) own.queues ∙ omega arith

own_cell : (c : Config) (o : ℕ) (packet : List ℕ) → HasOwnSockets c → o < c.ports → holds_socket (map_of c o) (packet_cell 1 0 packet) (socket_on c o 0 0) ≡ true
own_cell c o packet own port =
    let first : packet_cell 1 0 packet ≡ 0 = omega (arith, mod_one (sum (take 14 packet)) 1 refl) in
    ap (λ n. holds_socket (map_of c o) n (socket_on c o 0 0)) first
    ∙ ap (λ n. holds_socket (map_of c o) 0 n) (only_socket c o own)
    ∙ ap (λ m. holds_socket m 0 o) (own.cells o port)
    ∙ eq-eqb (o + 1) (o + 1) refl

-- of one queue are all packets
pub all_of_queue : (queues : ℕ) (ps : List (List ℕ)) → queues ≡ 1 → packets_of_queue queues 0 ps ≡ ps
all_of_queue queues [] one = refl
all_of_queue queues (packet ∷ ps) one =
    ap (λ b. cond b (packet ∷ packets_of_queue queues 0 ps) (packets_of_queue queues 0 ps)) (eq-eqb (packet_queue queues packet) 0 (mod_one (sum (take 12 packet)) queues one))
    ∙ ap (λ qs. packet ∷ qs) (all_of_queue queues ps one)

by_length : (x y z : Bool) → (x ≡ true → z ≡ true) → ((x && y) && z) ≡ (x && y)
by_length true true z h = h refl
by_length true false z h = refl
by_length false y z h = refl

pub bytes_if : (b : Bool) (p : Judged) (ps : List Judged) (qs : List (List ℕ)) → bytes_in ps ≡ qs → bytes_in (cond b (p ∷ ps) ps) ≡ cond b (p.bytes ∷ qs) qs
bytes_if true p ps qs e = ap (λ rs. p.bytes ∷ rs) e
bytes_if false p ps qs e = e

module _ (c : Config) (o : ℕ) (own : HasOwnSockets c) (port : o < c.ports) where
  -- a packet that is redirected by its class goes on where it has such a length
  goes_on : (packet : List ℕ) (verdict : Verdict) → IsGiven (λ p v. MeetsChain (ByClass 1 ∷ []) p 0 v) packet verdict
      → is_redirected c o 0 0 (record { bytes = packet; verdict = verdict }) ≡ has_length c packet
  goes_on packet verdict given =
      by_length (leb 14 (length packet)) (leb (length packet) (packet_limit c)) (leads_to (map_of c o) (socket_on c o 0 0) verdict)
      (λ long. ap (leads_to (map_of c o) (socket_on c o 0 0)) (one_chain_verdict (ByClass 1 ∷ []) packet 0 verdict refl (given.asked (leb-true 14 (length packet) long))) ∙ own_cell c o packet own port)

  all_go_on : (packets : List (List ℕ)) (verdicts : List Verdict) → EachHas (IsGiven (λ p v. MeetsChain (ByClass 1 ∷ []) p 0 v)) packets verdicts
      → bytes_in (filter (is_redirected c o 0 0) (judged packets verdicts)) ≡ filter (has_length c) packets
  all_go_on [] [] h = refl
  all_go_on [] (verdict ∷ verdicts) h = absurd h
  all_go_on (packet ∷ packets) [] h = absurd h
  all_go_on (packet ∷ packets) (verdict ∷ verdicts) h =
      let p : Judged = record { bytes = packet; verdict = verdict } in
      bytes_if (is_redirected c o 0 0 p) p (filter (is_redirected c o 0 0) (judged packets verdicts)) (filter (has_length c) packets) (all_go_on packets verdicts h.1)
      ∙ ap (λ b. cond b (packet ∷ filter (has_length c) packets) (filter (has_length c) packets)) (goes_on packet verdict h.0)

pub expected_is_other : ExpectedIsOther
expected_is_other c lists verdicts port config own known meet =
    let o = paired_port port in
    let other : o < c.ports = (are_paired c.ports port config.ports known).in_ports in
    all_go_on c o own other (received c lists o 0) (get_or verdicts (driver_on c o 0) []) meet
    ∙ ap (filter (has_length c)) (all_of_queue c.queues (packets_of_port lists o) own.queues)
