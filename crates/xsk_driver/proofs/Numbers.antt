-- The packets of a queue by their numbers.
use Rattle.std.proofs.Common.{◌≡◌, ℕ, ◌+◌, ◌<◌, Bool, true, false, List, [], ◌∷◌, ◌++◌, length, get_or, refl, ◌∙◌, ap, arith, subst, ◌≤◌, append_assoc, length-append, All, if◌then◌else◌, ◌==◌, map}
use Rattle.std.proofs.Math.Seq.{get_or-append_seam}
use Rattle.std.proofs.lemmas.List.Elements.{All-cons, All-nil}
use Rattle.xsk_umem.specs.PacketList.{PacketList}
use Rattle.xsk_model.specs.Steering.{packet_queue}
use Rattle.xsk_turns.specs.Inputs.{numbers_from, packets_of_queue}
use Rattle.xsk_prog.specs.declared.rule.Verdict.{Verdict}
use Rattle.xsk_turns.specs.Verdicts.{judged}
use Rattle.xsk_driver.specs.Stands.{packet_at}

known_if : (b : Bool) (n m : ℕ) (ns : List ℕ) → n < m → All (λ k. k < m) ns → All (λ k. k < m) (if b then n ∷ ns else ns)
known_if true n m ns within all = All-cons (λ k. k < m) n ns within all
known_if false n m ns within all = all

known_from : (queues queue n m : ℕ) (packets : List (List ℕ)) → n + length packets ≤ m → All (λ k. k < m) (numbers_from queues queue n packets)
known_from queues queue n m [] few = All-nil (λ k. k < m)
known_from queues queue n m (packet ∷ packets) few =
    known_if (packet_queue queues packet == queue) n m (numbers_from queues queue (n + 1) packets) (omega arith) (known_from queues queue (n + 1) m packets (omega arith))

-- the numbers of a queue's packets are those of packets of the list
pub numbers_known : (queues queue : ℕ) (packets : List (List ℕ)) → All (λ k. k < length packets) (numbers_from queues queue 0 packets)
numbers_known queues queue packets = known_from queues queue 0 (length packets) packets (omega arith)

map_if : (f : ℕ → List ℕ) (b : Bool) (n : ℕ) (packet : List ℕ) (ns : List ℕ) (ps : List (List ℕ)) → f n ≡ packet → map f ns ≡ ps
    → map f (if b then n ∷ ns else ns) ≡ (if b then packet ∷ ps else ps)
map_if f true n packet ns ps here later = ap (λ p. p ∷ map f ns) here ∙ ap (λ qs. packet ∷ qs) later
map_if f false n packet ns ps here later = later

packets_after : (queues queue : ℕ) (front packets : List (List ℕ))
    → map (λ k. get_or (front ++ packets) k []) (numbers_from queues queue (length front) packets) ≡ packets_of_queue queues queue packets
packets_after queues queue front [] = refl
packets_after queues queue front (packet ∷ packets) =
    let longer : (front ++ packet ∷ []) ++ packets ≡ front ++ packet ∷ packets = append_assoc front (packet ∷ []) packets in
    let count : length (front ++ packet ∷ []) ≡ length front + 1 = length-append front (packet ∷ []) in
    let later : map (λ k. get_or (front ++ packet ∷ packets) k []) (numbers_from queues queue (length front + 1) packets) ≡ packets_of_queue queues queue packets =
    subst (λ (n : ℕ). map (λ k. get_or (front ++ packet ∷ packets) k []) (numbers_from queues queue n packets) ≡ packets_of_queue queues queue packets) count
    (subst (λ (xs : List (List ℕ)). map (λ k. get_or xs k []) (numbers_from queues queue (length (front ++ packet ∷ [])) packets) ≡ packets_of_queue queues queue packets) longer
    (packets_after queues queue (front ++ packet ∷ []) packets)) in
    map_if (λ k. get_or (front ++ packet ∷ packets) k []) (packet_queue queues packet == queue) (length front) packet (numbers_from queues queue (length front + 1) packets) (packets_of_queue queues queue packets)
    (get_or-append_seam front packet packets []) later

-- so the packets of these numbers are those of the queue
pub packets_by_number : (queues queue : ℕ) (list : PacketList) → map (packet_at list) (numbers_from queues queue 0 list.packets) ≡ packets_of_queue queues queue list.packets
packets_by_number queues queue list = packets_after queues queue [] list.packets

-- they are no more than all, and each has at most one verdict
few_if : (b : Bool) (packet : List ℕ) (ps packets : List (List ℕ)) → length ps ≤ length packets → length (if b then packet ∷ ps else ps) ≤ length (packet ∷ packets)
few_if true packet ps packets few = omega (arith, few)
few_if false packet ps packets few = omega (arith, few)

few_of_queue : (queues queue : ℕ) (packets : List (List ℕ)) → length (packets_of_queue queues queue packets) ≤ length packets
few_of_queue queues queue [] = omega arith
few_of_queue queues queue (packet ∷ packets) = few_if (packet_queue queues packet == queue) packet (packets_of_queue queues queue packets) packets (few_of_queue queues queue packets)

judged_few : (packets : List (List ℕ)) (verdicts : List Verdict) → length (judged packets verdicts) ≤ length packets
judged_few [] verdicts = omega arith
judged_few (packet ∷ packets) [] = omega arith
judged_few (packet ∷ packets) (verdict ∷ verdicts) = omega (arith, judged_few packets verdicts)

pub few_judged : (queues queue most : ℕ) (packets : List (List ℕ)) (verdicts : List Verdict) → length packets < most → length (judged (packets_of_queue queues queue packets) verdicts) < most
few_judged queues queue most packets verdicts few = omega (arith, few, few_of_queue queues queue packets, judged_few (packets_of_queue queues queue packets) verdicts)
