-- The queues of a port together: what its drivers sent is among the lists of all pairs, and fits one capture; and what all
-- drivers sent fits one file, since each packet leaves at most once.
use Rattle.std.proofs.Common.{◌≡◌, ℕ, zero, suc, ◌+◌, ◌<◌, ◌≤◌, Bool, true, false, cond, eqb, leb, List, [], ◌∷◌, ◌++◌, length, map, get_or, take, drop, refl, sym, ap, subst, ◌∙◌, ⊎_elim, inl, inr, arith}
use Rattle.std.specs.Prelude.{All, ◌⊎◌, sum_by}
use Rattle.std.specs.List.{concat, range_with_len}
use Rattle.std.proofs.lemmas.Bool.Decides.{nat_tests}
use Rattle.std.proofs.Math.Nat.{eq-or-lt_of_le}
use Rattle.std.proofs.lemmas.List.{length-drop, length-map, length-take-le, get_or-drop, get_or-map, get_or-take, take_more}
use Rattle.std.proofs.lemmas.List.Elements.{All-append, recursion_from_All}
use Rattle.std.proofs.lemmas.List.FromFn.{length-map-range_with_len, get_or-map-range_with_len}
use Rattle.xsk_umem.specs.PacketList.{PacketList}
use Rattle.xsk_pcap.specs.Capture.{IsShort}
use Rattle.xsk_pcap.specs.Written.{IsWritable, all_packets}
use Rattle.xsk_pcapng.specs.Written.{IsWritable as IsWritableFile}
use Rattle.xsk_model.specs.Steering.{packet_queue, paired_port}
use Rattle.xsk_turns.specs.Inputs.{packets_of_queue}
use Rattle.xsk_turns.specs.Totals.{total}
use Rattle.xsk_laws.proofs.Totals.{total-one, total-bytes}
use Rattle.xsk_cli.specs.Judged.{packets_in, bytes_in}
use Rattle.xsk_cli.specs.Steps.{lists_in}
use Rattle.xsk_cli.proofs.Ports.{same_lists}

-- entries of a list, from a place on
pub piece : {X : Type 0} (d : X) (xs : List X) (n k : ℕ) → n + k ≤ length xs → take k (drop n xs) ≡ map (λ i. get_or xs (n + i) d) (range_with_len 0 k)
piece {X} d xs n k within =
    let f : ℕ → X = λ i. get_or xs (n + i) d in
    let all : length (take k (drop n xs)) ≡ k = length-take-le k (drop n xs) (omega (arith, within, length-drop n xs)) in
    same_lists d (take k (drop n xs)) (map f (range_with_len 0 k)) (all ∙ sym (length-map-range_with_len f 0 k))
    (λ i h.
    let below : i < k = omega (arith, h, all) in
    get_or-take k (drop n xs) i d below ∙ get_or-drop n xs i d ∙ sym (get_or-map-range_with_len f 0 k i i d below (omega arith)))

-- what one driver more sent stands behind what those before it did
one_more_sent : (all so_far : List (List (List ℕ))) (first place : ℕ) (packets : List (List ℕ)) → first + place < length all → so_far ≡ take place (drop first all) → packets ≡ get_or all (first + place) []
    → so_far ++ packets ∷ [] ≡ take (place + 1) (drop first all)
one_more_sent all so_far first place packets below was is =
    let here : place < length (drop first all) = omega (arith, below, length-drop first all) in
    ap (λ ls. ls ++ packets ∷ []) was ∙ ap (λ x. take place (drop first all) ++ x ∷ []) (is ∙ sym (get_or-drop first all place [])) ∙ sym (take_more (drop first all) place [] here)

-- so of the code's lists
pub one_more_list : (lists : List PacketList) (so_far : List (List (List ℕ))) (first place : ℕ) (list : PacketList) → first + place < length lists → so_far ≡ take place (drop first (lists_in lists)) → list ≡ get_or lists (first + place) list
    → so_far ++ list.packets ∷ [] ≡ take (place + 1) (drop first (lists_in lists))
one_more_list lists so_far first place list below was is =
    let packets : PacketList → List (List ℕ) = λ (l : PacketList). l.packets in
    one_more_sent (lists_in lists) so_far first place list.packets (omega (arith, below, length-map lists packets)) was
    (ap packets is ∙ sym (get_or-map packets lists (first + place) list [] below))

-- ---- a number of each queue, summed up over so many queues

abbrev sum_over : (ℕ → ℕ) → ℕ → ℕ → ℕ
sum_over g first zero = 0
sum_over g first (suc count) = g first + sum_over g (first + 1) count

over_none : (first count : ℕ) → sum_over (λ queue. 0) first count ≡ 0
over_none first zero = omega arith
over_none first (suc count) = omega (arith, over_none (first + 1) count)

over_both : (g h : ℕ → ℕ) (first count : ℕ) → sum_over (λ queue. g queue + h queue) first count ≡ sum_over g first count + sum_over h first count
over_both g h first zero = omega arith
over_both g h first (suc count) = omega (arith, over_both g h (first + 1) count)

over_less : (g h : ℕ → ℕ) (first count : ℕ) → ((queue : ℕ) → queue < first + count → g queue ≤ h queue) → sum_over g first count ≤ sum_over h first count
over_less g h first zero each = omega arith
over_less g h first (suc count) each = omega (arith, each first (omega arith), over_less g h (first + 1) count (λ queue below. each queue (omega (arith, below))))

-- one of them is no more than all
one_of : (g : ℕ → ℕ) (first count place : ℕ) → first ≤ place → place < first + count → g place ≤ sum_over g first count
one_of g first zero place low high = absurd (omega (arith, low, high))
one_of g first (suc count) place low high = ⊎_elim
    (λ (e : first ≡ place). subst (λ n. g n ≤ g first + sum_over g (first + 1) count) e (omega arith))
    (λ (l : first < place). omega (arith, one_of g (first + 1) count place (omega (arith, l)) (omega (arith, high))))
    (eq-or-lt_of_le low)

-- a number of one queue alone
over_one : (queue n first count : ℕ) → sum_over (λ other. cond (eqb queue other) n 0) first count ≤ cond (leb first queue) n 0
over_one queue n first zero = omega arith
over_one queue n first (suc count) = step (sum_over (λ other. cond (eqb queue other) n 0) (first + 1) count) (over_one queue n (first + 1) count)
  where
    step : (rest : ℕ) → rest ≤ cond (leb (first + 1) queue) n 0 → cond (eqb queue first) n 0 + rest ≤ cond (leb first queue) n 0
    step rest h = grind (arith, nat_tests)

at_most : (b : Bool) (n : ℕ) → cond b n 0 ≤ n
at_most true n = omega arith
at_most false n = omega arith

-- ---- packets

module _ (f : List ℕ → ℕ) where
  total_both : (xs ys : List (List ℕ)) → total f (xs ++ ys) ≡ total f xs + total f ys
  total_both [] ys = omega arith
  total_both (x ∷ xs) ys = omega (arith, total_both xs ys)

  total_if : (b : Bool) (packet : List ℕ) (packets : List (List ℕ)) → total f (cond b (packet ∷ packets) packets) ≡ cond b (f packet) 0 + total f packets
  total_if true packet packets = refl
  total_if false packet packets = omega arith

  total_all : (g : ℕ → List (List ℕ)) (first count : ℕ) → total f (all_packets (map g (range_with_len first count))) ≡ sum_over (λ queue. total f (g queue)) first count
  total_all g first zero = refl
  total_all g first (suc count) =
      total_both (g first) (all_packets (map g (range_with_len (first + 1) count))) ∙ ap (λ n. total f (g first) + n) (total_all g (first + 1) count)

  -- each packet goes to one queue
  queues_total : (queues : ℕ) (packets : List (List ℕ)) (first count : ℕ) → sum_over (λ queue. total f (packets_of_queue queues queue packets)) first count ≤ total f packets
  queues_total queues [] first count = omega (arith, over_none first count)
  queues_total queues (packet ∷ packets) first count =
      let own = packet_queue queues packet in
      let here : ℕ → ℕ = λ queue. cond (eqb own queue) (f packet) 0 in
      let others : ℕ → ℕ = λ queue. total f (packets_of_queue queues queue packets) in
      let parts : sum_over (λ queue. total f (packets_of_queue queues queue (packet ∷ packets))) first count ≡ sum_over (λ queue. here queue + others queue) first count =
      λ i. sum_over (λ queue. total_if (eqb own queue) packet (packets_of_queue queues queue packets) i) first count in
      omega (arith, parts, over_both here others first count, over_one own (f packet) first count, at_most (leb first own) (f packet), queues_total queues packets first count)

  -- what two ports sent on all queues
  pair_total : (queues : ℕ) (mine theirs : ℕ → List (List ℕ)) (packets others : List (List ℕ)) (count : ℕ)
      → ((queue : ℕ) → queue < count → total f (mine queue) + total f (theirs queue) ≤ total f (packets_of_queue queues queue packets) + total f (packets_of_queue queues queue others))
      → total f (all_packets (map mine (range_with_len 0 count))) + total f (all_packets (map theirs (range_with_len 0 count))) ≤ total f packets + total f others
  pair_total queues mine theirs packets others count each =
      omega (
        arith,
        total_all mine 0 count,
        total_all theirs 0 count,
        over_both (λ queue. total f (mine queue)) (λ queue. total f (theirs queue)) 0 count,
        over_less (λ queue. total f (mine queue) + total f (theirs queue)) (λ queue. total f (packets_of_queue queues queue packets) + total f (packets_of_queue queues queue others)) 0 count
            (λ queue below. each queue (omega (arith, below))),
        over_both (λ queue. total f (packets_of_queue queues queue packets)) (λ queue. total f (packets_of_queue queues queue others)) 0 count,
        queues_total queues packets 0 count,
        queues_total queues others 0 count,
      )

all_short : (g : ℕ → List (List ℕ)) (first count : ℕ) → ((queue : ℕ) → queue < first + count → All IsShort (g queue)) → All IsShort (all_packets (map g (range_with_len first count)))
all_short g first zero each = λ i d below. absurd (omega (arith, below))
all_short g first (suc count) each =
    All-append IsShort (g first) (all_packets (map g (range_with_len (first + 1) count))) (each first (omega arith)) (all_short g (first + 1) count (λ queue below. each queue (omega (arith, below))))

-- ---- what leaves by each port

-- what two paired ports sent on a queue is no more than what they received there
pub record IsWithin (queues : ℕ) (packets others : List (List ℕ)) (queue : ℕ) (mine theirs : List (List ℕ)) : Type 0 where
  pub few : length mine + length theirs ≤ length (packets_of_queue queues queue packets) + length (packets_of_queue queues queue others)
  pub small : length (concat mine) + length (concat theirs) ≤ length (concat (packets_of_queue queues queue packets)) + length (concat (packets_of_queue queues queue others))

-- a number of each port that is no more, with that of the paired port, than those of both lists
paired_sum : (h : ℕ → ℕ) (g : List (List ℕ) → ℕ) (lists : List (List (List ℕ))) → (length lists ≡ 2) ⊎ (length lists ≡ 4)
    → ((port : ℕ) → port < length lists → h port + h (paired_port port) ≤ g (get_or lists port []) + g (get_or lists (paired_port port) []))
    → sum_over h 0 (length lists) ≤ sum_by g lists
paired_sum h g [] count each = absurd (⊎_elim (λ e. omega (arith, e)) (λ e. omega (arith, e)) count)
paired_sum h g (a ∷ []) count each = absurd (⊎_elim (λ e. omega (arith, e)) (λ e. omega (arith, e)) count)
paired_sum h g (a ∷ b ∷ []) count each = let first : h 0 + h 1 ≤ g a + g b = each 0 (omega arith) in omega (arith, first)
paired_sum h g (a ∷ b ∷ c ∷ []) count each = absurd (⊎_elim (λ e. omega (arith, e)) (λ e. omega (arith, e)) count)
paired_sum h g (a ∷ b ∷ c ∷ d ∷ []) count each =
    let first : h 0 + h 1 ≤ g a + g b = each 0 (omega arith) in
    let second : h 2 + h 3 ≤ g c + g d = each 2 (omega arith) in
    omega (arith, first, second)
paired_sum h g (a ∷ b ∷ c ∷ d ∷ e ∷ lists) count each = absurd (⊎_elim (λ e. omega (arith, e)) (λ e. omega (arith, e)) count)

at_most_four : (n : ℕ) → (n ≡ 2) ⊎ (n ≡ 4) → n ≤ 4
at_most_four n (inl two) = omega (arith, two)
at_most_four n (inr four) = omega (arith, four)

-- what the drivers of all ports sent on so many queues
module _ (queues : ℕ) (lists : List (List (List ℕ))) (sent : ℕ → ℕ → List (List ℕ)) (count : ℕ) (ports : (length lists ≡ 2) ⊎ (length lists ≡ 4))
    (short : (port queue : ℕ) → port < length lists → queue < count → All IsShort (sent port queue))
    (within : (port queue : ℕ) → port < length lists → queue < count → IsWithin queues (get_or lists port []) (get_or lists (paired_port port) []) queue (sent port queue) (sent (paired_port port) queue))
    (few : packets_in lists ≤ 65536) (small : bytes_in lists ≤ 33554432) where
  abbrev by_port : ℕ → List (List ℕ)
  by_port port = all_packets (map (sent port) (range_with_len 0 count))

  few_total : sum_over (λ port. total (λ _. 1) (by_port port)) 0 (length lists) ≤ packets_in lists
  few_total =
      paired_sum (λ port. total (λ _. 1) (by_port port)) (λ (packets : List (List ℕ)). length packets) lists ports
      (λ port known.
      let mine : List (List ℕ) = get_or lists port [] in
      let others : List (List ℕ) = get_or lists (paired_port port) [] in
      omega (
        arith,
        pair_total (λ _. 1) queues (sent port) (sent (paired_port port)) mine others count
            (λ queue below. omega (
              arith,
              (within port queue known below).few,
              total-one (sent port queue),
              total-one (sent (paired_port port) queue),
              total-one (packets_of_queue queues queue mine),
              total-one (packets_of_queue queues queue others),
            )),
        total-one mine,
        total-one others,
      ))

  small_total : sum_over (λ port. total (λ (x : List ℕ). length x) (by_port port)) 0 (length lists) ≤ bytes_in lists
  small_total =
      paired_sum (λ port. total (λ (x : List ℕ). length x) (by_port port)) (λ (packets : List (List ℕ)). length (concat packets)) lists ports
      (λ port known.
      let mine : List (List ℕ) = get_or lists port [] in
      let others : List (List ℕ) = get_or lists (paired_port port) [] in
      omega (
        arith,
        pair_total (λ (x : List ℕ). length x) queues (sent port) (sent (paired_port port)) mine others count
            (λ queue below. omega (
              arith,
              (within port queue known below).small,
              total-bytes (sent port queue),
              total-bytes (sent (paired_port port) queue),
              total-bytes (packets_of_queue queues queue mine),
              total-bytes (packets_of_queue queues queue others),
            )),
        total-bytes mine,
        total-bytes others,
      ))

  port_short : (port : ℕ) → port < length lists → All IsShort (by_port port)
  port_short port known = all_short (sent port) 0 count (λ queue below. short port queue known (omega (arith, below)))

  -- so one capture holds what those of a port sent
  pub port_writable : (port : ℕ) → port < length lists → IsWritable (map (sent port) (range_with_len 0 count))
  port_writable port known = record {
    each = recursion_from_All IsShort (by_port port) (port_short port known);
    packets =
        omega (arith, few, few_total, total-one (by_port port), one_of (λ other. total (λ _. 1) (by_port other)) 0 (length lists) port (omega arith) (omega (arith, known)));
    bytes =
        omega (arith, small, small_total, total-bytes (by_port port), one_of (λ other. total (λ (x : List ℕ). length x) (by_port other)) 0 (length lists) port (omega arith) (omega (arith, known)));
  }

  -- and one file what those of all ports sent
  pub ports_writable : IsWritableFile (map by_port (range_with_len 0 (length lists)))
  ports_writable =
      let all = all_packets (map by_port (range_with_len 0 (length lists))) in
      record {
        few = omega (arith, length-map-range_with_len by_port 0 (length lists), at_most_four (length lists) ports);
        each = recursion_from_All IsShort all (all_short by_port 0 (length lists) (λ port below. port_short port (omega (arith, below))));
        packets = omega (arith, few, few_total, total-one all, total_all (λ _. 1) by_port 0 (length lists));
        bytes = omega (arith, small, small_total, total-bytes all, total_all (λ (x : List ℕ). length x) by_port 0 (length lists));
      }
