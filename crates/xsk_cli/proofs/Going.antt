-- What is expected of each class and what goes back, off the inputs and the words alone.
use Rattle.std.proofs.Common.{◌≡◌, ℕ, suc, ◌+◌, ◌*◌, ◌%◌, ◌<◌, ◌≤◌, ◌&&◌, not, Bool, cond, true, false, eqb, leb, ltb, List, [], ◌∷◌, length, map, get_or, refl, sym, ap, ◌∙◌, subst, arith, None, eq-eqb, lt-ltb, leb-true, sum, take, mul-le-mul_right}
use Rattle.std.specs.Prelude.{filter}
use Rattle.std.specs.List.{range_with_len}
use Rattle.std.proofs.lemmas.Bool.Decides.{nat_tests}
use Rattle.std.proofs.Math.Bool.{and-false}
use Rattle.std.proofs.Math.Nat.{mod-lt, mul_assoc, mul-div_cancel_left}
use Rattle.std.proofs.Math.ListN.{get_or-map}
use Rattle.xsk_umem.specs.PacketList.{PacketList}
use Rattle.xsk_model.specs.Config.{Config, pair_at, classes_of, map_of}
use Rattle.xsk_model.specs.Steering.{packet_class, packet_limit, paired_port, driver_on, socket_on}
use Rattle.xsk_model.proofs.Seats.{IsAt, below, is_at}
use Rattle.xsk_prog.specs.declared.rule.Rule.{Rule}
use Rattle.xsk_prog.specs.Rules.{MeetsChain, is_exact, are_exact, chain_verdict_of}
use Rattle.xsk_prog.proofs.Chains.{one_chain_verdict}
use Rattle.xsk_prog.specs.declared.rule.Verdict.{Verdict}
use Rattle.xsk_args.specs.declared.program.Program.{Program}
use Rattle.xsk_args.specs.declared.program.Program.TheVariants.{Redirect, Pass, Drop, EtherType, Fixed, Bounce, BounceType}
use Rattle.xsk_turns.specs.Mangling.{plain}
use Rattle.xsk_turns.specs.declared.wire.Wire.TheVariants.{Wait}
use Rattle.xsk_turns.specs.Inputs.{packets_of_port, packets_of_queue}
use Rattle.xsk_turns.specs.Verdicts.{EachHas, IsGiven, MeetRules, judged}
use Rattle.xsk_turns.specs.Turns.{Judged, bounces}
use Rattle.xsk_turns.specs.Disposals.{bytes_in}
use Rattle.xsk_turns.specs.SentWith.{bounces_at, bouncing}
use Rattle.xsk_turns.proofs.Verdicts.{own_setting}
use Rattle.xsk_laws.specs.Expected.{received, has_length, holds_socket, is_redirected, leads_to}
use Rattle.xsk_laws.proofs.Bounced.{none_to_bounce}
use Rattle.xsk_laws.proofs.Places.{are_paired}
use Rattle.xsk_socket.specs.declared.layout.Layout.{Layout}
use Rattle.xsk_socket.specs.Layout.{cells_in, fault_of, pairs_in}
use Rattle.xsk_socket.specs.Regular.{cell_in, is_left_empty, map_in, pair_in, regular_of, socket_in}
use Rattle.xsk_socket.proofs.Accepted.{fits}
use Rattle.xsk_socket.proofs.Numbered.{get_or-numbered, length-numbered}
use Rattle.xsk_socket.proofs.Regularity.{regular-config, regular-regular}
use Rattle.xsk_cli.specs.Outcome.{listed, rule_by, rules_by, verdicts_by, received_on, goes_on, going_on, goes_back, ExpectedGoesOn, ClassGoesOn, AllGoOn, BouncedGoesBack, NoneBounces, AllGoBack}
use Rattle.xsk_laws.proofs.OneQueue.{all_of_queue, bytes_if}

-- ---- verdicts

-- the rule of each program leaves one verdict
pub is_exact_by : (sockets : ℕ) (program : Program) → is_exact (rule_by sockets program) ≡ true
is_exact_by sockets Redirect = refl
is_exact_by sockets Pass = refl
is_exact_by sockets Drop = refl
is_exact_by sockets (EtherType kind) = refl
is_exact_by sockets (Fixed cell) = refl
is_exact_by sockets Bounce = refl
is_exact_by sockets (BounceType kind) = refl

pub are_exact_by : (sockets : ℕ) (programs : List Program) → are_exact (rules_by sockets programs) ≡ true
are_exact_by sockets [] = refl
are_exact_by sockets (program ∷ programs) = ap (λ b. b && are_exact (rules_by sockets programs)) (is_exact_by sockets program) ∙ are_exact_by sockets programs

own_verdict : (sockets : ℕ) (programs : List Program) (queue : ℕ) (packet : List ℕ) (verdict : Verdict) → MeetsChain (rules_by sockets programs) packet queue verdict
    → verdict ≡ chain_verdict_of (rules_by sockets programs) packet queue
own_verdict sockets programs queue packet verdict met = one_chain_verdict (rules_by sockets programs) packet queue verdict (are_exact_by sockets programs) met

by_length : (x y z w : Bool) → (x ≡ true → z ≡ w) → ((x && y) && z) ≡ ((x && y) && w)
by_length true true z w h = h refl
by_length true false z w h = refl
by_length false y z w h = refl

-- the packets whose verdicts the rules give go on where these redirect them so
module _ (layout : Layout) (programs : List Program) (o queue class : ℕ) where
  abbrev rules : List Rule
  rules = rules_by layout.sockets programs

  abbrev c : Config
  c = regular_of layout

  abbrev goes : List ℕ → Bool
  goes = goes_on layout programs o queue class

  one_goes : (packet : List ℕ) (verdict : Verdict) → IsGiven (λ p v. MeetsChain rules p queue v) packet verdict
      → is_redirected c o queue class (record { bytes = packet; verdict = verdict }) ≡ goes packet
  one_goes packet verdict given =
      by_length (leb 14 (length packet)) (leb (length packet) (packet_limit c)) (leads_to (map_of c o) (socket_on c o queue class) verdict) (leads_to (map_of c o) (socket_on c o queue class) (chain_verdict_of rules packet queue))
      (λ long. ap (leads_to (map_of c o) (socket_on c o queue class)) (own_verdict layout.sockets programs queue packet verdict (given.asked (leb-true 14 (length packet) long))))

  all_go : (packets : List (List ℕ)) (verdicts : List Verdict) → EachHas (IsGiven (λ p v. MeetsChain rules p queue v)) packets verdicts
      → bytes_in (filter (is_redirected c o queue class) (judged packets verdicts)) ≡ filter goes packets
  all_go [] [] h = refl
  all_go [] (verdict ∷ verdicts) h = absurd h
  all_go (packet ∷ packets) [] h = absurd h
  all_go (packet ∷ packets) (verdict ∷ verdicts) h =
      let p : Judged = record { bytes = packet; verdict = verdict } in
      bytes_if (is_redirected c o queue class p) p (filter (is_redirected c o queue class) (judged packets verdicts)) (filter goes packets) (all_go packets verdicts h.1)
      ∙ ap (λ b. cond b (packet ∷ filter goes packets) (filter goes packets)) (one_goes packet verdict h.0)

-- the packets of a port
pub packets_there : (lists : List (List (List ℕ))) (port : ℕ) → packets_of_port (map listed lists) port ≡ get_or lists port []
packets_there lists port = ap (λ (l : PacketList). l.packets) (get_or-map listed lists port [])

-- their verdicts meet the rules
met_on : (layout : Layout) (programs : List Program) (lists : List (List (List ℕ))) (port queue : ℕ) → fault_of layout ≡ None → port < layout.ports → queue < layout.queues
    → MeetRules (rules_by layout.sockets programs) queue (received (regular_of layout) (map listed lists) port queue) (get_or (verdicts_by layout programs lists) (driver_on (regular_of layout) port queue) [])
met_on layout programs lists port queue accepted in_ports in_queues =
    let c : Config = regular_of layout in
    let rules : List Rule = rules_by layout.sockets programs in
    let verdicts : List (List Verdict) = verdicts_by layout programs lists in
    let d : ℕ = driver_on c port queue in
    let regular = regular-regular layout (fits layout accepted) in
    let some : 0 < classes_of c = (let classes = regular.classes in omega (arith, classes)) in
    let at : IsAt c port queue 0 d (socket_on c port queue 0) = is_at c port queue 0 (regular-config layout (fits layout accepted)) regular in_ports in_queues some in
    subst (λ q. MeetRules rules q (received c (map listed lists) port q) (get_or verdicts d [])) at.pair_queue
    (subst (λ p. MeetRules rules (pair_at c.pairs d).queue (received c (map listed lists) p (pair_at c.pairs d).queue) (get_or verdicts d [])) at.pair_port
    ((own_setting rules Wait plain c (map listed lists)).each d at.pair_known))

pub expected_goes_on : ExpectedGoesOn
expected_goes_on layout programs lists port queue class accepted place =
    let c : Config = regular_of layout in
    let o : ℕ = paired_port port in
    let other : o < layout.ports = (are_paired layout.ports port (fits layout accepted).ports place.in_ports).in_ports in
    all_go layout programs o queue class (received c (map listed lists) o queue) (get_or (verdicts_by layout programs lists) (driver_on c o queue) []) (met_on layout programs lists o queue accepted other place.in_queues)
    ∙ ap (λ ps. filter (goes_on layout programs o queue class) (packets_of_queue layout.queues queue ps)) (packets_there lists o)

-- ---- what goes back

not_short : (n : ℕ) → not (ltb n 14) ≡ leb 14 n
not_short n = grind (arith, nat_tests)

by_first : (x z w : Bool) → (x ≡ true → z ≡ w) → (x && z) ≡ (x && w)
by_first true z w h = h refl
by_first false z w h = refl

module _ (layout : Layout) (programs : List Program) (queue : ℕ) where
  abbrev own_rules : List Rule
  own_rules = rules_by layout.sockets programs

  one_back : (packet : List ℕ) (verdict : Verdict) → IsGiven (λ p v. MeetsChain own_rules p queue v) packet verdict
      → bounces_at (record { bytes = packet; verdict = verdict }) ≡ goes_back layout programs queue packet
  one_back packet verdict given =
      ap (λ b. b && bounces verdict) (not_short (length packet))
      ∙ by_first (leb 14 (length packet)) (bounces verdict) (bounces (chain_verdict_of own_rules packet queue))
      (λ long. ap bounces (own_verdict layout.sockets programs queue packet verdict (given.asked (leb-true 14 (length packet) long))))

  all_back : (packets : List (List ℕ)) (verdicts : List Verdict) → EachHas (IsGiven (λ p v. MeetsChain own_rules p queue v)) packets verdicts
      → bouncing (judged packets verdicts) ≡ filter (goes_back layout programs queue) packets
  all_back [] [] h = refl
  all_back [] (verdict ∷ verdicts) h = absurd h
  all_back (packet ∷ packets) [] h = absurd h
  all_back (packet ∷ packets) (verdict ∷ verdicts) h =
      let later = bouncing (judged packets verdicts) in
      ap (λ b. cond b (packet ∷ later) later) (one_back packet verdict h.0)
      ∙ ap (λ qs. cond (goes_back layout programs queue packet) (packet ∷ qs) qs) (all_back packets verdicts h.1)

pub bounced_goes_back : BouncedGoesBack
bounced_goes_back layout programs lists port queue accepted in_ports in_queues =
    let c : Config = regular_of layout in
    all_back layout programs queue (received c (map listed lists) port queue) (get_or (verdicts_by layout programs lists) (driver_on c port queue) []) (met_on layout programs lists port queue accepted in_ports in_queues)
    ∙ ap (λ ps. filter (goes_back layout programs queue) (packets_of_queue layout.queues queue ps)) (packets_there lists port)

pub none_bounces : NoneBounces
none_bounces layout programs lists accepted none port queue in_ports in_queues =
    let c : Config = regular_of layout in
    sym (bounced_goes_back layout programs lists port queue accepted in_ports in_queues)
    ∙ none_to_bounce (rules_by layout.sockets programs) queue (received c (map listed lists) port queue) (get_or (verdicts_by layout programs lists) (driver_on c port queue) []) none
    (met_on layout programs lists port queue accepted in_ports in_queues)

none_of : (packets : List (List ℕ)) → filter (λ (packet : List ℕ). false) packets ≡ []
none_of [] = refl
none_of (packet ∷ packets) = none_of packets

keeps : (b w : Bool) → w ≡ true → (b && w) ≡ b
keeps true w e = e
keeps false w e = refl

pub all_go_back : AllGoBack
all_go_back layout lists port queue class =
    let packets = received_on layout lists port queue in (
      (λ i. filter (λ (packet : List ℕ). keeps (leb 14 (length packet)) true refl i) packets),
      (λ i. filter (λ (packet : List ℕ). and-false (has_length (regular_of layout) packet) i) packets) ∙ none_of packets,
    )

-- ---- the program that redirects each packet

some_pairs : (m n : ℕ) → 0 < m → 0 < n → 0 < m * n
some_pairs m n some_m some_n = grind arith

pub classes_are : (layout : Layout) → 0 < pairs_in layout → classes_of (regular_of layout) ≡ layout.sockets
classes_are layout some =
    rw (length-numbered (pairs_in layout) (pair_in layout), length-numbered (pairs_in layout * layout.sockets) (socket_in layout)) (mul-div_cancel_left layout.sockets some)

same_number : (a k class n m : ℕ) → n ≡ a + k + 1 → m ≡ a + class + 1 → eqb n m ≡ eqb k class
same_number a k class n m e f = grind (arith, nat_tests)

in_rows : (port queues queue sockets : ℕ) → (port * queues + queue) * sockets ≡ port * (queues * sockets) + queue * sockets
in_rows port queues queue sockets =
    let parts : (port * queues + queue) * sockets ≡ port * queues * sockets + queue * sockets = grind arith in
    omega (arith, parts, mul_assoc port queues sockets)

module _ (layout : Layout) (port queue class : ℕ) (empty : layout.empty ≡ None) (in_ports : port < layout.ports) (in_queues : queue < layout.queues) (in_sockets : class < layout.sockets) where
  abbrev config : Config
  config = regular_of layout

  abbrev socket : ℕ
  socket = socket_on config port queue class

  -- the cell of a class holds the socket of that class
  cell_holds : (k : ℕ) → k < layout.sockets → holds_socket (map_of config port) (queue * layout.sockets + k) socket ≡ eqb k class
  cell_holds k known =
      let cell : ℕ = queue * layout.sockets + k in
      let rows : suc queue * layout.sockets ≤ layout.queues * layout.sockets = mul-le-mul_right layout.sockets in_queues in
      let within : cell < cells_in layout = below queue layout.sockets k (cells_in layout) known rows in
      let classes : classes_of config ≡ layout.sockets = classes_are layout (some_pairs layout.ports layout.queues (omega (arith, in_ports)) (omega (arith, in_queues))) in
      let number : socket ≡ (port * layout.queues + queue) * layout.sockets + class = ap (λ n. (port * layout.queues + queue) * n + class) classes in
      let rows_of : (port * layout.queues + queue) * layout.sockets ≡ port * cells_in layout + queue * layout.sockets = in_rows port layout.queues queue layout.sockets in
      let has : get_or (map_in layout port) cell 0 ≡ port * cells_in layout + cell + 1 =
      get_or-numbered (cells_in layout) (cell_in layout port) cell 0 within ∙ ap (λ e. cond (is_left_empty e cell) 0 (port * cells_in layout + cell + 1)) empty in
      ap (λ m. holds_socket m cell socket) (get_or-numbered layout.ports (map_in layout) port [] in_ports)
      ∙ ap (λ b. b && eqb (get_or (map_in layout port) cell 0) (socket + 1)) (lt-ltb cell (length (map_in layout port)) (rw (length-numbered (cells_in layout) (cell_in layout port)) within))
      ∙ same_number (port * cells_in layout + queue * layout.sockets) k class (get_or (map_in layout port) cell 0) (socket + 1) (omega (arith, has)) (omega (arith, number, rows_of))

  class_goes : (packet : List ℕ) → goes_on layout (Redirect ∷ []) port queue class packet ≡ (has_length config packet && eqb (packet_class layout.sockets packet) class)
  class_goes packet = ap (λ b. has_length config packet && b) (cell_holds (packet_class layout.sockets packet) (mod-lt (sum (take 14 packet)) (omega (arith, in_sockets))))

pub class_goes_on : ClassGoesOn
class_goes_on layout lists port queue class empty in_ports in_queues in_sockets = λ i.
    filter (λ packet. class_goes layout port queue class empty in_ports in_queues in_sockets packet i) (received_on layout lists port queue)

-- ---- one queue and one socket

of_one_class : (sockets : ℕ) (packet : List ℕ) → sockets ≡ 1 → packet_class sockets packet ≡ 0
of_one_class sockets packet one = ap (λ n. sum (take 14 packet) % n) one ∙ omega arith

pub all_go_on : AllGoOn
all_go_on layout lists port queues sockets empty known =
    let o : ℕ = paired_port port in
    let c : Config = regular_of layout in
    let class : going_on layout (Redirect ∷ []) lists o 0 0 ≡ filter (λ packet. has_length c packet && eqb (packet_class layout.sockets packet) 0) (received_on layout lists o 0) =
    class_goes_on layout lists o 0 0 empty known (omega (arith, queues)) (omega (arith, sockets)) in
    ap (λ n. map (λ queue. going_on layout (Redirect ∷ []) lists o queue 0) (range_with_len 0 n)) queues
    ∙ ap (λ ps. ps ∷ [])
    (class
    ∙ (λ i. filter (λ packet. keeps (has_length c packet) (eqb (packet_class layout.sockets packet) 0) (eq-eqb (packet_class layout.sockets packet) 0 (of_one_class layout.sockets packet sockets)) i) (received_on layout lists o 0))
    ∙ ap (filter (has_length c)) (all_of_queue layout.queues (get_or lists o []) queues))
