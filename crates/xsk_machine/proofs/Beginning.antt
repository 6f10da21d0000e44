-- New workers of a setting.
use Rattle.std.proofs.Common.{◌≡◌, ℕ, ◌+◌, ◌<◌, ◌≤◌, ◌⊎◌, inl, inr, Bool, true, false, if◌then◌else◌, All, List, [], ◌++◌, Option, None, Some, map, length, length-append, refl, sym, subst, ap, ◌∙◌, ⊎_elim, arith}
use Rattle.std.proofs.lemmas.List.{get_or-map, get_or_default, length-map}
use Rattle.std.proofs.lemmas.Nat.{div_below}
use Rattle.std.proofs.lemmas.List.Folds.{concat-append}
use Rattle.std.specs.List.{concat, slice_index_or}
use Rattle.std.specs.Option.{MatchOption}
use Rattle.xsk_umem.specs.PacketList.{PacketList}
use Rattle.xsk_model.specs.Config.{Config, IsConfig, IsRegular, pair_at, classes_of}
use Rattle.xsk_model.specs.declared.config.PairInfo.{PairInfo}
use Rattle.xsk_model.specs.Rings.{caller_of}
use Rattle.xsk_model.specs.Steering.{paired_port, driver_on}
use Rattle.xsk_model.proofs.Seats.{is_at}
use Rattle.xsk_turns.proofs.Places.{port_within, queue_known}
use Rattle.xsk_driver.specs.Stands.{packet_at}
use Rattle.xsk_driver.specs.Asking.{packets_by, verdicts_in}
use Rattle.xsk_driver.specs.SentRoom.{Sends}
use Rattle.xsk_driver.proofs.Bouncing.{bouncing_few, bouncing_bytes}
use Rattle.xsk_driver.proofs.Numbers.{numbers_known, packets_by_number}
use Rattle.xsk_laws.proofs.Places.{are_paired}
use Rattle.xsk_turns.specs.Inputs.{numbers_from, numbers_of, inputs_of, packets_of_port, packets_of_queue}
use Rattle.xsk_driver.specs.Shown.{Shown as DriverShown}
use Rattle.xsk_driver.specs.Runs.{IsNew as IsNewDriver}
use Rattle.xsk_app.specs.Shown.{Shown as AppShown}
use Rattle.xsk_app.specs.Runs.{IsNew as IsNewApp}
use Rattle.xsk_prog.specs.declared.rule.Verdict.{Verdict}
use Rattle.xsk_turns.specs.SentWith.{bouncing}
use Rattle.xsk_turns.specs.Turns.{Judged}
use Rattle.xsk_turns.specs.Verdicts.{judged, EachHas}
use Rattle.xsk_turns.specs.Workers.{Setting, input_of, packets_to}
use Rattle.xsk_turns.specs.declared.wire.Wire.{Wire}
use Rattle.xsk_turns.proofs.Verdicts.{bytes-judged}
use Rattle.xsk_turns.specs.declared.manner.Manner.{Manner}
use Rattle.xsk_laws.specs.Expected.{received}
use Rattle.xsk_machine.specs.Acts.{HasRoomToSend, IsDriver, IsApp, received_there}
use Rattle.xsk_machine.specs.Amounts.{IsAmountOf}
use Rattle.xsk_machine.specs.declared.inputs.Amount.{Amount}

-- the inputs of a pair's driver are the numbers of its packets
pub input_numbers : (c : Config) (packets : List PacketList) (inputs : List (List ℕ)) (pair : ℕ) (list : List (List ℕ)) → inputs ≡ inputs_of c packets → pair < length c.pairs
    → list ≡ packets_of_port packets (pair_at c.pairs pair).port
    → slice_index_or inputs pair [] ≡ numbers_from c.queues (pair_at c.pairs pair).queue 0 list
input_numbers c packets inputs pair list is known at =
    ap (λ (all : List (List ℕ)). slice_index_or all pair []) is
    ∙ get_or-map (numbers_of c packets) c.pairs pair (record { port = 0; queue = 0; fill = 0; comp = 0 }) [] known
    ∙ ap (numbers_from c.queues (pair_at c.pairs pair).queue 0) (sym at)

-- numbers are those of these packets in a list
pub record AreNumbersOf (list : PacketList) (packets : List (List ℕ)) (numbers : List ℕ) : Type 0 where
  pub known : All (λ n. n < length list.packets) numbers
  pub count : length numbers ≡ length packets
  pub is : packets_by list numbers ≡ packets

numbers_are : (queues queue : ℕ) (list : PacketList) (port : List (List ℕ)) (numbers : List ℕ) → numbers ≡ numbers_from queues queue 0 list.packets → list.packets ≡ port
    → AreNumbersOf list (packets_of_queue queues queue port) numbers
numbers_are queues queue list port numbers is at =
    let same : packets_by list numbers ≡ packets_of_queue queues queue port = ap (packets_by list) is ∙ packets_by_number queues queue list ∙ ap (packets_of_queue queues queue) at in
    record {
      known = subst (All (λ n. n < length list.packets)) (sym is) (numbers_known queues queue list.packets);
      count = sym (length-map numbers (packet_at list)) ∙ ap length same;
      is = same;
    }

-- those that the inputs have of a pair, and of the paired port's driver of its queue
own_numbers : (c : Config) (lists : List PacketList) (inputs : List (List ℕ)) (pair : ℕ) (list : PacketList) → inputs ≡ inputs_of c lists → pair < length c.pairs
    → list.packets ≡ packets_of_port lists (pair_at c.pairs pair).port
    → AreNumbersOf list (received c lists (pair_at c.pairs pair).port (pair_at c.pairs pair).queue) (slice_index_or inputs pair [])
own_numbers c lists inputs pair list is known at =
    numbers_are c.queues (pair_at c.pairs pair).queue list (packets_of_port lists (pair_at c.pairs pair).port) (slice_index_or inputs pair []) (input_numbers c lists inputs pair list.packets is known at) at

other_numbers : (c : Config) (lists : List PacketList) (inputs : List (List ℕ)) (pair : ℕ) (list : PacketList) → IsConfig c → IsRegular c → inputs ≡ inputs_of c lists → pair < length c.pairs
    → list.packets ≡ packets_of_port lists (paired_port (pair_at c.pairs pair).port)
    → AreNumbersOf list (received c lists (paired_port (pair_at c.pairs pair).port) (pair_at c.pairs pair).queue)
    (slice_index_or inputs (driver_on c (paired_port (pair_at c.pairs pair).port) (pair_at c.pairs pair).queue) [])
other_numbers c lists inputs pair list config regular is known at =
    let o = paired_port (pair_at c.pairs pair).port in
    let q = (pair_at c.pairs pair).queue in
    let d = driver_on c o q in
    let some : 0 < classes_of c = let classes = regular.classes in omega (arith, classes) in
    let port : o < c.ports = (are_paired c.ports (pair_at c.pairs pair).port config.ports (port_within c pair config regular known)).in_ports in
    let there = is_at c o q 0 config regular port (queue_known c pair config regular known) some in
    numbers_are c.queues q list (packets_of_port lists o) (slice_index_or inputs d [])
    (input_numbers c lists inputs d list.packets is there.pair_known (at ∙ ap (packets_of_port lists) (sym there.pair_port))
    ∙ ap (λ (n : ℕ). numbers_from c.queues n 0 list.packets) there.pair_queue) at

-- its port and the paired one are ports of the configuration
pub ports_known : (c : Config) (pairs : List PairInfo) (count pair : ℕ) → IsRegular c → IsConfig c → pairs ≡ c.pairs → count ≡ c.ports → pair < length pairs
    → ((pair_at pairs pair).port < count) × (paired_port (pair_at pairs pair).port < count)
ports_known c pairs count pair regular is same counted below =
    let known : pair < length c.pairs = subst (λ (ps : List PairInfo). pair < length ps) same below in
    let some : 0 < c.queues = omega (arith, is.queues) in
    let port : (pair_at c.pairs pair).port < c.ports =
    subst (λ (n : ℕ). n < c.ports) (sym (regular.seats pair known).0) (div_below pair c.queues c.ports some (omega (arith, known, regular.pairs))) in
    subst (λ (ps : List PairInfo). ((pair_at ps pair).port < count) × (paired_port (pair_at ps pair).port < count)) (sym same)
    (subst (λ (n : ℕ). ((pair_at c.pairs pair).port < n) × (paired_port (pair_at c.pairs pair).port < n)) (sym counted)
    (port, (are_paired c.ports (pair_at c.pairs pair).port is.ports port).in_ports))

-- the list of a port
pub list_at : (lists : List PacketList) (port : ℕ) (list : PacketList) → list ≡ slice_index_or lists port list → port < length lists → list.packets ≡ packets_of_port lists port
list_at lists port list is below =
    ap (λ (l : PacketList). l.packets) (is ∙ get_or_default lists port list (record { packets = []; gaps = None; spare_packets = 0; spare_bytes = 0 }) below)

-- that of a pair's port, as it was looked up
pub list_found : (c : Config) (lists : List PacketList) (pairs : List PairInfo) (pair : ℕ) (list : PacketList) → IsRegular c → IsConfig c → pairs ≡ c.pairs → length lists ≡ c.ports → pair < length c.pairs
    → list ≡ slice_index_or lists (pair_at pairs pair).port list → list.packets ≡ packets_of_port lists (pair_at c.pairs pair).port
list_found c lists pairs pair list regular is same counted known got =
    let below : pair < length pairs = omega (arith, known, ap (length {A = PairInfo}) same) in
    let ports = ports_known c pairs (length lists) pair regular is same counted below in
    list_at lists (pair_at pairs pair).port list got ports.0 ∙ ap (λ (ps : List PairInfo). packets_of_port lists (pair_at ps pair).port) same

-- what was looked up of a pair, and of the paired port's driver
pub own_found : (c : Config) (lists : List PacketList) (pair : ℕ) (inputs : List (List ℕ)) (pairs : List PairInfo) (list : PacketList) → IsConfig c → IsRegular c
    → inputs ≡ inputs_of c lists → pair < length c.pairs → length lists ≡ c.ports → pairs ≡ c.pairs → list ≡ slice_index_or lists (pair_at pairs pair).port list
    → AreNumbersOf list (received c lists (pair_at c.pairs pair).port (pair_at c.pairs pair).queue) (slice_index_or inputs pair [])
own_found c lists pair inputs pairs list config regular is known counted same got =
    let here : (pair_at pairs pair).port ≡ (pair_at c.pairs pair).port = ap (λ (ps : List PairInfo). (pair_at ps pair).port) same in
    let within : (pair_at pairs pair).port < length lists = omega (arith, here, port_within c pair config regular known, counted) in
    own_numbers c lists inputs pair list is known (list_at lists (pair_at pairs pair).port list got within ∙ ap (packets_of_port lists) here)

pub other_found : (c : Config) (lists : List PacketList) (pair : ℕ) (inputs : List (List ℕ)) (pairs : List PairInfo) (port other : ℕ) (list : PacketList) → IsConfig c → IsRegular c
    → inputs ≡ inputs_of c lists → pair < length c.pairs → length lists ≡ c.ports → pairs ≡ c.pairs → port ≡ paired_port (pair_at pairs pair).port
    → other ≡ driver_on c port (pair_at pairs pair).queue → list ≡ slice_index_or lists port list
    → AreNumbersOf list (received c lists (paired_port (pair_at c.pairs pair).port) (pair_at c.pairs pair).queue) (slice_index_or inputs other [])
other_found c lists pair inputs pairs port other list config regular is known counted same port_is other_is got =
    let o = paired_port (pair_at c.pairs pair).port in
    let here : port ≡ o = port_is ∙ ap (λ (ps : List PairInfo). paired_port (pair_at ps pair).port) same in
    let within : o < c.ports = (are_paired c.ports (pair_at c.pairs pair).port config.ports (port_within c pair config regular known)).in_ports in
    let at : list.packets ≡ packets_of_port lists o =
    list_at lists port list got (subst (λ (n : ℕ). n < length lists) (sym here) (omega (arith, within, counted))) ∙ ap (packets_of_port lists) here in
    let there : other ≡ driver_on c o (pair_at c.pairs pair).queue =
    other_is ∙ ap (λ (n : ℕ). driver_on c n (pair_at pairs pair).queue) here ∙ ap (λ (ps : List PairInfo). driver_on c o (pair_at ps pair).queue) same in
    subst (λ (n : ℕ). AreNumbersOf list (received c lists o (pair_at c.pairs pair).queue) (slice_index_or inputs n [])) (sym there) (other_numbers c lists inputs pair list config regular is known at)

-- ---- the packets of both

-- so many packets with so many bytes, or either is too many
abbrev AreFew : ℕ → List (List ℕ) → Option Amount → Type 0
AreFew most packets amount =
    MatchOption amount ((most ≤ length packets) ⊎ (most ≤ length (concat packets))) (λ (a : Amount). (a.packets ≡ length packets) × (a.bytes ≡ length (concat packets)))

module _ (most : ℕ) (list other : PacketList) (mine others : List (List ℕ)) (ns ms : List ℕ) (are : AreNumbersOf list mine ns) where
  count : length (mine ++ others) ≡ length ns + length others
  count = omega (arith, are.count, length-append mine others)

  size : length (concat (mine ++ others)) ≡ length (concat (packets_by list ns)) + length (concat others)
  size = omega (arith, ap (λ (ps : List (List ℕ)). length (concat ps)) are.is, ap length (concat-append mine others), length-append (concat mine) (concat others))

  -- where the first are too many, both are
  pub first_many : (most ≤ length ns) ⊎ (most ≤ length (concat (packets_by list ns))) → (most ≤ length (mine ++ others)) ⊎ (most ≤ length (concat (mine ++ others)))
  first_many h = ⊎_elim (λ (many : most ≤ length ns). inl (omega (arith, many, count))) (λ (many : most ≤ length (concat (packets_by list ns))). inr (omega (arith, many, size))) h

  module _ (also : AreNumbersOf other others ms) where
    both : length (mine ++ others) ≡ length ns + length ms
    both = omega (arith, count, also.count)

    sizes : length (concat (mine ++ others)) ≡ length (concat (packets_by list ns)) + length (concat (packets_by other ms))
    sizes = omega (arith, size, ap (λ (ps : List (List ℕ)). length (concat ps)) also.is)

    pub second_many : (most ≤ length ms) ⊎ (most ≤ length (concat (packets_by other ms))) → (most ≤ length (mine ++ others)) ⊎ (most ≤ length (concat (mine ++ others)))
    second_many h = ⊎_elim (λ (many : most ≤ length ms). inl (omega (arith, many, both))) (λ (many : most ≤ length (concat (packets_by other ms))). inr (omega (arith, many, sizes))) h

    pub sum_of : (a b : Amount) (result : Option Amount) → (a.packets ≡ length ns) × (a.bytes ≡ length (concat (packets_by list ns)))
        → (b.packets ≡ length ms) × (b.bytes ≡ length (concat (packets_by other ms)))
        → MatchOption result ((most ≤ a.packets + b.packets) ⊎ (most ≤ a.bytes + b.bytes)) (λ (sum : Amount). (sum.packets ≡ a.packets + b.packets) × (sum.bytes ≡ a.bytes + b.bytes))
        → AreFew most (mine ++ others) result
    sum_of a b None first second h =
        ⊎_elim (λ (many : most ≤ a.packets + b.packets). inl (omega (arith, many, first.0, second.0, both))) (λ (many : most ≤ a.bytes + b.bytes). inr (omega (arith, many, first.1, second.1, sizes))) h
    sum_of a b (Some sum) first second h = (omega (arith, h.0, first.0, second.0, both), omega (arith, h.1, first.1, second.1, sizes))

-- ---- the room to send

-- of packets with their verdicts no more are to bounce than there are
pub bounces_within : (P : List ℕ → Verdict → Type 0) (packets : List (List ℕ)) (verdicts : List Verdict) → EachHas P packets verdicts
    → (length (bouncing (judged packets verdicts)) ≤ length packets) × (length (concat (bouncing (judged packets verdicts))) ≤ length (concat packets))
bounces_within P packets verdicts each =
    let input : List Judged = judged packets verdicts in
    let same : map (λ (x : Judged). x.bytes) input ≡ packets = bytes-judged P packets verdicts each in
    (omega (arith, bouncing_few input, length-map input (λ (x : Judged). x.bytes), ap length same), omega (arith, bouncing_bytes input, ap (λ (ps : List (List ℕ)). length (concat ps)) same))

-- the room for others and for what is to bounce is within that for all
room_fits : (mine others bounced : List (List ℕ)) (both there : Amount) → IsAmountOf (mine ++ others) both → IsAmountOf others there
    → (length bounced ≤ length mine) × (length (concat bounced) ≤ length (concat mine))
    → (there.packets + length bounced ≤ both.packets) × (there.bytes + length (concat bounced) ≤ both.bytes)
room_fits mine others bounced both there all some few = (
  omega (arith, all.0, some.0, few.0, length-append mine others),
  omega (arith, all.1, some.1, few.1, ap length (concat-append mine others), length-append (concat mine) (concat others)),
)

-- and within that for others alone, where none bounces
pub room_is_enough : (b : Bool) (mine others bounced : List (List ℕ)) (both there : Amount) → IsAmountOf (mine ++ others) both → IsAmountOf others there
    → (length bounced ≤ length mine) × (length (concat bounced) ≤ length (concat mine)) → (b ≡ true → bounced ≡ [])
    → (there.packets + length bounced ≤ (if b then there else both).packets) × (there.bytes + length (concat bounced) ≤ (if b then there else both).bytes)
room_is_enough true mine others bounced both there all some few none =
    let is = none refl in (omega (arith, ap length is), omega (arith, ap (λ (ps : List (List ℕ)). length (concat ps)) is))
room_is_enough false mine others bounced both there all some few none = room_fits mine others bounced both there all some few

-- a driver whose room is that has room to send all that can leave
pub room_to_send : (s : Setting) (pair : ℕ) (list : List (List ℕ)) (verdicts : List Verdict) (coming : List Judged) (there : Amount) (d : DriverShown)
    → coming ≡ judged (packets_of_queue s.config.queues (pair_at s.config.pairs pair).queue list) verdicts
    → list ≡ packets_of_port s.packets (pair_at s.config.pairs pair).port → verdicts ≡ slice_index_or s.verdicts pair []
    → IsAmountOf (received_there s.config s.packets pair) there
    → d.sent.most_packets ≡ there.packets + length (bouncing coming) → d.sent.most_bytes ≡ there.bytes + length (concat (bouncing coming)) → HasRoomToSend s pair d
room_to_send s pair list verdicts coming there d is at given amount packets bytes =
    let queue : ℕ = (pair_at s.config.pairs pair).queue in
    let others = received_there s.config s.packets pair in
    let bounced = bouncing (input_of s pair) in
    let same : bouncing coming ≡ bounced =
    ap bouncing (is ∙ ap (λ (l : List (List ℕ)). judged (packets_of_queue s.config.queues queue l) verdicts) at ∙ ap (judged (packets_to s.config s.packets (pair_at s.config.pairs pair))) given) in
    record {
      packets = omega (arith, packets, amount.0, ap length same, length-append bounced others);
      bytes = omega (arith, bytes, amount.1, ap (λ (ps : List (List ℕ)). length (concat ps)) same, ap length (concat-append bounced others), length-append (concat bounced) (concat others));
    }

-- a new driver with another room is new
pub new_with_room : (wire : Wire) (c : Config) (pair : ℕ) (packets : List (List ℕ)) (old new : DriverShown) → IsNewDriver wire c pair (judged packets (verdicts_in old.kept)) old
    → new.seat ≡ old.seat → new.wait ≡ old.wait → new.kept ≡ old.kept → Sends new.sent [] → IsNewDriver wire c pair (judged packets (verdicts_in new.kept)) new
new_with_room wire c pair packets old new is seat wait kept sent =
    subst (λ (vs : List Verdict). IsNewDriver wire c pair (judged packets vs) new) (sym (ap verdicts_in kept))
    (record { one = is.one; few = is.few; seat = seat ∙ is.seat; wait = wait ∙ is.wait; kept = kept ∙ is.kept; sent = sent })

pub new_driver : (s : Setting) (pair : ℕ) (list : List (List ℕ)) (verdicts : List Verdict) (d : DriverShown) → pair < length s.config.pairs → HasRoomToSend s pair d
    → list ≡ packets_of_port s.packets (pair_at s.config.pairs pair).port
    → verdicts ≡ slice_index_or s.verdicts pair [] → IsNewDriver s.wire s.config pair (judged (packets_of_queue s.config.queues (pair_at s.config.pairs pair).queue list) verdicts) d → IsDriver s pair d
new_driver s pair list verdicts d known room at given new = record {
  known = known;
  room = room;
  is = subst (λ (v : List Verdict). IsNewDriver s.wire s.config pair (judged (packets_of_queue s.config.queues (pair_at s.config.pairs pair).queue (packets_of_port s.packets (pair_at s.config.pairs pair).port)) v) d) given
      (subst (λ (l : List (List ℕ)). IsNewDriver s.wire s.config pair (judged (packets_of_queue s.config.queues (pair_at s.config.pairs pair).queue l) verdicts) d) at new);
}

pub new_app : (s : Setting) (who : ℕ) (m : Manner) (c : Config) (app : ℕ) (a : AppShown) → s.manner ≡ m → s.config ≡ c → who ≡ caller_of c app → IsNewApp m c app a → IsApp s who a
new_app s who m c app a manner is caller new =
    let number : app ≡ a.app = sym new.app in
    let config : c ≡ s.config = sym is in
    record {
      config = new.config ∙ config;
      caller = caller ∙ ap (λ (k : ℕ). caller_of c k) number ∙ ap (λ (k : Config). caller_of k a.app) config;
      is = subst (λ (x : Manner). IsNewApp x s.config a.app a) (sym manner) (subst (λ (k : Config). IsNewApp m k a.app a) config (subst (λ (n : ℕ). IsNewApp m c n a) number new));
    }
