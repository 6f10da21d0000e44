-- The numbers of a queue's packets, packet by packet.
use Rattle.std.proofs.Common.{◌≡◌, ℕ, ◌+◌, ◌<◌, Bool, true, false, List, [], ◌∷◌, ◌++◌, length, take, get_or, None, Some, refl, sym, ◌∙◌, ap, arith, add-zero, subst, append-nil, eq-eqb, if◌then◌else◌, ◌==◌, map, slice_get}
use Rattle.std.proofs.lemmas.Bool.Decides.{nat_tests}
use Rattle.std.proofs.lemmas.List.{take_more, length-take-le, map-append}
use Rattle.std.proofs.lemmas.Option.{slice_get_within, get_or_from_slice_get, slice_get-get_or}
use Rattle.xsk_umem.specs.PacketList.{PacketList}
use Rattle.xsk_turns.proofs.Object.{Config, pair_at, PairInfo}
use Rattle.xsk_model.specs.Steering.{packet_queue}
use Rattle.xsk_turns.specs.Inputs.{numbers_from, numbers_of}

if-append : (b : Bool) (n : ℕ) (xs ys : List ℕ)
    → (if b then n ∷ (xs ++ ys) else (xs ++ ys)) ≡ (if b then n ∷ xs else xs) ++ ys
if-append true n xs ys = refl
if-append false n xs ys = refl

pub numbers_from-append : (queues queue n : ℕ) (xs ys : List (List ℕ))
    → numbers_from queues queue n (xs ++ ys) ≡ numbers_from queues queue n xs ++ numbers_from queues queue (n + length xs) ys
numbers_from-append queues queue n [] ys = ap (λ m. numbers_from queues queue m ys) (sym (add-zero n))
numbers_from-append queues queue n (x ∷ xs) ys =
    let same : n + 1 + length xs ≡ n + length (x ∷ xs) = omega arith in
    let later : numbers_from queues queue (n + 1) (xs ++ ys) ≡ numbers_from queues queue (n + 1) xs ++ numbers_from queues queue (n + length (x ∷ xs)) ys
    = subst (λ m. numbers_from queues queue (n + 1) (xs ++ ys) ≡ numbers_from queues queue (n + 1) xs ++ numbers_from queues queue m ys) same (numbers_from-append queues queue (n + 1) xs ys) in
    ap (λ zs. if (packet_queue queues x == queue) then n ∷ zs else zs) later
    ∙ if-append (packet_queue queues x == queue) n (numbers_from queues queue (n + 1) xs) (numbers_from queues queue (n + length (x ∷ xs)) ys)

one : (b : Bool) → b ≡ true → (n : ℕ) → (if b then n ∷ [] else []) ≡ n ∷ []
one b e n = subst (λ v. (if v then n ∷ [] else []) ≡ n ∷ []) (sym e) refl

none : (b : Bool) → b ≡ false → (n : ℕ) → (if b then n ∷ [] else []) ≡ []
none b e n = subst (λ v. (if v then n ∷ [] else []) ≡ []) (sym e) refl

taken : (queues queue : ℕ) (packets : List (List ℕ)) (i : ℕ) (packet : List ℕ) → slice_get packets i ≡ Some packet
    → numbers_from queues queue 0 (take (i + 1) packets) ≡ numbers_from queues queue 0 (take i packets) ++ (if (packet_queue queues packet == queue) then i ∷ [] else [])
taken queues queue packets i packet got =
    let within : i < length packets = slice_get_within packets i packet got in
    let is : get_or packets i packet ≡ packet = get_or_from_slice_get packets i packet packet got in
    let len : length (take i packets) ≡ i = length-take-le i packets (omega arith) in
    let at : (m : ℕ) → m ≡ i → numbers_from queues queue m (packet ∷ []) ≡ (if (packet_queue queues packet == queue) then i ∷ [] else []) = λ m e. rw e refl in
    rw (take_more packets i packet within, is, numbers_from-append queues queue 0 (take i packets) (packet ∷ []))
    (ap (λ zs. numbers_from queues queue 0 (take i packets) ++ zs) (at (0 + length (take i packets)) (omega (arith, len))))

-- the packet is the queue's, or it isn't
pub numbers_from-taken : (queues queue : ℕ) (packets : List (List ℕ)) (i : ℕ) (packet : List ℕ) → slice_get packets i ≡ Some packet
    → packet_queue queues packet ≡ queue → numbers_from queues queue 0 (take (i + 1) packets) ≡ numbers_from queues queue 0 (take i packets) ++ i ∷ []
numbers_from-taken queues queue packets i packet got same =
    taken queues queue packets i packet got ∙ ap (λ zs. numbers_from queues queue 0 (take i packets) ++ zs) (one (packet_queue queues packet == queue) (eq-eqb _ _ same) i)

pub numbers_from-left : (queues queue : ℕ) (packets : List (List ℕ)) (i : ℕ) (packet : List ℕ) → slice_get packets i ≡ Some packet
    → (packet_queue queues packet ≡ queue → ⊥) → numbers_from queues queue 0 (take (i + 1) packets) ≡ numbers_from queues queue 0 (take i packets)
numbers_from-left queues queue packets i packet got other =
    taken queues queue packets i packet got
    ∙ ap (λ zs. numbers_from queues queue 0 (take i packets) ++ zs) (none (packet_queue queues packet == queue) (grind (arith, nat_tests)) i)
    ∙ append-nil (numbers_from queues queue 0 (take i packets))

-- one more element of a list whose first elements are those of another
pub map-taken : {X Y Z : Type 0} (f : X → Z) (g : Y → Z) (xs : List X) (ys : List Y) (i : ℕ) (x : X) (y : Y) → i < length ys
    → map f xs ≡ map g (take i ys) → f x ≡ g (get_or ys i y) → map f (xs ++ x ∷ []) ≡ map g (take (i + 1) ys)
map-taken f g xs ys i x y within before same =
    rw (take_more ys i y within, map-append f xs (x ∷ []), map-append g (take i ys) (get_or ys i y ∷ []), before, same) refl

-- the numbers that were found in a list that was looked up are those of the pair
pub numbers_found : (c : Config) (lists : List PacketList) (pairs : List PairInfo) (d queues : ℕ) (list : PacketList) (xs : List ℕ)
    → pairs ≡ c.pairs → queues ≡ c.queues → list ≡ get_or lists (pair_at pairs d).port list → (pair_at c.pairs d).port < length lists
    → xs ≡ numbers_from queues (pair_at pairs d).queue 0 list.packets → xs ≡ numbers_of c lists (pair_at c.pairs d)
numbers_found c lists pairs d queues list xs same_pairs same_queues got within is =
    let at : list ≡ get_or lists (pair_at c.pairs d).port list = subst (λ (ps : List PairInfo). list ≡ get_or lists (pair_at ps d).port list) same_pairs got in
    let some = slice_get-get_or lists (pair_at c.pairs d).port list within in
    let found = get_or_from_slice_get lists (pair_at c.pairs d).port (get_or lists (pair_at c.pairs d).port list) (record { packets = []; gaps = None; spare_packets = 0; spare_bytes = 0 }) some in
    let now : list ≡ get_or lists (pair_at c.pairs d).port (record { packets = []; gaps = None; spare_packets = 0; spare_bytes = 0 }) = at ∙ sym found in
    is ∙ ap (λ (ps : List PairInfo). numbers_from queues (pair_at ps d).queue 0 list.packets) same_pairs
    ∙ ap (λ n. numbers_from n (pair_at c.pairs d).queue 0 list.packets) same_queues
    ∙ ap (λ (l : PacketList). numbers_from c.queues (pair_at c.pairs d).queue 0 l.packets) now
