-- What a TX ring's queue keeps when one more item was peeked.
use Rattle.std.proofs.Common.{◌≡◌, ◌+◌, ◌-◌, ◌≤◌, Bool, true, false, cond, eqb, not, ◌||◌, List, [], ◌∷◌, ◌++◌, length, take, drop, map, flat_map, Option, Some, None, refl, sym, ap, ◌∙◌, arith, append_assoc, append-nil, length-append}
use Rattle.std.specs.Prelude.{nat_le, is_some, option_to_list}
use Rattle.std.proofs.lemmas.List.{drop-append-le, length-map, map-append}
use Rattle.std.proofs.lemmas.List.Concat.{flat_map-append}
use Rattle.std.proofs.Math.Seq.{take-append_seam}
use Rattle.xsk_umem.specs.declared.batch.Item.{Item}
use Rattle.xsk_umem.specs.declared.batch.XdpDesc.{XdpDesc}
use Rattle.xsk_model.specs.Config.{Config}
use Rattle.xsk_model.specs.Descriptor.{is_valid}
use Rattle.xsk_model.specs.Packets.{Packet, whole, bad, packets, rest, ended_by, group_after, whole_packets}
use Rattle.xsk_model.specs.Own.{TxWork, waiting}
use Rattle.xsk_model.proofs.PacketsLaws.{packets-push, rest-push, whole_packets-append}
use Rattle.xsk_model.proofs.Sendings.{wholes}
use Rattle.xsk_legal.specs.Noted.{Queue}
use Rattle.xsk_legal.specs.Queue.{pushed}
use Rattle.xsk_legal.specs.Standing.{desc_of, uncompleted}

abbrev joined : List (List Item) → List Item
joined packets = flat_map (λ (packet : List Item). packet) packets

-- what an item ends, by whether the group is full, whether the item is valid, and whether it has the bit
abbrev ended : Bool → Bool → Bool → List Item → Item → Option Packet
ended full valid bit group item =
    cond full (Some (bad (group ++ item ∷ []))) (cond (not valid) (Some (bad (group ++ item ∷ []))) (cond bit None (Some (whole (group ++ item ∷ [])))))

abbrev after_end : Option Packet → List Item → Item → List Item
after_end end group item = cond (is_some end) [] (group ++ item ∷ [])

abbrev queue_after : Bool → Bool → Bool → Queue → XdpDesc → Queue
queue_after full valid bit q desc =
    cond (full || not valid) (record q { descs = take (length q.descs - q.begun) q.descs; begun = 0 }) (record q { descs = q.descs ++ desc ∷ []; begun = cond bit (q.begun + 1) 0 })

abbrev Matches : Queue → List Item → List Item → Type 0
Matches q items group = (q.descs ≡ map desc_of items) × (q.begun ≡ length group)

joined-push : (groups more : List (List Item)) → joined (groups ++ more) ≡ joined groups ++ joined more
joined-push groups more = flat_map-append (λ (packet : List Item). packet) groups more

forgotten : (waits : List (List Item)) (group : List Item) (q : Queue) → Matches q (joined waits ++ group) group
    → take (length q.descs - q.begun) q.descs ≡ map desc_of (joined (waits ++ []) ++ [])
forgotten waits group q h =
    let split : q.descs ≡ map desc_of (joined waits) ++ map desc_of group = h.0 ∙ map-append desc_of (joined waits) group in
    let size : length q.descs - q.begun ≡ length (map desc_of (joined waits)) =
    omega (
      arith,
      ap length split,
      length-append (map desc_of (joined waits)) (map desc_of group),
      length-map group desc_of,
      h.1,
    ) in
    ap (λ n. take n q.descs) size
    ∙ ap (take (length (map desc_of (joined waits)))) split
    ∙ take-append_seam (map desc_of (joined waits)) (map desc_of group)
    ∙ ap (map desc_of) (sym (append-nil (joined (waits ++ [])) ∙ ap joined (append-nil waits)))

outcome : (full valid bit : Bool) (waits : List (List Item)) (group : List Item) (item : Item) (q : Queue) → Matches q (joined waits ++ group) group
    → Matches (queue_after full valid bit q item.desc)
    (joined (waits ++ whole_packets (option_to_list (ended full valid bit group item))) ++ after_end (ended full valid bit group item) group item)
    (after_end (ended full valid bit group item) group item)
outcome true valid bit waits group item q h = (forgotten waits group q h, refl)
outcome false false bit waits group item q h = (forgotten waits group q h, refl)
outcome false true true waits group item q h = (
  ap (λ ds. ds ++ item.desc ∷ []) h.0
      ∙ sym (map-append desc_of (joined waits ++ group) (item ∷ []))
      ∙ ap (map desc_of) (append_assoc (joined waits) group (item ∷ []))
      ∙ ap (λ ws. map desc_of (joined ws ++ (group ++ item ∷ []))) (sym (append-nil waits)),
  omega (arith, h.1, length-append group (item ∷ [])),
)
outcome false true false waits group item q h = (
  ap (λ ds. ds ++ item.desc ∷ []) h.0
      ∙ sym (map-append desc_of (joined waits ++ group) (item ∷ []))
      ∙ ap (map desc_of) (append_assoc (joined waits) group (item ∷ []))
      ∙ ap (λ xs. map desc_of (joined waits ++ xs)) (sym (append-nil (group ++ item ∷ [])))
      ∙ ap (map desc_of) (sym (joined-push waits ((group ++ item ∷ []) ∷ [])))
      ∙ ap (map desc_of) (sym (append-nil (joined (waits ++ (group ++ item ∷ []) ∷ [])))),
  refl,
)

-- the queue stands for what is peeked and not completed
pub pushed_is : (c : Config) (u : TxWork) (item : Item) (q : Queue) → u.completed ≤ length (wholes c u)
    → (q.descs ≡ map desc_of (uncompleted c u)) × (q.begun ≡ length (rest c.geometry c.sg u.peeked))
    → ((pushed c.geometry c.sg q item.desc).descs ≡ map desc_of (uncompleted c (record u { peeked = u.peeked ++ item ∷ [] })))
    × ((pushed c.geometry c.sg q item.desc).begun ≡ length (rest c.geometry c.sg (u.peeked ++ item ∷ [])))
pushed_is c u item q within h =
    let group : List Item = rest c.geometry c.sg u.peeked in
    let valid : Bool = is_valid c.geometry c.sg item.desc in
    let bit : Bool = eqb item.desc.options 1 in
    let same : ended (nat_le 18 q.begun) valid bit (rest c.geometry c.sg u.peeked) item ≡ ended_by c.geometry c.sg (rest c.geometry c.sg u.peeked) item =
    ap (λ k. ended (nat_le 18 k) valid bit group item) h.1 in
    let waits : waiting c (record u { peeked = u.peeked ++ item ∷ [] }) ≡ waiting c u ++ whole_packets (option_to_list (ended_by c.geometry c.sg (rest c.geometry c.sg u.peeked) item)) =
    ap (λ ps. drop u.completed (whole_packets ps)) (packets-push c.geometry c.sg u.peeked group item refl)
    ∙ ap (drop u.completed) (whole_packets-append (packets c.geometry c.sg u.peeked) (option_to_list (ended_by c.geometry c.sg group item)))
    ∙ drop-append-le u.completed (wholes c u) (whole_packets (option_to_list (ended_by c.geometry c.sg group item))) within in
    let left : rest c.geometry c.sg (u.peeked ++ item ∷ []) ≡ group_after c.geometry c.sg (rest c.geometry c.sg u.peeked) item = rest-push c.geometry c.sg u.peeked group item refl in
    let made = outcome (nat_le 18 q.begun) valid bit (waiting c u) group item q h in
    let all : joined (waiting c u ++ whole_packets (option_to_list (ended (nat_le 18 q.begun) valid bit group item))) ++ after_end (ended (nat_le 18 q.begun) valid bit group item) group item
    ≡ uncompleted c (record u { peeked = u.peeked ++ item ∷ [] }) =
    ap (λ o. joined (waiting c u ++ whole_packets (option_to_list o)) ++ after_end o group item) same
    ∙ ap (λ xs. joined (waiting c u ++ whole_packets (option_to_list (ended_by c.geometry c.sg group item))) ++ xs) (sym left)
    ∙ ap (λ ws. joined ws ++ rest c.geometry c.sg (u.peeked ++ item ∷ [])) (sym waits) in (
      made.0 ∙ ap (map desc_of) all,
      made.1 ∙ ap (λ o. length (after_end o group item)) same ∙ ap length (sym left),
    )
