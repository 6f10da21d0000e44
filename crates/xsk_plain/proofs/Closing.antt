-- The frames that come back from rings.
use Rattle.std.proofs.Common.{◌≡◌, ℕ, ◌+◌, ◌≤◌, List, [], ◌∷◌, ◌++◌, length, map, sym, ap, ◌∙◌, arith, append_assoc, append-nil, length-append}
use Rattle.std.proofs.lemmas.List.{map-append}
use Rattle.std.proofs.lemmas.List.Concat.{flat_map-append}
use Rattle.xsk_umem.specs.Frame.{Frame}
use Rattle.xsk_plain.specs.Engine.{Part, frames_of, frames_in, frames_out}
use Rattle.xsk_plain.specs.Stores.{stored_item_of, part_of, parts_of}
use Rattle.xsk_plain.specs.declared.ring_store.RingStore.{RingStore}
use Rattle.xsk_plain.specs.declared.ring_store.Stored.{Stored}

-- the frame of the next item goes to the end of the queue, which has room for those that are left
pub give_step : (before after init all : List Frame) (out rest : List Stored) (stored : Stored) (limit old : ℕ) → out ≡ stored ∷ rest
    → (length before + length (frames_of stored.item.frame) ≤ limit → after ≡ before ++ frames_of stored.item.frame) → limit ≡ old
    → length init + length all ≤ old → before ++ frames_in (map stored_item_of out) ≡ init ++ all → after ++ frames_in (map stored_item_of rest) ≡ init ++ all
give_step before after init all out rest stored limit old first give same few done =
    let here : frames_in (map stored_item_of out) ≡ frames_of stored.item.frame ++ frames_in (map stored_item_of rest) = ap (λ (xs : List Stored). frames_in (map stored_item_of xs)) first in
    let count : length (frames_in (map stored_item_of out)) ≡ length (frames_of stored.item.frame) + length (frames_in (map stored_item_of rest)) =
    ap length here ∙ length-append (frames_of stored.item.frame) (frames_in (map stored_item_of rest)) in
    let fits : length before + length (frames_of stored.item.frame) ≤ limit =
    omega (arith, count, same, few, ap length done, length-append before (frames_in (map stored_item_of out)), length-append init all) in
    ap (λ xs. xs ++ frames_in (map stored_item_of rest)) (give fits) ∙ append_assoc before (frames_of stored.item.frame) (frames_in (map stored_item_of rest))
    ∙ ap (λ xs. before ++ xs) (sym here) ∙ done

pub frames_out-push : (stores : List RingStore) (store : RingStore) → frames_out (parts_of (stores ++ store ∷ [])) ≡ frames_out (parts_of stores) ++ frames_in (map stored_item_of store.out.items)
frames_out-push stores store =
    ap frames_out (map-append part_of stores (store ∷ [])) ∙ flat_map-append (λ (ring : Part). frames_in ring.out) (parts_of stores) (part_of store ∷ [])
    ∙ ap (λ xs. frames_out (parts_of stores) ++ xs) (append-nil (frames_in (map stored_item_of store.out.items)))

-- the frames of the next ring
pub empty_step : (before after init : List Frame) (stores : List RingStore) (store : RingStore) (limit old : ℕ)
    → (length before + length (frames_in (map stored_item_of store.out.items)) ≤ limit → after ≡ before ++ frames_in (map stored_item_of store.out.items)) → limit ≡ old
    → (length init + length (frames_out (parts_of stores)) ≤ old → before ≡ init ++ frames_out (parts_of stores))
    → length init + length (frames_out (parts_of (stores ++ store ∷ []))) ≤ old → after ≡ init ++ frames_out (parts_of (stores ++ store ∷ []))
empty_step before after init stores store limit old give same done few =
    let all = frames_out-push stores store in
    let count : length (frames_out (parts_of (stores ++ store ∷ []))) ≡ length (frames_out (parts_of stores)) + length (frames_in (map stored_item_of store.out.items)) =
    ap length all ∙ length-append (frames_out (parts_of stores)) (frames_in (map stored_item_of store.out.items)) in
    let so_far : before ≡ init ++ frames_out (parts_of stores) = done (omega (arith, count, few)) in
    let fits : length before + length (frames_in (map stored_item_of store.out.items)) ≤ limit =
    omega (arith, count, few, same, ap length so_far, length-append init (frames_out (parts_of stores))) in
    give fits ∙ ap (λ xs. xs ++ frames_in (map stored_item_of store.out.items)) so_far
    ∙ append_assoc init (frames_out (parts_of stores)) (frames_in (map stored_item_of store.out.items)) ∙ ap (λ xs. init ++ xs) (sym all)
