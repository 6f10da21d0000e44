-- How many items stand in lists of them, and what a driver has of the frames that it took from TX.
use Rattle.std.proofs.Common.{◌≡◌, ℕ, ◌+◌, ◌-◌, ◌<◌, min, List, [], ◌∷◌, ◌++◌, length, sum, take, drop, get_or, sym, ap, ◌∙◌, arith, length-take, length-drop}
use Rattle.std.proofs.lemmas.List.{take_more}
use Rattle.std.proofs.lemmas.List.Sums.{sum_by-cons}
use Rattle.xsk_umem.specs.declared.batch.Item.{Item}
use Rattle.xsk_turns.specs.Statistics.{capped}
use Rattle.xsk_turns.specs.Stranded.{items_in, stranded_in, stranded_of, sent_count, completed_count, frames_completed}
use Rattle.xsk_turns.specs.Turns.{Judged, seat_of}
use Rattle.xsk_turns.specs.declared.wire.Wire.{Wire}
use Rattle.xsk_turns.proofs.Object.{Config}
use Rattle.xsk_turns.proofs.Calls.{Told, Call}
use Rattle.xsk_turns.proofs.Stranding.{keeps_stranded, keeps_stranded_at_end}
use Rattle.xsk_driver.specs.Finished.{cut_by}
use Rattle.xsk_driver.specs.Runs.{Stands, HasEnded}
use Rattle.xsk_driver.specs.Shown.{Shown}
use Rattle.xsk_driver.specs.Stands.{left}

pub items_cut : (lengths : List ℕ) (items : List Item) → sum lengths ≡ length items → items_in (cut_by lengths items) ≡ length items
items_cut [] items e = omega (arith, e)
items_cut (n ∷ lengths) items e =
    let first = sum_by-cons (λ x. x) n lengths in
    omega (arith, e, first, length-take n items, length-drop n items, items_cut lengths (drop n items) (omega (arith, e, first, length-drop n items)))

pub capped_items : (lengths : List ℕ) (items : List Item) (n : ℕ) → sum lengths ≡ length items → n ≡ length items → n < 18446744073709551616 → n ≡ capped (items_in (cut_by lengths items))
capped_items lengths items n e is few = omega (arith, is, few, items_cut lengths items e)

pub capped_sum : (n m k a b c : ℕ) → n ≡ capped a → m ≡ capped b → k ≡ capped c → min (min (n + m) 18446744073709551615 + k) 18446744073709551615 ≡ capped (a + b + c)
capped_sum n m k a b c e f g = omega (arith, e, f, g)

items_in-append : (xss : List (List Item)) (xs : List Item) → items_in (xss ++ xs ∷ []) ≡ items_in xss + length xs
items_in-append [] xs = omega arith
items_in-append (ys ∷ xss) xs = omega (arith, items_in-append xss xs)

-- one list more
pub items_more : (xss : List (List Item)) (i n count new : ℕ) (xs : List Item) → i < length xss → get_or xss i xs ≡ xs → n ≡ length xs → count ≡ capped (items_in (take i xss))
    → new ≡ min (count + n) 18446744073709551615 → new ≡ capped (items_in (take (i + 1) xss))
items_more xss i n count new xs within at is so more =
    let all : items_in (take (i + 1) xss) ≡ items_in (take i xss) + n =
    ap items_in (take_more xss i xs within ∙ ap (λ x. take i xss ++ x ∷ []) at) ∙ items_in-append (take i xss) xs ∙ ap (λ k. items_in (take i xss) + k) (sym is) in
    omega (arith, all, so, more)

pub stands_stranded : (wire : Wire) (c : Config) (pair : ℕ) (input : List Judged) (d : Shown) (call : Call) (l : List Told) → Stands wire c pair input d call l
    → stranded_in d.kept ≡ sent_count l - completed_count l - frames_completed call
stands_stranded wire c pair input d call l stands =
    omega (arith, keeps_stranded wire c pair input l d.kept call (left (seat_of wire c pair) d.wait d.noted d.kept) stands.one stands.own stands.asks)

pub ended_stranded : (wire : Wire) (c : Config) (pair : ℕ) (input : List Judged) (d : Shown) (l : List Told) → HasEnded wire c pair input d l → stranded_in d.kept ≡ stranded_of l
ended_stranded wire c pair input d l ended = omega (arith, keeps_stranded_at_end wire c pair input l d.kept ended.one ended.own ended.ends)
