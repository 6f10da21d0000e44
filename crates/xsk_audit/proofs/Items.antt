-- Items, one after another.
use Rattle.std.proofs.Common.{◌≡◌, ℕ, zero, suc, ◌+◌, ◌-◌, ◌<◌, Option, Some, None, List, [], ◌∷◌, ◌++◌, take, drop, length, refl, sym, ap, ◌∙◌, arith, true, false, append_assoc, append-nil}
use Rattle.xsk_umem.specs.declared.batch.Item.{Item}
use Rattle.xsk_umem.specs.declared.batch.XdpDesc.{XdpDesc}
use Rattle.std.specs.Prelude.{Bool, not}
use Rattle.xsk_audit.proofs.Cuts.{behind}
use Rattle.xsk_audit.specs.Views.{items_view}
use Rattle.xsk_audit.specs.Reading.{◌>>=◌, Reads, desc_at, items_at, begins_item, frameless}

-- items behind others
abbrev pub front_of : List Item → Option (List Item) → Option (List Item)
front_of front None = None
front_of front (Some more) = Some (front ++ more)

pub items-stop : (n : ℕ) (xs : List ℕ) → begins_item xs ≡ false → items_at n xs ≡ Some []
unfolding items_at
items-stop zero xs none = rw none refl
items-stop (suc n) xs none = rw none refl

-- one more item, behind those that were read
front-more : (front : List Item) (x : Item) (more : Option (List Item))
    → front_of front (more >>= λ items. Some (x ∷ items)) ≡ front_of (front ++ x ∷ []) more
front-more front x None = refl
front-more front x (Some items) = ap Some (sym (append_assoc front (x ∷ []) items))

items-step : (front : List Item) (n : ℕ) (xs : List ℕ) (desc : Reads XdpDesc) (d : XdpDesc) (rest : List ℕ) → begins_item xs ≡ true → desc_at (drop 1 xs) ≡ Some (d, rest)
    → front_of front (items_at (suc n) xs) ≡ front_of (front ++ frameless d ∷ []) (items_at n rest)
unfolding items_at
items-step front n xs desc d rest begins reads = rw (begins, reads) (front-more front (frameless d) (items_at n rest))

pub items-next : (front : List Item) (i : ℕ) (xs : List ℕ) (d : XdpDesc) (rest : List ℕ) → i < 32 → begins_item xs ≡ true → Some (d, rest) ≡ desc_at (take (length xs - 1) (drop 1 xs))
    → front_of front (items_at (32 - i) xs) ≡ front_of (front ++ frameless d ∷ []) (items_at (32 - (i + 1)) rest)
items-next front i xs d rest within begins reads =
    let e : 32 - i ≡ suc (32 - (i + 1)) = omega arith in
    rw e (items-step front (32 - (i + 1)) xs None d rest begins (ap desc_at (sym (behind 1 xs)) ∙ sym reads))

pub items-failed : (front : List Item) (i : ℕ) (xs : List ℕ) → i < 32 → begins_item xs ≡ true → None ≡ desc_at (take (length xs - 1) (drop 1 xs))
    → front_of front (items_at (32 - i) xs) ≡ None
unfolding items_at
items-failed front i xs within begins reads =
    let e : 32 - i ≡ suc (32 - (i + 1)) = omega arith in
    let none : desc_at (drop 1 xs) ≡ None = ap desc_at (sym (behind 1 xs)) ∙ sym reads in
    rw (e, begins, none) refl

pub items-full : (front : List Item) (xs : List ℕ) → begins_item xs ≡ true → front_of front (items_at zero xs) ≡ None
unfolding items_at
items-full front xs begins = rw begins refl

pub items-ended : (front : List Item) (n : ℕ) (xs : List ℕ) → begins_item xs ≡ false → front_of front (items_at n xs) ≡ Some front
items-ended front n xs none = ap (front_of front) (items-stop n xs none) ∙ ap Some (append-nil front)

pub items-last : (front : List Item) (xs : List ℕ) (begins : Bool) → begins ≡ begins_item xs → items_view (not begins) front ≡ front_of front (items_at zero xs)
items-last front xs true is = sym (items-full front xs (sym is))
items-last front xs false is = sym (items-ended front zero xs (sym is))
