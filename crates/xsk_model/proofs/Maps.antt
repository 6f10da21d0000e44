-- A port's XSKMAP, where all maps are a list of vectors.
use Rattle.std.proofs.Common.{◌≡◌, ℕ, ◌<◌, ◌≤◌, List, [], length, map, get_or, set, length-set, refl, sym, ◌∙◌, ap, subst}
use Rattle.std.specs.Prelude.{All}
use Rattle.std.specs.Vec.{vec_items}
use Rattle.std.specs.declared.vec.Vec.{Vec}
use Rattle.std.specs.declared.alloc.Global.{Global}
use Rattle.std.proofs.lemmas.List.{get_or-map, map-set, length-map}
use Rattle.std.proofs.lemmas.List.Elements.{All-get_or, All-set}
use Rattle.xsk_model.specs.Config.{IsMap}

pub map_at : (maps : List (Vec ℕ Global)) (port : ℕ) (here : Vec ℕ Global) → port < length maps → here ≡ get_or maps port here → get_or (map vec_items maps) port [] ≡ vec_items here
map_at maps port here within is = get_or-map vec_items maps port here [] within ∙ sym (ap vec_items is)

pub map_known : (maps : List (Vec ℕ Global)) (sockets port : ℕ) (here : Vec ℕ Global) → All (IsMap sockets) (map vec_items maps) → port < length maps → here ≡ get_or maps port here → IsMap sockets (vec_items here)
map_known maps sockets port here all within is =
    let inside : port < length (map vec_items maps) = rw length-map within in
    subst (IsMap sockets) (map_at maps port here within is) (All-get_or (IsMap sockets) (map vec_items maps) port [] inside all)

-- a map after a write of a known number
pub map_written : (sockets index value : ℕ) (map : List ℕ) → IsMap sockets map → value ≤ sockets → IsMap sockets (set map index value)
map_written sockets index value map is known = record {
  few = rw length-set is.few;
  known = All-set (λ v. v ≤ sockets) map index value known is.known;
}

-- the maps after a write into one of them
pub map-set_map : (maps : List (Vec ℕ Global)) (port : ℕ) (here there : Vec ℕ Global) (index value : ℕ) → port < length maps → here ≡ get_or maps port here
    → vec_items there ≡ set (vec_items here) index value
    → map vec_items (set maps port there) ≡ set (map vec_items maps) port (set (get_or (map vec_items maps) port []) index value)
map-set_map maps port here there index value within is written =
    rw (map-set vec_items maps port there, map_at maps port here within is, written) refl
