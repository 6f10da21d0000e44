-- The rings of a configuration and of its setting: the same ones, of the same sizes, each with the pair of its driver.
use Rattle.std.proofs.Common.{◌≡◌, ℕ, zero, suc, ◌<◌, None, List, ◌∷◌, [], length, map, get_or, refl, sym, ap, subst, arith}
use Rattle.std.specs.Prelude.{IsSome, unwrap_or}
use Rattle.std.proofs.lemmas.List.{length-map}
use Rattle.xsk_model.specs.Config.{Config, HasRing, size_of}
use Rattle.xsk_model.specs.Rings.{driver_of}
use Rattle.xsk_model.specs.declared.call.Ring.{Ring}
use Rattle.xsk_model.specs.declared.call.Ring.TheVariants.{Fill, Comp, Rx, Tx}
use Rattle.xsk_side.specs.Setting.{HasRing as HasSideRing, size_of as side_size, pair_of}
use Rattle.xsk_side.specs.declared.setting.Pair.{Pair}
use Rattle.xsk_side.specs.declared.setting.Socket.{Socket}
use Rattle.xsk_sides.specs.Sides.{pair_side, socket_side, setting_of}

at_map : {X Y : Type 0} (f : X → Y) (xs : List X) (i : ℕ) (d : X) (e : Y) → i < length xs → get_or (map f xs) i e ≡ f (get_or xs i d)
at_map f [] i d e low = absurd (omega (arith, low))
at_map f (x ∷ xs) zero d e low = refl
at_map f (x ∷ xs) (suc i) d e low = at_map f xs i d e (omega (arith, low))

pair_is : (c : Config) (d : ℕ) → d < length c.pairs
    → get_or (map pair_side c.pairs) d (record { fill = 0; comp = 0 }) ≡ pair_side (get_or c.pairs d (record { port = 0; queue = 0; fill = 0; comp = 0 }))
pair_is c d low = at_map pair_side c.pairs d (record { port = 0; queue = 0; fill = 0; comp = 0 }) (record { fill = 0; comp = 0 }) low

socket_is : (c : Config) (k : ℕ) → k < length c.sockets
    → get_or (map (socket_side c.pairs) c.sockets) k (record { pair = 0; rx = None; tx = None })
    ≡ socket_side c.pairs (get_or c.sockets k (record { port = 0; queue = 0; rx = None; tx = None }))
socket_is c k low = at_map (socket_side c.pairs) c.sockets k (record { port = 0; queue = 0; rx = None; tx = None }) (record { pair = 0; rx = None; tx = None }) low

pub has_ring : (c : Config) (r : Ring) → HasRing c r → HasSideRing (setting_of c) r
has_ring c (Fill d) h = omega (arith, h, length-map c.pairs pair_side)
has_ring c (Comp d) h = omega (arith, h, length-map c.pairs pair_side)
has_ring c (Rx k) h = (omega (arith, h.0, length-map c.sockets (socket_side c.pairs)), subst (λ (s : Socket). IsSome s.rx) (sym (socket_is c k h.0)) h.1)
has_ring c (Tx k) h = (omega (arith, h.0, length-map c.sockets (socket_side c.pairs)), subst (λ (s : Socket). IsSome s.tx) (sym (socket_is c k h.0)) h.1)

pub same_size : (c : Config) (r : Ring) → HasRing c r → side_size (setting_of c) r ≡ size_of c r
same_size c (Fill d) h = ap (λ (p : Pair). p.fill) (pair_is c d h)
same_size c (Comp d) h = ap (λ (p : Pair). p.comp) (pair_is c d h)
same_size c (Rx k) h = ap (λ (s : Socket). unwrap_or s.rx 0) (socket_is c k h.0)
same_size c (Tx k) h = ap (λ (s : Socket). unwrap_or s.tx 0) (socket_is c k h.0)

pub same_pair : (c : Config) (r : Ring) → HasRing c r → pair_of (setting_of c) r ≡ driver_of c r
same_pair c (Fill d) h = refl
same_pair c (Comp d) h = refl
same_pair c (Rx k) h = ap (λ (s : Socket). s.pair) (socket_is c k h.0)
same_pair c (Tx k) h = ap (λ (s : Socket). s.pair) (socket_is c k h.0)
