-- The rings of a configuration are a setting.
use Rattle.std.proofs.Common.{◌≡◌, ℕ, zero, suc, ◌<◌, ◌≤◌, ◌^◌, true, Option, Some, None, List, map, ap, ◌∙◌, arith, ⊎_elim, refl}
use Rattle.std.specs.Prelude.{IfSome}
use Rattle.std.specs.Int.{is_power_of_two}
use Rattle.std.proofs.Math.Nat.{pow-le-pow_right}
use Rattle.std.proofs.lemmas.Bool.{cases_lt}
use Rattle.std.proofs.lemmas.List.{length-map}
use Rattle.std.proofs.lemmas.List.Elements.{All-map}
use Rattle.xsk_umem.specs.Geometry.{Geometry, IsGeometry}
use Rattle.xsk_model.specs.Config.{Config, IsConfig, IsRingSize as IsModelSize, IsBound, IsServed}
use Rattle.xsk_model.specs.declared.config.SocketInfo.{SocketInfo}
use Rattle.xsk_model.specs.declared.config.PairInfo.{PairInfo}
use Rattle.xsk_model.proofs.Roles.{pair_on_found}
use Rattle.xsk_side.specs.Setting.{IsUmem, IsRingSize, IsPair, IsSocket, IsSetting}
use Rattle.xsk_sides.specs.Sides.{pair_side, socket_side, setting_of}

is_umem : (g : Geometry) → IsGeometry g → IsUmem g
is_umem g h = record {
  frames = (h.some, omega (arith, h.few));
  chunk = omega (arith, h.headroom);
}

power : (k : ℕ) → k < 12 → is_power_of_two (2 ^ k) ≡ true
unfolding lib.Count.ones
power zero low = refl
power (suc zero) low = refl
power (suc (suc zero)) low = refl
power (suc (suc (suc zero))) low = refl
power (suc (suc (suc (suc zero)))) low = refl
power (suc (suc (suc (suc (suc zero))))) low = refl
power (suc (suc (suc (suc (suc (suc zero)))))) low = refl
power (suc (suc (suc (suc (suc (suc (suc zero))))))) low = refl
power (suc (suc (suc (suc (suc (suc (suc (suc zero)))))))) low = refl
power (suc (suc (suc (suc (suc (suc (suc (suc (suc zero))))))))) low = refl
power (suc (suc (suc (suc (suc (suc (suc (suc (suc (suc zero)))))))))) low = refl
power (suc (suc (suc (suc (suc (suc (suc (suc (suc (suc (suc zero))))))))))) low = refl
power (suc (suc (suc (suc (suc (suc (suc (suc (suc (suc (suc (suc k)))))))))))) low = absurd (omega (arith, low))

few : (k size : ℕ) → size ≡ 2 ^ k → size ≤ 2048 → k < 12
few k size is most = ⊎_elim
    (λ (low : k < 12). low)
    (λ (high : 12 ≤ k). let large : 2 ^ 12 ≤ 2 ^ k = pow-le-pow_right {n = 2} (omega arith) {i = 12} {j = k} high in absurd (omega (arith, large, is, most)))
    (cases_lt k 12)

is_size : (size : ℕ) → IsModelSize size → IsRingSize size
is_size size h = record {
  power = ap is_power_of_two h.power.1 ∙ power h.power.0 (few h.power.0 size h.power.1 h.most);
  most = omega (arith, h.most);
}

if_size : (o : Option ℕ) → IfSome o IsModelSize → IfSome o IsRingSize
if_size None h = tt
if_size (Some size) h = is_size size h

is_pair : (sockets : List SocketInfo) (pair : PairInfo) → IsServed sockets pair → IsPair (pair_side pair)
is_pair sockets pair h = record { fill = is_size pair.fill h.fill; comp = is_size pair.comp h.comp }

is_socket : (ports queues : ℕ) (pairs : List PairInfo) (socket : SocketInfo) → IsBound ports queues pairs socket → IsSocket (map pair_side pairs) (socket_side pairs socket)
is_socket ports queues pairs socket h = record {
  pair = omega (arith, (pair_on_found pairs socket.port socket.queue (omega (arith, h.pair))).0, length-map pairs pair_side);
  ring = h.ring;
  rx = if_size socket.rx h.rx;
  tx = if_size socket.tx h.tx;
}

pub is_setting : (c : Config) → IsGeometry c.geometry → IsConfig c → IsSetting (setting_of c)
is_setting c g h = record {
  umem = is_umem c.geometry g;
  pairs = (
    omega (arith, h.pairs_some, length-map c.pairs pair_side),
    omega (arith, h.pairs_few, length-map c.pairs pair_side),
    All-map IsPair pair_side c.pairs (λ i d low. is_pair c.sockets _ (h.served i d low)),
  );
  sockets = (
    omega (arith, h.some, length-map c.sockets (socket_side c.pairs)),
    omega (arith, h.few, length-map c.sockets (socket_side c.pairs)),
    All-map (IsSocket (map pair_side c.pairs)) (socket_side c.pairs) c.sockets (λ i d low. is_socket c.ports c.queues c.pairs _ (h.bound i d low)),
  );
}
