-- The socket that an application closes, where it does: its side, its pair, and the closed lanes.
use Rattle.std.proofs.Common.{◌≡◌, ℕ, ◌+◌, ◌*◌, ◌/◌, ◌%◌, ◌<◌, Bool, true, false, cond, ◌&&◌, eqb, Option, Some, None, length, refl, sym, ap, ◌∙◌, subst, arith, div-add-mod'}
use Rattle.std.proofs.lemmas.Bool.{eqb-true}
use Rattle.xsk_turns.proofs.Object.{Config, SocketInfo, IsBound, classes_of, port_of, socket_at, caller_of, app_of}
use Rattle.xsk_turns.proofs.Calls.{Rx}
use Rattle.xsk_model.specs.Rings.{driver_of}
use Rattle.xsk_turns.specs.AppTurns.{AppKept, pair_of, side_socket, Shut, shut_at, shut_by, shut_of, is_closed, drains}
use Rattle.xsk_turns.specs.AppOwned.{IsApp}
use Rattle.xsk_turns.proofs.AppPlaces.{socket_driver, classes_some, socket_below, rx_seat}

-- what holds of it
pub record IsShut (c : Config) (a : ℕ) (shut : Shut) : Type 0 where
  pub closing : c.closing ≡ Some shut.socket
  pub side : shut.side < 2
  pub pair : shut.socket / classes_of c ≡ pair_of c a shut.side

shut_is : (c : Config) (a s : ℕ) (shut : Shut) → c.closing ≡ Some s → shut_at c a s ≡ Some shut → IsShut c a shut
shut_is c a s shut closing e = by (eqb (s / classes_of c) (pair_of c a 0)) (eqb (s / classes_of c) (pair_of c a 1)) refl refl e
  where
    is : (side : ℕ) → side < 2 → s / classes_of c ≡ pair_of c a side → (let mine : Shut = record { socket = s; side = side } in Some mine ≡ Some shut) → IsShut c a shut
    is side below pair e =
        let mine : Shut = record { socket = s; side = side } in
        let same : mine ≡ shut = cc in
        subst (IsShut c a) same (record { closing = closing; side = below; pair = pair })

    by : (first second : Bool) → eqb (s / classes_of c) (pair_of c a 0) ≡ first → eqb (s / classes_of c) (pair_of c a 1) ≡ second
        → (let x : Shut = record { socket = s; side = 0 } in let y : Shut = record { socket = s; side = 1 } in cond first (Some x) (cond second (Some y) None)) ≡ Some shut → IsShut c a shut
    by true second f g e = is 0 (omega arith) (eqb-true _ _ f) e
    by false true f g e = is 1 (omega arith) (eqb-true _ _ g) e
    by false false f g e = absurd (cc)

pub shut_mine : (c : Config) (a : ℕ) (shut : Shut) → shut_of c a ≡ Some shut → IsShut c a shut
shut_mine c a shut e = by c.closing refl e
  where
    by : (o : Option ℕ) → c.closing ≡ o → shut_by c a o ≡ Some shut → IsShut c a shut
    by None f e = absurd (cc)
    by (Some s) f e = shut_is c a s shut f e

-- where nothing is closed there is none, and no lane is given back
pub no_shut : (c : Config) (a : ℕ) → c.closing ≡ None → shut_of c a ≡ None
no_shut c a e = ap (shut_by c a) e

pub none_drains : (c : Config) (a lane : ℕ) (kept : AppKept) → c.closing ≡ None → drains c a lane kept ≡ false
none_drains c a lane kept e = ap (λ o. kept.begun && is_closed c a lane o) e ∙ off kept.begun
  where
    off : (b : Bool) → (b && false) ≡ false
    off true = refl
    off false = refl

module _ (c : Config) (a : ℕ) (one : IsApp c a) (shut : Shut) (is : IsShut c a shut) where
  abbrev class : ℕ
  class = shut.socket % classes_of c

  class_low : class < classes_of c
  class_low = let some = classes_some c a one in omega (arith, some)

  -- it is the socket of its class on its side
  pub shut_socket : side_socket c a shut.side class ≡ shut.socket
  shut_socket = ap (λ (n : ℕ). n * classes_of c + class) (sym is.pair) ∙ div-add-mod' shut.socket (classes_of c)

  pub shut_below : shut.socket < length c.sockets
  shut_below = subst (λ s. s < length c.sockets) shut_socket (socket_below c a one shut.side class is.side class_low)

  -- its port is one that there is, and its application this one
  abbrev at : SocketInfo
  at = socket_at c.sockets shut.socket

  pub shut_port_below : port_of c (Rx shut.socket) < c.ports
  shut_port_below = let bound : IsBound c.ports c.queues c.pairs at = one.config.bound shut.socket (record { port = 0; queue = 0; rx = None; tx = None }) shut_below in bound.port

  pub shut_app : caller_of c a ≡ app_of c (Rx shut.socket)
  shut_app = subst (λ s. caller_of c a ≡ app_of c (Rx s)) shut_socket (rx_seat c a one shut.side class is.side class_low).1

  pub shut_driver : driver_of c (Rx shut.socket) ≡ pair_of c a shut.side
  shut_driver = ap (λ (n : ℕ). driver_of c (Rx n)) (sym shut_socket) ∙ socket_driver c a one shut.side class is.side class_low
