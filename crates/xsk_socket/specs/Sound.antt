-- What holds of every setup.
use Rattle.std.specs.Prelude.{◌≡◌, ℕ, ◌<◌, ◌≤◌, ◌⊎◌, List, length, Some, IfSome, IsSome, All, Any, count_by, true}
use Rattle.xsk_model.specs.Config.{IsRingSize, pairs_at}
use Rattle.xsk_model.specs.declared.config.PairInfo.{PairInfo}
use Rattle.xsk_socket.specs.declared.socket.Binding.{Binding}
use Rattle.xsk_socket.specs.declared.socket.Socket.{Socket}
use Rattle.xsk_socket.specs.Fits.{IsCount}
use Rattle.xsk_socket.specs.Setup.{State, has_pair, is_bound}

pub record IsPlaced (ports queues : ℕ) (pairs : List PairInfo) (x : Socket) (place : Binding) : Type 0 where
  pub port : place.port < ports
  pub queue : place.queue < queues
  pub pair : has_pair pairs place.port place.queue ≡ true
  pub ring : IsSome x.rx ⊎ IsSome x.tx

pub record IsSocket (ports queues : ℕ) (pairs : List PairInfo) (x : Socket) : Type 0 where
  pub rx : IfSome x.rx IsRingSize
  pub tx : IfSome x.tx IsRingSize
  pub fill : IfSome x.fill IsRingSize
  pub comp : IfSome x.comp IsRingSize
  pub bound : IfSome x.bound (IsPlaced ports queues pairs x)

abbrev pub is_at : ℕ → ℕ → Socket → Type 0
is_at port queue x = x.bound ≡ Some (record { port = port; queue = queue })

pub record IsPair (sockets : List Socket) (pair : PairInfo) : Type 0 where
  pub socket : Any (is_at pair.port pair.queue) sockets
  pub fill : IsRingSize pair.fill
  pub comp : IsRingSize pair.comp

pub record IsSetup (s : State) : Type 0 where
  pub ports : (s.ports ≡ 2) ⊎ (s.ports ≡ 4)
  pub queues : IsCount s.queues
  pub few : length s.sockets ≤ 64
  pub pairs_few : length s.pairs ≤ count_by is_bound s.sockets
  pub apart : (port queue : ℕ) → pairs_at s.pairs port queue ≤ 1
  pub sockets : All (IsSocket s.ports s.queues s.pairs) s.sockets
  pub pairs : All (IsPair s.sockets) s.pairs
