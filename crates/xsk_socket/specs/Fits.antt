-- What holds of an accepted layout.
use Rattle.std.specs.Prelude.{◌≡◌, ℕ, ◌%◌, ◌<◌, ◌≤◌, ◌⊎◌, IfSome}
use Rattle.xsk_umem.specs.Limits.{most_frames}
use Rattle.xsk_model.specs.Config.{IsRingSize}
use Rattle.xsk_socket.specs.declared.layout.Layout.{Layout}
use Rattle.xsk_socket.specs.Layout.{pairs_in, pool_in, sockets_in}

abbrev pub IsCount : ℕ → Type 0
IsCount n = (n ≡ 1) ⊎ (n ≡ 2) ⊎ (n ≡ 4)

pub record HasCounts (l : Layout) : Type 0 where
  pub ports : (l.ports ≡ 2) ⊎ (l.ports ≡ 4)
  pub queues : IsCount l.queues
  pub sockets : IsCount l.sockets

pub record Fits (l : Layout) : Type 0 where
  pub ports : (l.ports ≡ 2) ⊎ (l.ports ≡ 4)
  pub queues : IsCount l.queues
  pub sockets : IsCount l.sockets
  pub some : 0 < l.frames
  pub few : l.frames ≤ most_frames
  pub divides : l.frames % pairs_in l ≡ 0
  pub rx : IsRingSize l.rx
  pub tx : IsRingSize l.tx
  pub fill : IsRingSize l.fill
  pub comp : IsRingSize l.comp
  pub pool : pool_in l ≤ l.fill
  pub close : IfSome l.close (λ s. s < sockets_in l)
  pub hands : IsCount l.hands
