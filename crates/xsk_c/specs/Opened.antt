-- A bench that was opened for C, and why another isn't.
use Rattle.std.specs.Prelude.{◌≡◌, ◌⊎◌, ℕ, Bool, true, false, None, Some, List, [], length, min, replicate}
use Rattle.xsk_umem.specs.Frame.{Frame}
use Rattle.xsk_socket.specs.Layout.{fault_of}
use Rattle.xsk_socket.specs.Regular.{regular_of}
use Rattle.xsk_socket.specs.declared.layout.Layout.{Layout}
use Rattle.xsk_socket.specs.declared.layout.Unlawful.{Unlawful}
use Rattle.xsk_turns.specs.Workers.{Setting}
use Rattle.xsk_turns.specs.declared.wire.Wire.{Wire}
use Rattle.xsk_turns.specs.declared.wire.Wire.TheVariants.{Wait, Drop}
use Rattle.xsk_bench.specs.Played.{HasPlayed}
use Rattle.xsk_c.specs.Answers.{fault_number, capture_number}
use Rattle.xsk_c.specs.Captures.{AreRead, IsMemory, HaveNoTraffic}
use Rattle.xsk_c.specs.declared.answers.TheConstants.{DONE, LIVE, NO_MEMORY, BAD_CAPTURES}
use Rattle.xsk_c.specs.declared.handle.Handle.{Handle}
use Rattle.xsk_c.specs.declared.opening.Refusal.{Refusal}
use Rattle.xsk_c.specs.declared.opening.Refusal.TheVariants as refusal
use Rattle.xsk_c.specs.declared.opening.Wanted.{Wanted}
use Rattle.xsk_c.specs.declared.state.State.{State}

-- the layout that is wanted, with so many captures, each of which a port must have
abbrev pub layout_in : Wanted → ℕ → Layout
layout_in w captures = record {
  ports = w.ports;
  queues = w.queues;
  sockets = w.sockets;
  files = min captures 8;
  files_wanted_per_port = 1;
  chunk = w.chunk;
  headroom = w.headroom;
  frames = w.frames;
  rx = w.rx;
  tx = w.tx;
  fill = w.fill;
  comp = w.comp;
  sg = w.sg;
  wakeup = w.wakeup;
  empty = None;
  close = None;
  hands = 1;
}

abbrev pub wire_in : Bool → Wire
wire_in true = Drop
wire_in false = Wait

-- no call was made yet, in the configuration of the layout; what its ports receive are the captures' packets, and the applications have
-- no frames
pub record IsOpened (w : Wanted) (text ends : List ℕ) (state : State) : Type 0 where
  pub setting : Setting
  pub frames : List Frame
  pub config : setting.config ≡ regular_of (layout_in w (length ends))
  pub wire : setting.wire ≡ wire_in w.drops
  pub packets : AreRead text 0 ends setting.packets
  pub played : HasPlayed setting frames [] state.bench
  pub none : state.purse.frames.items ≡ replicate setting.config.geometry.frames None

abbrev pub IsLayoutRefused : Layout → Refusal → Type 0
IsLayoutRefused layout why = IsMemory why ⊎ ((fault : Unlawful) × (why ≡ refusal.Layout fault) × (fault_of layout ≡ Some fault))

-- the layout is refused, or else the captures are
abbrev pub IsWhyNot : Wanted → List ℕ → (ends : List ℕ) → Refusal → Type 0
IsWhyNot w text ends why =
    IsLayoutRefused (layout_in w (length ends)) why ⊎ HaveNoTraffic (regular_of (layout_in w (length ends))).ports text ends why

abbrev pub refusal_number : Refusal → ℕ
refusal_number (refusal.Layout why) = fault_number why
refusal_number refusal.Ends = BAD_CAPTURES
refusal_number (refusal.Capture why) = capture_number why
refusal_number refusal.OutOfMemory = NO_MEMORY

-- a handle is as live as it was, with the same state
pub record IsSame (old new : Handle) : Type 0 where
  pub live : new.live ≡ old.live
  pub state : new.state ≡ old.state

-- A handle that isn't live is so afterwards with a bench of the layout, where that is done; and else nothing is done: neither to a
-- live one. A layout that is refused is told with the first reason, and so are captures.
pub record Opens (old new : Handle) (w : Wanted) (text ends : List ℕ) (answer : ℕ) : Type 0 where
  pub live : old.live ≡ true → answer ≡ LIVE
  pub fault : old.live ≡ false → (why : Unlawful) → fault_of (layout_in w (length ends)) ≡ Some why → answer ≡ fault_number why
  pub why : old.live ≡ false → (answer ≡ DONE → ⊥) → (why : Refusal) × (answer ≡ refusal_number why) × IsWhyNot w text ends why
  pub opened : answer ≡ DONE → (old.live ≡ false) × (new.live ≡ true) × IsOpened w text ends new.state
  pub refused : (answer ≡ DONE → ⊥) → IsSame old new
