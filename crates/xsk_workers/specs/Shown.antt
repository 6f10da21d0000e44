-- What contracts see of a worker, and what its type keeps.
use Rattle.std.specs.Prelude.{◌≡◌, ℕ, ◌==◌, ◌||◌, nat_lt, Bool, true, Option, List, length}
use Rattle.xsk_umem.specs.declared.batch.Item.{Item}
use Rattle.xsk_model.specs.Entry.{Told, own}
use Rattle.xsk_model.specs.Expected.{Expected, expected_of}
use Rattle.xsk_model.specs.declared.ask.Ask.{Ask}
use Rattle.xsk_model.specs.declared.call.Act.{Act}
use Rattle.xsk_turns.specs.Statistics.{capped}
use Rattle.xsk_turns.specs.Stepping.{joined_ask, IsGivenBack}
use Rattle.xsk_turns.specs.Workers.{Setting, IsWholeRun}
use Rattle.xsk_machine.specs.Acts.{IsActAfter}
use Rattle.xsk_table.specs.View.{idle}
use Rattle.xsk_table.specs.Held.{Board, Holder}
use Rattle.xsk_workers.specs.Crew.{Seat}

-- a worker: the setting, the pass of its caller, and the call that it makes next, without its items
pub record WorkerShown : Type 0 where
  pub setting : Setting
  pub pass : Holder
  pub next : Option Ask

-- the seat of a caller in a setting, by its pass
abbrev pub seat_with : Setting → Holder → Bool → Seat
seat_with s p alone = record { setting = s; table = p.table; setup = p.view.setup; who = p.who; alone = alone }

abbrev pub seat_of : WorkerShown → Seat
seat_of w = seat_with w.setting w.pass true

-- by so many hands one machine makes all calls of each driver, and with one hand of each application too
abbrev pub is_alone : ℕ → Setting → ℕ → Bool
is_alone hands s who = hands == 1 || nat_lt who (length s.config.pairs)

abbrev pub seat_at : ℕ → Setting → Board → ℕ → Seat
seat_at hands s b who = record { setting = s; table = b.table; setup = b.setup; who = who; alone = is_alone hands s who }

-- the worker's own calls and replies, as far as its pass has seen, which are all of them, are a whole run of its machine
abbrev pub HasRun : WorkerShown → Type 0
HasRun w = IsWholeRun w.setting w.pass.who (own w.pass.who w.pass.view.seen)

-- a number is that of its caller's own calls, and 2 ^ 64 - 1 where there are more
abbrev pub AreCounted : ℕ → Holder → Type 0
AreCounted calls p = calls ≡ capped (length (own p.who p.view.seen))

-- What a worker's type keeps: no call is in flight, the pass is of the setting's configuration, and the machine stands, as
-- the pass's caller, for the caller's own calls and replies, with what it gave after them.
pub record IsGoing {M : Type 0} (Stands : Setting → ℕ → M → Act → List Told → Type 0) (awaits : Expected) (s : Setting) (machine : M) (ask : Option Ask) (items : List Item) (p : Holder) : Type 0 where
  pub rests : p.view.flight ≡ idle
  pub config : p.view.setup.config ≡ s.config
  pub awaits_is : awaits ≡ expected_of (joined_ask ask items)
  pub given_back : IsGivenBack ask items
  pub stands : Stands s p.who machine (joined_ask ask items) (own p.who p.view.seen)
  pub after : IsActAfter s p.who (joined_ask ask items) (own p.who p.view.seen)
