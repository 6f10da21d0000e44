-- Streams that are kept in memory. This project's own.
use Rattle.std.specs.Prelude.{◌≡◌, ℕ, ◌+◌, Bool, true, false, nat_le, List, [], ◌∷◌, ◌++◌, Option, None, Some, length, drop, replicate, if◌then◌else◌, slice_index_or, slice_set, option_and_then}
use Rattle.xsk_io.specs.declared.bay.Stream.{Stream}
use Rattle.xsk_io.specs.declared.bay.Stream.TheVariants.{Input, Output, Report}
use Rattle.xsk_io.specs.Bay.{Moment}

pub record InputState : Type 0 where
  pub is_open : Bool
  pub asked : Option (List ℕ)
  pub left : List ℕ

pub record OutputState : Type 0 where
  pub is_open : Bool
  pub asked : Option (List ℕ)
  pub held : Option (List ℕ)
  pub room : ℕ

pub record MemoryState : Type 0 where
  pub inputs : List InputState
  pub outputs : List OutputState
  pub report : OutputState

-- inputs and outputs are four each
pub record HasStreams (memory : MemoryState) : Type 0 where
  pub four_inputs : length memory.inputs ≡ 4
  pub four_outputs : length memory.outputs ≡ 4

abbrev pub new_input : List ℕ → InputState
new_input bytes = record { is_open = false; asked = None; left = bytes }

abbrev pub new_output : ℕ → OutputState
new_output room = record { is_open = false; asked = None; held = Some []; room = room }

-- four inputs, empty where none is given, four outputs and the report
abbrev pub new_memory : List (List ℕ) → ℕ → MemoryState
new_memory inputs room = record {
  inputs = new_input (slice_index_or inputs 0 [])
      ∷ new_input (slice_index_or inputs 1 [])
      ∷ new_input (slice_index_or inputs 2 [])
      ∷ new_input (slice_index_or inputs 3 [])
      ∷ [];
  outputs = replicate 4 (new_output room);
  report = new_output room;
}

abbrev pub input_at : MemoryState → ℕ → InputState
input_at memory n = slice_index_or memory.inputs n (new_input [])

-- no output, of which nothing is told
abbrev pub no_output : OutputState
no_output = record { is_open = false; asked = None; held = None; room = 0 }

abbrev pub output_at : MemoryState → ℕ → OutputState
output_at memory n = slice_index_or memory.outputs n no_output

abbrev pub is_open_of : MemoryState → Stream → Bool
is_open_of memory (Input n) = (input_at memory n).is_open
is_open_of memory (Output n) = (output_at memory n).is_open
is_open_of memory Report = false

abbrev pub asked_of : MemoryState → Stream → Option (List ℕ)
asked_of memory (Input n) = (input_at memory n).asked
asked_of memory (Output n) = (output_at memory n).asked
asked_of memory Report = None

abbrev pub left_of : MemoryState → Stream → Option (List ℕ)
left_of memory (Input n) = Some (input_at memory n).left
left_of memory (Output n) = None
left_of memory Report = None

abbrev pub held_of : MemoryState → Stream → Option (List ℕ)
held_of memory (Input n) = None
held_of memory (Output n) = (output_at memory n).held
held_of memory Report = memory.report.held

-- the writes aren't told, and no call fails
abbrev pub steady_moment : MemoryState → Moment
steady_moment memory = record {
  is_open = is_open_of memory;
  asked = asked_of memory;
  left = left_of memory;
  held = held_of memory;
  offers = λ stream. None;
  faults = λ kind stream. 0;
}

-- a name is told where it has at most 256 bytes
abbrev pub told_name : List ℕ → Option (List ℕ)
told_name name = if nat_le (length name) 256 then Some name else None

abbrev pub opened_input : InputState → List ℕ → InputState
opened_input input name = record input { is_open = true; asked = told_name name }

abbrev pub opened_output : OutputState → List ℕ → OutputState
opened_output output name = record output { is_open = true; asked = told_name name; held = Some [] }

abbrev pub read_input : InputState → ℕ → InputState
read_input input count = record input { left = drop count input.left }

-- the bytes and then the piece, where the room holds both
abbrev pub within_room : ℕ → List ℕ → List ℕ → Option (List ℕ)
within_room room piece bytes = if nat_le (length bytes + length piece) room then Some (bytes ++ piece) else None

-- a write beyond the room is taken, and from then on what the output holds isn't told
abbrev pub written_output : OutputState → List ℕ → OutputState
written_output output piece = record output { held = option_and_then (within_room output.room piece) output.held }

abbrev pub after_open : MemoryState → Stream → List ℕ → MemoryState
after_open memory (Input n) name =
    record memory { inputs = slice_set memory.inputs n (opened_input (input_at memory n) name) }
after_open memory (Output n) name =
    record memory { outputs = slice_set memory.outputs n (opened_output (output_at memory n) name) }
after_open memory Report name = memory

abbrev pub after_read : MemoryState → Stream → ℕ → MemoryState
after_read memory (Input n) count =
    record memory { inputs = slice_set memory.inputs n (read_input (input_at memory n) count) }
after_read memory (Output n) count = memory
after_read memory Report count = memory

abbrev pub after_write : MemoryState → Stream → List ℕ → MemoryState
after_write memory (Input n) piece = memory
after_write memory (Output n) piece =
    record memory { outputs = slice_set memory.outputs n (written_output (output_at memory n) piece) }
after_write memory Report piece = record memory { report = written_output memory.report piece }
