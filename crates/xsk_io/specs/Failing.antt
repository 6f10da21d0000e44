-- Streams in memory of which stated calls fail. This project's own.
use Rattle.std.specs.Prelude.{ℕ, ◌+◌, ◌-◌, ◌^◌, ◌==◌, Bool, true, false, nat_lt, List, [], ◌∷◌, ◌++◌, Option, None, Some, filter, length, min, option_and_then, option_map, slice_index_or, slice_set, if◌then◌else◌}
use Rattle.std.specs.List.{list_any}
use Rattle.xsk_io.specs.declared.bay.Stream.{Stream}
use Rattle.xsk_io.specs.declared.bay.Stream.TheVariants.{Input, Output, Report}
use Rattle.xsk_io.specs.declared.bay.Offer.{Offer}
use Rattle.xsk_io.specs.declared.bay.Kind.{Kind}
use Rattle.xsk_io.specs.declared.bay.Kind.TheVariants.{Open, Read, Write}
use Rattle.xsk_io.specs.declared.failing.Fail.{Fail}
use Rattle.xsk_io.specs.declared.failing.Fail.TheVariants.{Open as FailOpen, Read as FailRead, Write as FailWrite}
use Rattle.xsk_io.specs.Bay.{Moment}
use Rattle.xsk_io.specs.Files.{StreamCounts, no_counts, count_of}
use Rattle.xsk_io.specs.Memory.{MemoryState, new_memory, input_at, output_at, is_open_of, asked_of, left_of, held_of, told_name, after_open}

-- the calls of one kind so far, and how many of them failed on each stream
pub record Calls : Type 0 where
  pub made : ℕ
  pub faults : StreamCounts

abbrev pub no_calls : Calls
no_calls = record { made = 0; faults = no_counts }

-- which calls are to fail, how many bytes a write takes at most, where that is limited, and the writes so far, where they are
-- told
pub record FailingState : Type 0 where
  pub memory : MemoryState
  pub fails : List Fail
  pub opens : Calls
  pub reads : Calls
  pub writes : Calls
  pub most : Option ℕ
  pub offers : Option (List Offer)

abbrev pub new_failing : List (List ℕ) → ℕ → List Fail → FailingState
new_failing inputs room fails = record {
  memory = new_memory inputs room;
  fails = fails;
  opens = no_calls;
  reads = no_calls;
  writes = no_calls;
  most = None;
  offers = Some [];
}

abbrev pub calls_of : FailingState → Kind → Calls
calls_of bay Open = bay.opens
calls_of bay Read = bay.reads
calls_of bay Write = bay.writes

abbrev pub faults_of : FailingState → Kind → Stream → ℕ
faults_of bay kind = count_of (calls_of bay kind).faults

-- the call of this kind with this number, counted from 1, is to fail
abbrev pub is_fail : Kind → ℕ → Fail → Bool
is_fail Open number (FailOpen n) = n == number
is_fail Open number (FailRead n) = false
is_fail Open number (FailWrite n) = false
is_fail Read number (FailOpen n) = false
is_fail Read number (FailRead n) = n == number
is_fail Read number (FailWrite n) = false
is_fail Write number (FailOpen n) = false
is_fail Write number (FailRead n) = false
is_fail Write number (FailWrite n) = n == number

-- a count that stands at 2^64 - 1 stays there
abbrev pub one_more : ℕ → ℕ
one_more n = min (n + 1) (2 ^ 64 - 1)

-- the next call of a kind is to fail
abbrev pub is_next_failing : FailingState → Kind → Bool
is_next_failing bay kind = list_any (is_fail kind (one_more (calls_of bay kind).made)) bay.fails

abbrev pub risen : StreamCounts → Stream → StreamCounts
risen counts (Input n) = record counts { inputs = slice_set counts.inputs n (one_more (slice_index_or counts.inputs n 0)) }
risen counts (Output n) = record counts { outputs = slice_set counts.outputs n (one_more (slice_index_or counts.outputs n 0)) }
risen counts Report = record counts { report = one_more counts.report }

abbrev pub counted : Calls → Stream → Bool → Calls
counted calls stream failed = record {
  made = one_more calls.made;
  faults = if failed then risen calls.faults stream else calls.faults;
}

abbrev pub begun : FailingState → Kind → Stream → FailingState
begun bay Open stream = record bay { opens = counted bay.opens stream (is_next_failing bay Open) }
begun bay Read stream = record bay { reads = counted bay.reads stream (is_next_failing bay Read) }
begun bay Write stream = record bay { writes = counted bay.writes stream (is_next_failing bay Write) }

-- an open that fails leaves its name
abbrev pub after_refusal : MemoryState → Stream → List ℕ → MemoryState
after_refusal memory (Input n) name =
    record memory { inputs = slice_set memory.inputs n (record (input_at memory n) { asked = told_name name }) }
after_refusal memory (Output n) name =
    record memory { outputs = slice_set memory.outputs n (record (output_at memory n) { asked = told_name name }) }
after_refusal memory Report name = memory

abbrev pub opened : FailingState → Stream → List ℕ → FailingState
opened bay stream name = record (begun bay Open stream) {
  memory = if is_next_failing bay Open then after_refusal bay.memory stream name else after_open bay.memory stream name;
}

-- the bytes that a write takes of a piece
abbrev pub taken_of : Option ℕ → ℕ → ℕ
taken_of None len = len
taken_of (Some most) len = min most len

-- at most 1,024 writes are told
abbrev pub noted : Option (List Offer) → Offer → Option (List Offer)
noted offers offer = option_and_then (λ before. if nat_lt (length before) 1024 then Some (before ++ offer ∷ []) else None) offers

abbrev pub is_stream : Stream → Stream → Bool
is_stream (Input n) (Input m) = n == m
is_stream (Output n) (Output m) = n == m
is_stream Report Report = true
is_stream _ _ = false

-- the write was to this stream
abbrev pub is_to : Stream → Offer → Bool
is_to stream offer = is_stream stream offer.stream

abbrev pub failing_moment : FailingState → Moment
failing_moment bay = record {
  is_open = is_open_of bay.memory;
  asked = asked_of bay.memory;
  left = left_of bay.memory;
  held = held_of bay.memory;
  offers = λ stream. option_map (filter (is_to stream)) bay.offers;
  faults = faults_of bay;
}
