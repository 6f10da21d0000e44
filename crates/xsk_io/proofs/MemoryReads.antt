-- A read of an input in memory gives the bytes that it takes, and none only at the end.
use Rattle.std.proofs.Common.{◌≡◌, ℕ, ◌<◌, min, List, [], Some, Result, Ok, Err, length, take, drop, sym, ap, get_or-set_same, arith}
use Rattle.std.specs.Prelude.{IfSome, IfOk, OnOk}
use Rattle.std.proofs.lemmas.List.{take-append-drop, nil_from_length}
use Rattle.std.specs.Io.KnownBytes.{prepend_known, IsAtEnd}
use Rattle.xsk_io.specs.declared.bay.BayFailed.{BayFailed}
use Rattle.xsk_io.specs.declared.bay.Stream.{Stream}
use Rattle.xsk_io.specs.declared.bay.Stream.TheVariants.{Input, Output, Report}
use Rattle.xsk_io.specs.Bay.{HasNumber, IsInput}
use Rattle.xsk_io.specs.Memory.{MemoryState, HasStreams, new_input, input_at, read_input, left_of, after_read}

-- the input that was read has lost its front
left-after_read : (memory : MemoryState) (n count : ℕ) → n < 4 → HasStreams memory
    → (input_at (after_read memory (Input n) count) n).left ≡ drop count (input_at memory n).left
left-after_read memory n count below four =
    let within : n < length memory.inputs = omega (arith, four.four_inputs) in
    ap (λ input. input.left) (get_or-set_same memory.inputs n (read_input (input_at memory n) count) (new_input []) within)

pub bytes_come : (memory after : MemoryState) (stream : Stream) (result : Result ℕ BayFailed) (buf : List ℕ)
    → HasNumber stream → IsInput stream → OnOk result (HasStreams memory)
    → IfSome (left_of memory stream) (λ left. IfOk result (λ count. take count buf ≡ take count left))
    → IfOk result (λ count. after ≡ after_read memory stream count)
    → IfOk result (λ count. left_of memory stream ≡ prepend_known (take count buf) (left_of after stream))
bytes_come memory after (Input n) (Ok count) buf below input four front is =
    rw (is, left-after_read memory n count below four, front) (ap Some (sym (take-append-drop count (input_at memory n).left)))
bytes_come memory after (Output n) (Ok count) buf below input four front is = absurd input
bytes_come memory after Report (Ok count) buf below input four front is = absurd input
bytes_come memory after stream (Err failed) buf below input four front is = tt

pub none_at_end : (memory : MemoryState) (stream : Stream) (result : Result ℕ BayFailed) (room : ℕ)
    → IsInput stream
    → IfSome (left_of memory stream) (λ left. result ≡ Ok (min room (length left)))
    → IfOk result (λ count. count ≡ 0 → 0 < room → IsAtEnd (left_of memory stream))
none_at_end memory (Input n) result room input is =
    rw is (λ none some. nil_from_length (input_at memory n).left (omega arith))
none_at_end memory (Output n) result room input is = absurd input
none_at_end memory Report result room input is = absurd input

pub none_at_end_of : (memory : MemoryState) (stream : Stream) (result : Result ℕ BayFailed) (room : ℕ)
    → IsInput stream
    → IfSome (left_of memory stream) (λ left. IfOk result (λ count. count ≡ min room (length left)))
    → IfOk result (λ count. count ≡ 0 → 0 < room → IsAtEnd (left_of memory stream))
none_at_end_of memory (Input n) (Ok count) room input is =
    λ none some. nil_from_length (input_at memory n).left (omega (arith, is))
none_at_end_of memory stream (Err failed) room input is = tt
none_at_end_of memory (Output n) result room input is = absurd input
none_at_end_of memory Report result room input is = absurd input
