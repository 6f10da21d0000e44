use Rattle.std.proofs.Common.{◌≡◌, drop}
use Rattle.std.specs.Char.{is_digit}
use Rattle.std.specs.List.{list_all}
use Rattle.xsk_args.proofs.program.has_hexadecimal_digits_only.Given as goal

abbrev pub invariant-loop-byte : goal.invariant-loop-byte
invariant-loop-byte l = list_all (λ c. is_digit c 16) (drop l.byte-index l.fn.text) ≡ list_all (λ c. is_digit c 16) l.fn.text
