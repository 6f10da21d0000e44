-- Numbers as the words of a command give them. This project's own.
use Rattle.std.specs.Prelude.{◌&&◌, ℕ, length, Option, Some, None, nat_lt, if◌then◌else◌}
use Rattle.std.specs.Str.{all_ascii_digits}
use Rattle.std.specs.Str.Parse.{digits_value}
use Rattle.xsk_args.specs.Words.{Text}

-- one to ten decimal digits, of a value below 2^32
abbrev pub number_in : Text → Option ℕ
number_in text =
    if all_ascii_digits text && (nat_lt (length text) 11 && (nat_lt 0 (length text) && nat_lt (digits_value 10 text) 4294967296))
    then Some (digits_value 10 text)
    else None
