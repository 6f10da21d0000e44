use Rattle.std.proofs.Common.{◌≡◌, drop}
use Rattle.xsk_lines.specs.Reading.{digits_from}
use Rattle.xsk_lines.proofs.numbers.number.Given as goal

abbrev pub invariant-digits : goal.invariant-digits
invariant-digits l = digits_from 0 0 l.text ≡ digits_from l.value l.i (drop l.i l.text)
