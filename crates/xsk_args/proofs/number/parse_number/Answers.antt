use Rattle.std.proofs.Common.{rules, ◌≡◌, ◌∙◌, ◌<◌, length, true, arith}
use Rattle.std.specs.Str.{all_ascii_digits}
use Rattle.xsk_args.proofs.Reading.{number_read}
use Rattle.xsk_args.proofs.number.parse_number.Goals as goal

pub returns : goal.returns
returns c =
    let digits : all_ascii_digits c.args.text.now ≡ true = search rules in
    let short : length c.args.text.now < 11 = omega arith in
    c.ok.ensures.value ∙ number_read c.args.text.now c.parse.result c.parse.ensures.value.0 digits short
