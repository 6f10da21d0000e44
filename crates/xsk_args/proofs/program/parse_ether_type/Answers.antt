use Rattle.std.proofs.Common.{rules, ◌≡◌, ◌∙◌, refl, length, true}
use Rattle.std.specs.Char.{is_digit}
use Rattle.std.specs.List.{list_all}
use Rattle.xsk_args.proofs.Programs.{kind_read}
use Rattle.xsk_args.proofs.program.parse_ether_type.Goals as goal

pub returns : goal.returns
returns c =
    let digits : list_all (λ c. is_digit c 16) c.args.text.now ≡ true = search rules in
    let four : length c.args.text.now ≡ 4 = search rules in
    c.ok.ensures.value ∙ kind_read c.args.text.now c.from_str_radix.result c.from_str_radix.ensures.value digits four ∙ rw (four, digits) refl
