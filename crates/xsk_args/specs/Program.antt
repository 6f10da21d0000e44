-- Programs as the words of a command give them. This project's own.
use Rattle.std.specs.Prelude.{◌&&◌, ◌==◌, ℕ, List, [], ◌∷◌, codes, drop, length, nat_le, take, Option, Some, None, option_and_then, option_map, if◌then◌else◌}
use Rattle.std.specs.Char.{is_digit}
use Rattle.std.specs.List.{list_all, slice_split}
use Rattle.std.specs.Str.{bytes_eq}
use Rattle.std.specs.Str.Parse.{digits_value}
use Rattle.xsk_args.specs.Words.{Text}
use Rattle.xsk_args.specs.Number.{number_in}
use Rattle.xsk_args.specs.declared.program.Program.{Program}
use Rattle.xsk_args.specs.declared.program.Program.TheVariants.{Redirect, Pass, Drop, EtherType, Fixed, Bounce, BounceType}

-- four hexadecimal digits of either case, the highest first
abbrev pub ether_type_in : Text → Option ℕ
ether_type_in text = if (length text == 4) && list_all (λ c. is_digit c 16) text then Some (digits_value 16 text) else None

-- what stands behind a front, where the text has this front
abbrev pub behind : Text → Text → Option Text
behind front text = if bytes_eq (take (length front) text) front then Some (drop (length front) text) else None

abbrev pub fixed_in : Option Text → Option Program
fixed_in None = None
fixed_in (Some text) = option_map Fixed (number_in text)

-- `bounce:HHHH`, and else `fixed:N`
abbrev pub bouncing_in : Text → Option Text → Option Program
bouncing_in text None = fixed_in (behind (codes "fixed:") text)
bouncing_in text (Some kind) = option_map BounceType (ether_type_in kind)

-- `type:HHHH`, and else `bounce:HHHH` or `fixed:N`
abbrev pub valued_in : Text → Option Text → Option Program
valued_in text None = bouncing_in text (behind (codes "bounce:") text)
valued_in text (Some kind) = option_map EtherType (ether_type_in kind)

abbrev pub program_in : Text → Option Program
program_in text =
    if bytes_eq text (codes "redirect") then Some Redirect
    else if bytes_eq text (codes "pass") then Some Pass
    else if bytes_eq text (codes "drop") then Some Drop
    else if bytes_eq text (codes "bounce") then Some Bounce
    else valued_in text (behind (codes "type:") text)

-- the texts between the commas of a text: one more than it has commas
abbrev pub between_commas : Text → List Text
between_commas text = slice_split (λ code. code == 44) text

-- the programs that texts are, where each is one
abbrev pub programs_of : List Text → Option (List Program)
programs_of [] = Some []
programs_of (text ∷ texts) = option_and_then (λ program. option_map (λ programs. program ∷ programs) (programs_of texts)) (program_in text)

-- one to eight programs with commas between them, in the order in which they are asked
abbrev pub programs_in : Text → Option (List Program)
programs_in text = if nat_le (length (between_commas text)) 8 then programs_of (between_commas text) else None
