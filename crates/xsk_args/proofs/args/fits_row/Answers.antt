use Rattle.std.proofs.Common.{◌∙◌, Some, None}
use Rattle.clap.specs.Words.{all_of, found_of, rows_of}
use Rattle.xsk_args.proofs.Reading.{first_told, fits_said}
use Rattle.xsk_args.proofs.args.fits_row.Goals as goal

pub returns-in-Some : goal.returns-in-Some
returns-in-Some c =
    c.takes_text.ensures
    ∙ fits_said (λ name. all_of name (rows_of (found_of c.args.matches.now))) c.args.row (Some c.in-Some.text.now)
    (first_told (found_of c.args.matches.now) c.args.row.name.now (Some c.in-Some.text.now) c.in-Some.ensures)

pub returns-in-None : goal.returns-in-None
returns-in-None c =
    fits_said (λ name. all_of name (rows_of (found_of c.args.matches.now))) c.args.row None
    (first_told (found_of c.args.matches.now) c.args.row.name.now None c.in-None.ensures)
