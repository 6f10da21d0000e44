use Rattle.std.proofs.Common.{◌∙◌, ap, sym, List, codes}
use Rattle.clap.specs.Words.{found_of, rows_of}
use Rattle.xsk_args.specs.Words.{Said}
use Rattle.xsk_args.specs.Meaning.{under}
use Rattle.xsk_args.proofs.Reading.{all_told, under_rows}
use Rattle.xsk_args.proofs.args.Args.files.Goals as goal

pub returns : goal.returns
returns c = all_told (found_of c.self.inside.matches) (codes "FILE") _ c.get_strs.ensures
    ∙ sym (under_rows (codes "FILE") (rows_of (found_of c.self.inside.matches)))
    ∙ ap (λ (said : List Said). under said (codes "FILE")) c.self.view_is
