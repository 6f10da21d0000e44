use Rattle.std.proofs.Common.{◌∙◌, ap, sym, List}
use Rattle.clap.specs.Words.{found_of, rows_of}
use Rattle.xsk_args.specs.Words.{Said}
use Rattle.xsk_args.specs.Meaning.{one_value, under}
use Rattle.xsk_args.proofs.Reading.{first_told, under_rows}
use Rattle.xsk_args.proofs.args.Args.text.Goals as goal

pub returns : goal.returns
returns c = first_told (found_of c.self.inside.matches) c.args.option.now.name.now _ c.get_str.ensures
    ∙ ap one_value (sym (under_rows c.args.option.now.name.now (rows_of (found_of c.self.inside.matches))))
    ∙ ap (λ (said : List Said). one_value (under said c.args.option.now.name.now)) c.self.view_is
