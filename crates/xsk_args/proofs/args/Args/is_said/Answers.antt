use Rattle.std.proofs.Common.{◌∙◌, ap, sym, List, is_some}
use Rattle.clap.specs.Words.{found_of, rows_of}
use Rattle.xsk_args.specs.Words.{Said}
use Rattle.xsk_args.specs.Meaning.{under}
use Rattle.xsk_args.proofs.Reading.{told_so, under_rows}
use Rattle.xsk_args.proofs.args.Args.is_said.Goals as goal

pub returns : goal.returns
returns c = c.contains_id.ensures ∙ told_so (found_of c.self.inside.matches) c.args.option.now.name.now
    ∙ ap (λ o. is_some o) (sym (under_rows c.args.option.now.name.now (rows_of (found_of c.self.inside.matches))))
    ∙ ap (λ (said : List Said). is_some (under said c.args.option.now.name.now)) c.self.view_is
