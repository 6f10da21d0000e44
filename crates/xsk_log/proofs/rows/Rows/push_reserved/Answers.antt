use Rattle.std.proofs.Common.{◌∷◌, [], ◌++◌, ap, ◌∙◌}
use Rattle.xsk_log.proofs.RowPlaces.{rows-push}
use Rattle.xsk_log.proofs.rows.Rows.push_reserved.Goals as goal

pub returns-clause-items : goal.returns-clause-items
returns-clause-items c =
    rows-push c.self.inside.apart.items c.number_of-code.new.apart.items c.self.inside.codes.items c.push_reserved.new.self.items c.number_of-code.result c.args.row.now
    c.number_of-code.ensures.kept c.number_of-code.ensures.row c.push_reserved.ensures.items c.self.invariant.0
    ∙ ap (λ list. list.items ++ c.args.row.now ∷ []) c.self.view_is
