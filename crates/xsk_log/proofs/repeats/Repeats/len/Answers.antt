use Rattle.std.proofs.Common.{length, sym, ap, rules, ◌≡◌, ◌∙◌}
use Rattle.xsk_log.proofs.Places.{length-values}
use Rattle.xsk_log.proofs.repeats.Repeats.len.Goals as goal

pub returns : goal.returns
returns g c =
    let count : c.len.result ≡ length c.self.inside.places.items = search rules in
    count ∙ sym (length-values c.self.inside.values.items c.self.inside.places.items c.self.invariant.0) ∙ ap (λ list. length list.items) c.self.view_is
