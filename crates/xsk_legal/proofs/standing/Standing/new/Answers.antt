use Rattle.std.proofs.Common.{rules, ◌≡◌, ap, ◌∙◌, replicate, None}
use Rattle.xsk_legal.specs.Noted.{Noted}
use Rattle.xsk_legal.proofs.Opening.{opened}
use Rattle.xsk_legal.proofs.standing.Standing.new.Goals as goal

pub returns-clause-stands : goal.returns-clause-stands
returns-clause-stands c =
    let places = c.in_ok-places.ensures.items_if_clones_equal (λ y e. e) ∙ ap (λ n. replicate n c.default.result) c.ring_places.ensures.value in
    let sources : c.in_ok-sources.sources.items ≡ replicate c.args.config.now.geometry.frames None = search rules in
    let kept : Noted = record { who = c.args.who; places = c.in_ok-places.places.items; sources = c.in_ok-sources.sources.items; queues = c.in_ok-queues.queues.items; marked = c.new.result } in
    let zero : c.default.result ≡ record { room = 0; held = 0 } = search rules in
    let who = c.requires in
    opened c.args.config.now kept c.default.result c.new.ensures zero who places sources c.in_ok-queues.ensures.length c.in_ok-queues.ensures.each
