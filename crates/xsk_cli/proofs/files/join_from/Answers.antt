use Rattle.std.proofs.Common.{rules, ◌≡◌, ◌+◌, ◌<◌, ◌++◌, length, get_or, ap, ◌∙◌, arith}
use Rattle.xsk_cli.proofs.Filing.{join_more}
use Rattle.xsk_cli.proofs.files.join_from.Goals as goal

pub loop-place-preserved : goal.loop-place-preserved
loop-place-preserved c =
    let lists = c.args.lists.now in
    let place = c.loop-place.place in
    let list = c.index-lists-first.result in
    let below : c.args.first + place < length lists = omega (arith, c.requires.known, c.loop-place-test.true) in
    let at : list ≡ get_or lists (c.args.first + place) list = search rules in
    c.in_ok-append.ensures.packets ∙ ap (λ ps. ps ++ list.packets) c.loop-place.invariant ∙ join_more lists c.args.first place list list below at
