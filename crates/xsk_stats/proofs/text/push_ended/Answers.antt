use Rattle.xsk_stats.proofs.Lines.{line_after}
use Rattle.xsk_stats.proofs.text.push_ended.Goals as goal

pub returns : goal.returns
returns c before piece is =
    let numbers = c.args.numbers.now in
    line_after before piece c.args.end.now _ _ _ numbers is c.in_ok-push_numbers.ensures c.in_ok-push_str.ensures.bytes
