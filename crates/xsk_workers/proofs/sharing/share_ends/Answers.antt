use Rattle.std.proofs.Common.{◌≤◌, length, [], ◌∷◌, arith, length-append, ap, vec_len, vec_capacity}
use Rattle.xsk_workers.proofs.Dealt.{all_dealt, count_dealt}
use Rattle.xsk_workers.proofs.sharing.share_ends.Goals as goal

pub take_last-own-requires : goal.take_last-own-requires
take_last-own-requires g c =
    let lock = c.in-Ok-new.made.0 in
    omega (arith, count_dealt lock c.in-Ok-new.made.1.items c.in-Ok-new.ensures.ok.2, c.in-Ok-new.ensures.ok.1)

pub run_all-hand-requires-clause-all : goal.run_all-hand-requires-clause-all
run_all-hand-requires-clause-all g c κs within =
    all_dealt c.in-Ok-new.made.0 c.in-Ok-new.made.1.items c.take_last-own.new.row.items c.take_last-own.result c.in-Ok-new.ensures.ok.2 c.take_last-own.ensures

pub run_all-hand-requires-clause-room : goal.run_all-hand-requires-clause-room
run_all-hand-requires-clause-room g c κs within =
    let lock = c.in-Ok-new.made.0 in
    let row = c.in-Ok-new.made.1.items in
    let left = c.take_last-own.new.row.items in
    let few : vec_len c.take_last-own.new.row ≤ vec_capacity c.in-Ok.handles =
    omega (arith, count_dealt lock row c.in-Ok-new.ensures.ok.2, c.in-Ok-new.ensures.ok.1, length-append left (c.take_last-own.result ∷ []), ap length c.take_last-own.ensures, c.in-Ok.ensures.capacity) in
    (c.in-Ok.ensures.items, few)
