use Rattle.std.proofs.Common.{ℕ, List, [], Some, None, length, ap, ◌∙◌}
use Rattle.std.specs.List.{concat, slice_index_or}
use Rattle.xsk_model.specs.Config.{pair_at}
use Rattle.xsk_model.specs.Steering.{paired_port}
use Rattle.xsk_laws.specs.Expected.{received}
use Rattle.xsk_machine.proofs.Beginning.{own_found, other_found, first_many, second_many, sum_of}
use Rattle.xsk_machine.proofs.begin.arrivals_at.Goals as goal

pub amount_of-requires : goal.amount_of-requires
amount_of-requires c = record {
  known = (own_found c.args.config.now c.args.packets.now c.args.pair c.args.inputs.now c.pairs.result.now c.index-packets-info.result c.pairs.ensures.lawful c.requires.regular c.requires.inputs
      c.requires.pair c.requires.lists c.pairs.ensures.value c.index-packets-info.is).known;
}

pub returns-in_err-own : goal.returns-in_err-own
returns-in_err-own c =
    let config = c.args.config.now in
    let lists = c.args.packets.now in
    let list = c.index-packets-info.result in
    let at = pair_at config.pairs c.args.pair in
    let own = own_found config lists c.args.pair c.args.inputs.now c.pairs.result.now list c.pairs.ensures.lawful c.requires.regular c.requires.inputs c.requires.pair c.requires.lists
    c.pairs.ensures.value c.index-packets-info.is in
    rw c.from_residual.ensures
    (first_many 4294967296 list list (received config lists at.port at.queue) (received config lists (paired_port at.port) at.queue) (slice_index_or c.args.inputs.now c.args.pair []) [] own c.in_err-own.ensures)

pub amount_of-requires-2 : goal.amount_of-requires-2
amount_of-requires-2 c = record {
  known = (other_found c.args.config.now c.args.packets.now c.args.pair c.args.inputs.now c.pairs.result.now c.paired_port-port.result c.driver_on-driver.result c.index-packets-port.result
      c.pairs.ensures.lawful c.requires.regular c.requires.inputs c.requires.pair c.requires.lists c.pairs.ensures.value c.paired_port-port.ensures c.driver_on-driver.ensures.value
      c.index-packets-port.is).known;
}

pub returns-in_err-there : goal.returns-in_err-there
returns-in_err-there c =
    let config = c.args.config.now in
    let lists = c.args.packets.now in
    let list = c.index-packets-info.result in
    let list_there = c.index-packets-port.result in
    let at = pair_at config.pairs c.args.pair in
    let own = own_found config lists c.args.pair c.args.inputs.now c.pairs.result.now list c.pairs.ensures.lawful c.requires.regular c.requires.inputs c.requires.pair c.requires.lists
    c.pairs.ensures.value c.index-packets-info.is in
    let other = other_found config lists c.args.pair c.args.inputs.now c.pairs.result.now c.paired_port-port.result c.driver_on-driver.result list_there c.pairs.ensures.lawful
    c.requires.regular c.requires.inputs c.requires.pair c.requires.lists c.pairs.ensures.value c.paired_port-port.ensures c.driver_on-driver.ensures.value c.index-packets-port.is in
    rw c.from_residual-in_err-there.ensures
    (second_many 4294967296 list list_there (received config lists at.port at.queue) (received config lists (paired_port at.port) at.queue) (slice_index_or c.args.inputs.now c.args.pair [])
    (slice_index_or c.args.inputs.now c.driver_on-driver.result []) own other c.in_err-there.ensures)

pub returns-in_err-by_both : goal.returns-in_err-by_both
returns-in_err-by_both c =
    let config = c.args.config.now in
    let lists = c.args.packets.now in
    let list = c.index-packets-info.result in
    let list_there = c.index-packets-port.result in
    let at = pair_at config.pairs c.args.pair in
    let own = own_found config lists c.args.pair c.args.inputs.now c.pairs.result.now list c.pairs.ensures.lawful c.requires.regular c.requires.inputs c.requires.pair c.requires.lists
    c.pairs.ensures.value c.index-packets-info.is in
    let there = other_found config lists c.args.pair c.args.inputs.now c.pairs.result.now c.paired_port-port.result c.driver_on-driver.result list_there c.pairs.ensures.lawful
    c.requires.regular c.requires.inputs c.requires.pair c.requires.lists c.pairs.ensures.value c.paired_port-port.ensures c.driver_on-driver.ensures.value c.index-packets-port.is in
    rw c.from_residual-in_err-by_both.ensures
    (sum_of 4294967296 list list_there (received config lists at.port at.queue) (received config lists (paired_port at.port) at.queue) (slice_index_or c.args.inputs.now c.args.pair [])
    (slice_index_or c.args.inputs.now c.driver_on-driver.result []) own there c.in_ok-own.own c.in_ok-there.there None c.in_ok-own.ensures c.in_ok-there.ensures c.in_err-by_both.ensures)

pub returns : goal.returns
returns c =
    let config = c.args.config.now in
    let lists = c.args.packets.now in
    let list = c.index-packets-info.result in
    let list_there = c.index-packets-port.result in
    let at = pair_at config.pairs c.args.pair in
    let own = own_found config lists c.args.pair c.args.inputs.now c.pairs.result.now list c.pairs.ensures.lawful c.requires.regular c.requires.inputs c.requires.pair c.requires.lists
    c.pairs.ensures.value c.index-packets-info.is in
    let there = other_found config lists c.args.pair c.args.inputs.now c.pairs.result.now c.paired_port-port.result c.driver_on-driver.result list_there c.pairs.ensures.lawful
    c.requires.regular c.requires.inputs c.requires.pair c.requires.lists c.pairs.ensures.value c.paired_port-port.ensures c.driver_on-driver.ensures.value c.index-packets-port.is in (
      sum_of 4294967296 list list_there (received config lists at.port at.queue) (received config lists (paired_port at.port) at.queue) (slice_index_or c.args.inputs.now c.args.pair [])
          (slice_index_or c.args.inputs.now c.driver_on-driver.result []) own there c.in_ok-own.own c.in_ok-there.there (Some c.in_ok-by_both.by_both) c.in_ok-own.ensures c.in_ok-there.ensures c.in_ok-by_both.ensures,
      (c.in_ok-there.ensures.0 ∙ there.count, c.in_ok-there.ensures.1 ∙ ap (λ (ps : List (List ℕ)). length (concat ps)) there.is),
    )
