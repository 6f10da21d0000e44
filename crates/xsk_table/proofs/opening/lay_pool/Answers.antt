use Rattle.std.proofs.Common.{◌+◌, ◌*◌, ◌%◌, ◌^◌, ◌<◌, ◌∙◌, ap, subst}
use Rattle.xsk_umem.specs.Geometry.{base_of}
use Rattle.xsk_model.specs.Config.{pair_at}
use Rattle.xsk_table.proofs.Laying.{pooled_none, pooled_more, fill_word, fill_below}
use Rattle.xsk_table.proofs.opening.lay_pool.Goals as goal

pub loop-j-init : goal.loop-j-init
loop-j-init c = pooled_none c.args.config.now c.args.row.now c.args.first c.args.pair _ _ c.pairs.ensures.lawful c.requires.pair c.requires.wide (ap (λ n. n + 8) c.ring_base-base.ensures.value)
    (c.from.ensures ∙ ap (λ p. (c.args.first + p) % 2 ^ 32) c.pool-pool.ensures)

pub bounds-row-base-in-loop-j : goal.bounds-row-base-in-loop-j
bounds-row-base-in-loop-j c =
    fill_below c.args.config.now c.loop-j.row c.args.pair c.args.first c.loop-j.j _ c.pairs.ensures.lawful c.requires.pair (c.loop-j.invariant.0.0 ∙ c.requires.wide)
    (fill_word c.args.config.now c.args.pair c.ring_base-base.result _ c.args.first c.loop-j.j c.pairs.ensures.lawful c.requires.pair c.ring_base-base.ensures.value (ap (λ l. (pair_at l c.args.pair).fill) c.pairs.ensures.value))

pub loop-j-preserved : goal.loop-j-preserved
loop-j-preserved c =
    let word = fill_word c.args.config.now c.args.pair c.ring_base-base.result _ c.args.first c.loop-j.j c.pairs.ensures.lawful c.requires.pair c.ring_base-base.ensures.value (ap (λ l. (pair_at l c.args.pair).fill) c.pairs.ensures.value) in
    pooled_more c.args.config.now c.args.row.now c.loop-j.row c.args.first c.args.pair c.loop-j.j _ _ c.pairs.ensures.lawful c.requires.lawful c.requires.pair c.requires.wide
    (subst (λ n. c.loop-j.j < n) c.pool-pool.ensures c.loop-j-test.true) word
    (c.base_of.ensures ∙ ap (λ g. base_of g (c.args.pair * c.pool-pool.result + c.loop-j.j)) c.geometry.ensures.value ∙ ap (λ p. base_of c.args.config.now.geometry (c.args.pair * p + c.loop-j.j)) c.pool-pool.ensures)
    c.loop-j.invariant.0 c.loop-j.invariant.1 c.loop-j.invariant.2
