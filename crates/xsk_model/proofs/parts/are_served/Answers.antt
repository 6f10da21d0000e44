use Rattle.std.proofs.Common.{rules, ◌≡◌, inl, inr, arith}
use Rattle.std.proofs.lemmas.Bool.{cases_lt}
use Rattle.std.proofs.lemmas.List.{get_or_default}
use Rattle.xsk_model.specs.declared.config.PairInfo.{PairInfo}
use Rattle.xsk_model.proofs.parts.are_served.Goals as goal

pub loop-k-preserved : goal.loop-k-preserved
loop-k-preserved c = λ i none first.
    elim (cases_lt i c.loop-k.k) [
      | inl before ↦ c.loop-k.invariant i none before
      | inr behind ↦
          let same : i ≡ c.loop-k.k = omega arith in
          let nobody : PairInfo = record { port = 0; queue = 0; fill = 0; comp = 0 } in
          rw (same, get_or_default c.args.pairs.now c.loop-k.k none nobody (search rules)) (c.is_served.ensures.0 (search rules))
    ]
