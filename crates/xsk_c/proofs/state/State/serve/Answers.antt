use Rattle.std.proofs.Common.{Err, inl, subst}
use Rattle.xsk_model.specs.Asks.{joined_call}
use Rattle.xsk_model.specs.Rings.{caller_of}
use Rattle.xsk_bench.specs.Serving.{TellsWhy}
use Rattle.xsk_bench.specs.declared.bench.Unserved.{Unserved}
use Rattle.xsk_c.proofs.state.State.serve.Goals as goal

pub returns-in-Err-Illegal-clause-called : goal.returns-in-Err-Illegal-clause-called
returns-in-Err-Illegal-clause-called c =
    let engine = c.args.self.now.bench.checked in
    let call = joined_call c.args.ask c.args.self.now.items in (
      λ s frames h played. (c.in-Err-Illegal.ensures.served s frames h played).2,
      inl (
        c.in-Err-Illegal.why,
        c.number_of_condition.ensures,
        subst (λ (e : Unserved). TellsWhy engine (caller_of engine.config c.args.app) call (Err e)) c.in-Err-Illegal.field-0-is c.in-Err-Illegal.ensures.why,
      ),
    )
