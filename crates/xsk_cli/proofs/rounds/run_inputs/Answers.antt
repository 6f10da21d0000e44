use Rattle.std.proofs.Common.{List, ℕ, map}
use Rattle.xsk_cli.specs.Steps.{written_in}
use Rattle.xsk_cli.proofs.Writing.{none_come, texts_come}
use Rattle.xsk_cli.proofs.rounds.run_inputs.Goals as goal

pub returns-in-Ok-clause-made : goal.returns-in-Ok-clause-made
returns-in-Ok-clause-made c =
    let bytes : List (List ℕ) = map (λ bytes. bytes.items) c.args.inputs.items in
    record {
      comes = texts_come c.args.work.now bytes (written_in c.in-Ok.ran.left.lists c.in-Ok.ran.texts) c.in-Ok.ensures.made;
      count = c.in-Ok.ensures.count;
      laid = c.in-Ok.ensures.laid;
    }

pub returns-in-Err-clause-unmade : goal.returns-in-Err-clause-unmade
returns-in-Err-clause-unmade c =
    let bytes : List (List ℕ) = map (λ bytes. bytes.items) c.args.inputs.items in
    none_come c.args.work.now bytes c.in-Err.failure c.in-Err.ensures.failed
