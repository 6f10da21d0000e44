use Rattle.std.proofs.Common.{refl}
use Rattle.xsk_c.proofs.state.State.statistics.Goals as goal

pub returns-in_default : goal.returns-in_default
returns-in_default c = record {
  none = λ gone. (refl, refl);
  told = λ seat at below.
      let no : ⊥ = cc (c.in_default.ensures.figures seat at) in
      absurd no;
}
