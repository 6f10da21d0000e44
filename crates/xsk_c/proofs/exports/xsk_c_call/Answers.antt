use Rattle.std.proofs.Common.{◌≡◌, rules, subst}
use Rattle.xsk_model.specs.declared.call.Call.{Call}
use Rattle.xsk_c.specs.Calls.{Makes}
use Rattle.xsk_c.specs.Live.{OnCall}
use Rattle.xsk_c.specs.declared.state.State.{State}
use Rattle.xsk_c.proofs.exports.xsk_c_call.Goals as goal

pub returns : goal.returns
returns c =
    let old = c.args.handle.now.state in
    let new = c.put.new.self.state in
    let made = c.make-answer in
    let told = c.args.told.now in
    let before : c.deref_mut.result.now ≡ old = search rules in
    let after : made.new.self ≡ new = search rules in
    let from_here : OnCall c.args.asked.now old made.new.self made.result (made.new.told ≡ told) (λ (call : Call). Makes old made.new.self c.args.app call told made.new.told made.result) =
    subst (λ (s : State). OnCall c.args.asked.now s made.new.self made.result (made.new.told ≡ told) (λ (call : Call). Makes s made.new.self c.args.app call told made.new.told made.result)) before made.ensures in
    record {
      shut = λ off.
          let no : ⊥ = cc (off, c.in-Some.ensures.1) in
          absurd no;
      stays = λ on. c.put.ensures.0;
      done = λ on.
          subst (λ (s : State). OnCall c.args.asked.now old s made.result (made.new.told ≡ told) (λ (call : Call). Makes old s c.args.app call told made.new.told made.result)) after from_here;
    }
