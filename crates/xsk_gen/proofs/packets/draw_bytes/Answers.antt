use Rattle.std.proofs.Common.{rules, ◌≡◌, ◌∙◌, ◌%◌, ap, ap₂, sym, arith, [], ◌∷◌, ◌++◌}
use Rattle.xsk_gen.specs.Generator.{draw, drawn, first, next_state, state_after}
use Rattle.xsk_gen.proofs.Firsts.{first_more, first_none}
use Rattle.xsk_gen.proofs.States.{after_more, after_none, draw_is}
use Rattle.xsk_gen.proofs.packets.draw_bytes.Goals as goal

pub loop-init : goal.loop-init
loop-init c = (c.new-bytes.ensures.items ∙ sym (first_none (λ i. draw c.args.draws.now.state i % 256)), sym (after_none c.args.draws.now.state))

pub loop-preserved : goal.loop-preserved
loop-preserved c =
    let x = c.args.draws.now.state in
    let items : c.push.new.self.items ≡ c.loop.bytes.items ++ (c.next.result % 256) ∷ [] = search rules in
    let state : c.next.new.self.state ≡ next_state (state_after c.loop.counter x) = c.next.ensures.state ∙ ap next_state c.loop.invariant.1 in
    let value : c.next.result ≡ draw x c.loop.counter = c.next.ensures.value ∙ ap drawn state ∙ sym (draw_is x c.loop.counter) in (
      items ∙ ap₂ (λ xs v. xs ++ (v % 256) ∷ []) c.loop.invariant.0 value ∙ sym (first_more c.loop.counter (λ i. draw x i % 256)),
      state ∙ sym (after_more c.loop.counter x),
    )

pub returns-clause-bytes : goal.returns-clause-bytes
returns-clause-bytes c =
    let all : c.loop.counter ≡ 12 = omega arith in
    c.loop.invariant.0 ∙ ap (λ n. first n (λ i. draw c.args.draws.now.state i % 256)) all

pub returns-clause-state : goal.returns-clause-state
returns-clause-state c =
    let all : c.loop.counter ≡ 12 = omega arith in
    c.loop.invariant.1 ∙ ap (λ n. state_after n c.args.draws.now.state) all
