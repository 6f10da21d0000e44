use Rattle.std.proofs.Common.{rules, ◌≡◌, ◌∙◌, ◌+◌, ◌%◌, ap, ap₂, sym, arith, [], ◌∷◌, ◌++◌}
use Rattle.xsk_gen.specs.Generator.{byte_at, draw, drawn, first, state_after}
use Rattle.xsk_gen.proofs.Firsts.{counted, first_more, front}
use Rattle.xsk_gen.proofs.States.{after_next, first_draw}
use Rattle.xsk_gen.proofs.packets.make_packet.Goals as goal

pub loop-place-init : goal.loop-place-init
loop-place-init c =
    let x = c.args.draws.now.state in
    let items : c.extend_from_slice.new.self.items ≡ c.in_ok-bytes.bytes.items ++ c.kind.result = search rules in (
      items
          ∙ ap₂ (λ xs ys. xs ++ ys) (c.in_ok-bytes.ensures.bytes ∙ ap (λ s. first 12 (λ i. draw s i % 256)) c.next.ensures.state) c.kind.ensures
          ∙ front c.args.index x,
      omega arith,
    )

pub loop-place-preserved : goal.loop-place-preserved
loop-place-preserved c =
    let x = c.args.draws.now.state in
    let items : c.push.new.self.items ≡ c.loop-place.bytes.items ++ ((c.loop-place.place + c.args.index) % 256) ∷ [] = search rules in (
      items
          ∙ ap₂ (λ xs v. xs ++ v ∷ []) c.loop-place.invariant.0 (sym (counted c.args.index x c.loop-place.place c.loop-place.invariant.1))
          ∙ sym (first_more c.loop-place.place (byte_at c.args.index x)),
      omega (arith, c.loop-place.invariant.1),
    )

pub returns-clause-bytes : goal.returns-clause-bytes
returns-clause-bytes c =
    let x = c.args.draws.now.state in
    let drawn_first : c.next.result ≡ draw x 0 = c.next.ensures.value ∙ ap drawn c.next.ensures.state ∙ sym (first_draw x) in
    let all : c.loop-place.place ≡ 60 + c.next.result % 1455 = omega arith in
    c.loop-place.invariant.0 ∙ ap (λ n. first n (byte_at c.args.index x)) (all ∙ ap (λ v. 60 + v % 1455) drawn_first)

pub returns-clause-state : goal.returns-clause-state
returns-clause-state c = c.in_ok-bytes.ensures.state ∙ ap (state_after 12) c.next.ensures.state ∙ after_next 12 c.args.draws.now.state
