use Rattle.std.proofs.Common.{rules, ◌≡◌, ◌∙◌, ap, ap₂, sym, arith, [], ◌∷◌, ◌++◌}
use Rattle.xsk_umem.specs.PacketList.{PacketList}
use Rattle.xsk_gen.specs.Generator.{first, first_state, packet, packet_at, state_after}
use Rattle.xsk_gen.proofs.Firsts.{first_more, first_none}
use Rattle.xsk_gen.proofs.States.{after_none, after_packet}
use Rattle.xsk_gen.proofs.packets.generate.Goals as goal

pub loop-index-init : goal.loop-index-init
loop-index-init c = (
  ap (λ (list : PacketList). list.packets) c.new-list.ensures ∙ sym (first_none (packet c.args.number c.args.port)),
  c.new-draws.ensures ∙ sym (after_none (first_state c.args.number c.args.port)),
)

pub loop-index-preserved : goal.loop-index-preserved
loop-index-preserved c =
    let i = c.loop-index.index in
    let start = first_state c.args.number c.args.port in
    let pushed : c.push.new.self.packets ≡ c.loop-index.list.packets ++ c.in_ok-bytes.bytes.items ∷ [] = search rules in (
      pushed
          ∙ ap₂ (λ xs bytes. xs ++ bytes ∷ []) c.loop-index.invariant.0 (c.in_ok-bytes.ensures.bytes ∙ ap (packet_at i) c.loop-index.invariant.1)
          ∙ sym (first_more i (packet c.args.number c.args.port)),
      c.in_ok-bytes.ensures.state ∙ ap (state_after 13) c.loop-index.invariant.1 ∙ after_packet i start,
    )

pub returns : goal.returns
returns c =
    let all : c.loop-index.index ≡ 2000 = omega arith in
    c.loop-index.invariant.0 ∙ ap (λ n. first n (packet c.args.number c.args.port)) all
