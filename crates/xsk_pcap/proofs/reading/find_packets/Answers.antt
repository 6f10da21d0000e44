use Rattle.std.proofs.Common.{◌≡◌, ◌+◌, ◌-◌, length, drop, refl, sym, ◌∙◌, arith, inr}
use Rattle.std.proofs.lemmas.Bool.{eqb-true}
use Rattle.std.proofs.lemmas.List.{take_rest, length-drop}
use Rattle.xsk_pcap.proofs.Grammar.{begins_header}
use Rattle.xsk_pcap.proofs.Loops.{Finding-none, Finding-more, Finding-capture, Finding-done}
use Rattle.xsk_pcap.proofs.reading.find_packets.Goals as goal

pub loop-rest-init : goal.loop-rest-init
loop-rest-init c =
    let bytes = c.args.bytes.now in
    let begins = begins_header c.args.order bytes c.requires (λ i. omega (arith, c.type_inv.bytes i)) in
    rw (take_rest bytes 24, c.new-spans.ensures.items) (Finding-none c.args.order bytes (drop 24 bytes) begins (omega (arith, length-drop 24 bytes)))

pub loop-rest-preserved : goal.loop-rest-preserved
loop-rest-preserved c =
    let f = c.loop-rest.invariant in
    let at : length c.args.bytes.now - length c.loop-rest.rest.now + length c.loop-rest.rest.now ≡ length c.args.bytes.now = omega (arith, f.behind) in
    let kept = rw c.is_err-lacks_room.ensures.negation at c.push.ensures.items in
    Finding-more c.args.order c.args.bytes.now c.loop-rest.rest.now c.in_ok-packet.packet.now c.in_ok-packet.after.now _ c.loop-rest.lacks_room c.is_err-lacks_room.result c.loop-rest.spans.items c.push.new.self.items _
    f c.in_ok-packet.ensures.split at refl refl kept

pub returns-then-lacks_room-clause-cause : goal.returns-then-lacks_room-clause-cause
returns-then-lacks_room-clause-cause c =
    let f = c.loop-rest.invariant in
    let none = eqb-true _ 0 (sym c.is_empty.ensures ∙ c.loop-rest-test.false) in
    inr (refl, f.packets, Finding-capture c.args.order c.args.bytes.now c.loop-rest.rest.now c.loop-rest.lacks_room c.loop-rest.spans.items f none)

pub returns-clause-found : goal.returns-clause-found
returns-clause-found c =
    let none = eqb-true _ 0 (sym c.is_empty.ensures ∙ c.loop-rest-test.false) in
    Finding-done c.args.order c.args.bytes.now c.loop-rest.rest.now c.loop-rest.lacks_room c.loop-rest.spans.items c.loop-rest.invariant c.if-lacks_room.false none
