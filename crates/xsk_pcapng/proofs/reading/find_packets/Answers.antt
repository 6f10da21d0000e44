use Rattle.std.proofs.Common.{◌≡◌, ◌+◌, ◌-◌, length, refl, sym, ◌∙◌, arith, inr}
use Rattle.std.proofs.lemmas.Bool.{eqb-true}
use Rattle.std.proofs.lemmas.Result.{err_from_is_err_and}
use Rattle.xsk_pcapng.specs.Blocks.{arrivals_in}
use Rattle.xsk_pcapng.specs.Pcapng.{lists_of}
use Rattle.xsk_pcapng.proofs.Walk.{Walking-within, Walking-other, Walking-interface, Walking-packet, Walking-file, Walking-done, content_cause}
use Rattle.xsk_pcapng.proofs.reading.find_packets.Goals as goal

pub returns-in_err-check_block-clause-cause : goal.returns-in_err-check_block-clause-cause
returns-in_err-check_block-clause-cause c =
    let bytes = c.args.bytes.now in
    let rest = c.loop-rest.rest.now in
    let within = Walking-within c.args.order c.args.ports bytes rest c.loop-rest.lacks_room c.loop-rest.interfaces c.loop-rest.found.items c.loop-rest.invariant in
    let at : length bytes - length rest + length rest ≡ length bytes = omega (arith, within) in
    let p = err_from_is_err_and c.from_residual-in_err-check_block.result c.from_residual-in_err-check_block.ensures.1 in
    rw (p.1, p.2) (
    content_cause c.args.order c.args.ports bytes rest c.loop-rest.lacks_room c.loop-rest.interfaces _ c.loop-rest.found.items c.in_ok-block.block.now c.in_ok-block.after.now _
    c.loop-rest.invariant at c.in_ok-block.ensures.split c.in_err-check_block.ensures.failed
    )

pub loop-rest-preserved-in-Other : goal.loop-rest-preserved-in-Other
loop-rest-preserved-in-Other c =
    let bytes = c.args.bytes.now in
    let rest = c.loop-rest.rest.now in
    let within = Walking-within c.args.order c.args.ports bytes rest c.loop-rest.lacks_room c.loop-rest.interfaces c.loop-rest.found.items c.loop-rest.invariant in
    let at : length bytes - length rest + length rest ≡ length bytes = omega (arith, within) in
    let holds = rw c.in-Other.is at c.in_ok-check_block.ensures.holds in
    Walking-other c.args.order c.args.ports bytes rest c.loop-rest.lacks_room c.loop-rest.interfaces (length bytes - length rest) c.loop-rest.found.items c.in_ok-block.block.now c.in_ok-block.after.now c.loop-rest.invariant (
    record { at_is = at; cuts = c.in_ok-block.ensures.split; ends = c.in_ok-check_block.ensures.ends; may = c.in_ok-check_block.ensures.passed; holds = holds }
    )

pub loop-rest-preserved-in-Interface : goal.loop-rest-preserved-in-Interface
loop-rest-preserved-in-Interface c =
    let bytes = c.args.bytes.now in
    let rest = c.loop-rest.rest.now in
    let within = Walking-within c.args.order c.args.ports bytes rest c.loop-rest.lacks_room c.loop-rest.interfaces c.loop-rest.found.items c.loop-rest.invariant in
    let at : length bytes - length rest + length rest ≡ length bytes = omega (arith, within) in
    let holds = rw c.in-Interface.is at c.in_ok-check_block.ensures.holds in
    Walking-interface c.args.order c.args.ports bytes rest c.loop-rest.lacks_room c.loop-rest.interfaces (length bytes - length rest) c.loop-rest.found.items c.in_ok-block.block.now c.in_ok-block.after.now c.loop-rest.invariant (
    record { at_is = at; cuts = c.in_ok-block.ensures.split; ends = c.in_ok-check_block.ensures.ends; may = c.in_ok-check_block.ensures.passed; holds = holds }
    )

pub loop-rest-preserved : goal.loop-rest-preserved
loop-rest-preserved c =
    let bytes = c.args.bytes.now in
    let rest = c.loop-rest.rest.now in
    let within = Walking-within c.args.order c.args.ports bytes rest c.loop-rest.lacks_room c.loop-rest.interfaces c.loop-rest.found.items c.loop-rest.invariant in
    let at : length bytes - length rest + length rest ≡ length bytes = omega (arith, within) in
    let holds = rw c.in-Packet.is at c.in_ok-check_block.ensures.holds in
    let kept = rw c.is_err-lacks_room.ensures.negation at c.push.ensures.items in
    Walking-packet c.args.order c.args.ports bytes rest c.loop-rest.lacks_room c.is_err-lacks_room.result c.loop-rest.interfaces (length bytes - length rest) c.in-Packet.interface c.in-Packet.len
    c.loop-rest.found.items c.push.new.self.items _ c.in_ok-block.block.now c.in_ok-block.after.now c.loop-rest.invariant (
    record { at_is = at; cuts = c.in_ok-block.ensures.split; ends = c.in_ok-check_block.ensures.ends; may = c.in_ok-check_block.ensures.passed; holds = holds }
    ) refl refl refl kept

pub returns-then-lacks_room-clause-cause : goal.returns-then-lacks_room-clause-cause
returns-then-lacks_room-clause-cause c =
    let w = c.loop-rest.invariant in
    let none = eqb-true _ 0 (sym c.is_empty.ensures ∙ c.loop-rest-test.false) in
    inr (refl, lists_of c.args.ports (arrivals_in c.args.order w.blocks), Walking-file c.args.order c.args.ports c.args.bytes.now c.loop-rest.rest.now c.loop-rest.lacks_room c.loop-rest.interfaces c.loop-rest.found.items w none)

pub returns-clause-found : goal.returns-clause-found
returns-clause-found c =
    let none = eqb-true _ 0 (sym c.is_empty.ensures ∙ c.loop-rest-test.false) in
    Walking-done c.args.order c.args.ports c.args.bytes.now c.loop-rest.rest.now c.loop-rest.lacks_room c.loop-rest.interfaces c.loop-rest.found.items c.loop-rest.invariant c.if-lacks_room.false none
