use Rattle.std.proofs.Common.{◌≡◌, ◌-◌, take, drop, length, arith, ap, ◌∙◌}
use Rattle.std.proofs.lemmas.List.{take_rest, length-drop}
use Rattle.xsk_pcap.specs.Numbers.{number_in}
use Rattle.xsk_pcap.specs.Capture.{captured_in}
use Rattle.xsk_pcap.proofs.Grammar.{begins_record}
use Rattle.xsk_pcap.proofs.reading.split_record.Goals as goal

pub returns-clause-split : goal.returns-clause-split
returns-clause-split c =
    let bytes = c.args.bytes.now in
    let captured = c.u32_in-captured.result in
    let rest : take (length bytes - 16) (drop 16 bytes) ≡ drop 16 bytes = take_rest bytes 16 in
    let is : captured ≡ captured_in c.args.order bytes = c.u32_in-captured.ensures ∙ ap (number_in c.args.order 4) (take_rest bytes 8) in
    let front : c.split_at.result.0.now ≡ take captured (drop 16 bytes) = rw rest at c.split_at.ensures.front in
    let back : c.split_at.result.1.now ≡ drop captured (drop 16 bytes) = rw rest at c.split_at.ensures.back in
    rw (front, back) (begins_record c.args.order bytes captured (omega arith) is (omega arith) (omega (arith, c.if-captured-rest.false, ap length rest, length-drop 16 bytes)) (λ i. omega (arith, c.type_inv.bytes i)))
