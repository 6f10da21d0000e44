use Rattle.std.proofs.Common.{◌≡◌, ◌++◌, ap, ◌∙◌, append_assoc}
use Rattle.xsk_pcap.proofs.capture.append_record.Goals as goal

pub returns-clause-text : goal.returns-clause-text
returns-clause-text c =
    let text = c.args.text.now.items in
    let header = c.record_header-header.result in
    let packet = c.args.packet.now in
    let first : c.extend_from_slice.new.self.items ≡ text ++ header = rw c.unwrap.ensures at c.extend_from_slice.ensures.items in
    let second : c.extend_from_slice-2.new.self.items ≡ c.extend_from_slice.new.self.items ++ packet = rw c.unwrap-2.ensures at c.extend_from_slice-2.ensures.items in
    second ∙ ap (λ t. t ++ packet) first ∙ append_assoc text header packet ∙ ap (λ h. text ++ (h ++ packet)) c.record_header-header.ensures
