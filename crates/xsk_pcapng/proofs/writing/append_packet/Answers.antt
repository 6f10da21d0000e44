use Rattle.std.proofs.Common.{◌≡◌, ◌++◌, refl}
use Rattle.xsk_pcapng.proofs.Appending.{packet_text}
use Rattle.xsk_pcapng.proofs.writing.append_packet.Goals as goal

pub returns-clause-text : goal.returns-clause-text
returns-clause-text c =
    let text = c.args.text.now.items in
    let header = c.packet_header-header.result in
    let packet = c.args.packet.now in
    let first : c.extend_from_slice.new.self.items ≡ text ++ header = rw c.unwrap.ensures at c.extend_from_slice.ensures.items in
    let second : c.extend_from_slice-2.new.self.items ≡ c.extend_from_slice.new.self.items ++ packet = rw c.unwrap-2.ensures at c.extend_from_slice-2.ensures.items in
    packet_text text c.extend_from_slice.new.self.items c.extend_from_slice-2.new.self.items c.append_end.new.text.items header packet c.args.interface c.args.number c.padding_of-pad.result _
    first second c.append_end.ensures.text c.padding_of-pad.ensures.value c.packet_header-header.ensures refl c.ranges.number.fits
