use Rattle.std.proofs.Common.{[], ◌∷◌, ◌++◌, ap, ◌∙◌, arith, length-append}
use Rattle.xsk_pcap.specs.Written.{text_of}
use Rattle.xsk_pcap.proofs.Writing.{length-text_of, fits_behind, IsKept-push}
use Rattle.xsk_pcap.proofs.capture.Capture.add.Goals as goal

pub size_of_records-requires : goal.size_of_records-requires
size_of_records-requires c =
    let fits = fits_behind c.args.self.now c.args.list.now.packets c.requires in
    omega (arith, fits.packets, fits.bytes)

pub append_records-requires-clause-short : goal.append_records-requires-clause-short
append_records-requires-clause-short c = (fits_behind c.args.self.now c.args.list.now.packets c.requires).short

pub append_records-requires-clause-room : goal.append_records-requires-clause-room
append_records-requires-clause-room c =
    let packets = c.args.list.now.packets in
    let text = c.reserve-2.new.self.items in
    let number = c.self.inside.number in
    omega (arith, c.in_ok-reserve-2.ensures.ok, c.size_of_records.ensures, length-append text (text_of number packets), length-text_of number packets)

pub invariant_of-self-2 : goal.invariant_of-self-2
invariant_of-self-2 c =
    let packets = c.args.list.now.packets in
    let grown = c.append_records.ensures ∙ ap (λ t. t ++ text_of c.self.inside.number packets) c.in_ok-reserve-2.ensures.items in
    let counted = c.push_reserved.ensures.items ∙ ap (λ cs. cs ++ c.len-count.result ∷ []) c.in_ok-reserve.ensures.items in
    (IsKept-push c.self.inside.text.items c.self.inside.counts.items _ _ c.self.inside.number _ c.args.self.now packets c.self.view_is c.self.invariant c.requires grown counted c.len-count.ensures.value).1

pub returns-clause-added : goal.returns-clause-added
returns-clause-added c =
    let packets = c.args.list.now.packets in
    let grown = c.append_records.ensures ∙ ap (λ t. t ++ text_of c.self.inside.number packets) c.in_ok-reserve-2.ensures.items in
    let counted = c.push_reserved.ensures.items ∙ ap (λ cs. cs ++ c.len-count.result ∷ []) c.in_ok-reserve.ensures.items in
    (IsKept-push c.self.inside.text.items c.self.inside.counts.items _ _ c.self.inside.number _ c.args.self.now packets c.self.view_is c.self.invariant c.requires grown counted c.len-count.ensures.value).0
