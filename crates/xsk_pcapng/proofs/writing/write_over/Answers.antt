use Rattle.std.proofs.Common.{◌≡◌, ◌++◌, length, replicate, ap, ◌∙◌, arith}
use Rattle.std.specs.List.{concat}
use Rattle.std.proofs.lemmas.List.{length-append}
use Rattle.xsk_pcapng.specs.Written.{section_block, interface_block}
use Rattle.xsk_pcapng.proofs.Appending.{length-interfaces, whole_text}
use Rattle.xsk_pcapng.proofs.writing.write_over.Goals as goal

pub append_lists-requires-clause-room : goal.append_lists-requires-clause-room
append_lists-requires-clause-room c =
    let n = length c.args.lists.now in
    let first : c.extend_from_slice.new.self.items ≡ c.reserve.new.self.items ++ section_block = rw c.unwrap.ensures at c.extend_from_slice.ensures.items in
    let one = first ∙ ap (λ t. t ++ section_block) (c.reserve.ensures.items ∙ c.clear.ensures.items) in
    omega (
      arith,
      ap length c.append_interfaces.ensures.text,
      length-append c.extend_from_slice.new.self.items (concat (replicate n interface_block)),
      length-interfaces n,
      ap length one,
      c.in_ok-reserve.ensures.ok,
      c.reserve.ensures.len,
      c.clear.ensures.len,
      c.extend_from_slice.ensures.capacity,
      c.append_interfaces.ensures.room,
      c.size_of_file.ensures,
    )

pub returns : goal.returns
returns c =
    let first : c.extend_from_slice.new.self.items ≡ c.reserve.new.self.items ++ section_block = rw c.unwrap.ensures at c.extend_from_slice.ensures.items in
    let one = first ∙ ap (λ t. t ++ section_block) (c.reserve.ensures.items ∙ c.clear.ensures.items) in
    whole_text c.args.lists.now c.extend_from_slice.new.self.items c.append_interfaces.new.text.items c.append_lists.new.text.items one c.append_interfaces.ensures.text c.append_lists.ensures
