use Rattle.std.proofs.Common.{◌≡◌, ◌++◌, ◌∙◌, length, replicate, ap, arith}
use Rattle.std.specs.List.{concat}
use Rattle.xsk_pcapng.specs.Written.{interface_block}
use Rattle.xsk_pcapng.proofs.Appending.{interfaces-next, length-interfaces}
use Rattle.std.proofs.lemmas.List.{length-append}
use Rattle.xsk_pcapng.proofs.writing.append_interfaces.Goals as goal

pub unwrap-requires : goal.unwrap-requires
unwrap-requires c =
    let so_far = c.loop.invariant.so_far in
    c.extend_from_slice.ensures.succeeds (
    omega (arith, ap length so_far, length-append c.args.text.now.items (concat (replicate c.loop.counter interface_block)), length-interfaces c.loop.counter, c.loop-test.true, c.loop.auto.counter-end, c.requires, c.loop.invariant.capacity)
    )

pub loop-preserved : goal.loop-preserved
loop-preserved c =
    let grown : c.extend_from_slice.new.self.items ≡ c.loop.text.items ++ interface_block = rw c.unwrap.ensures at c.extend_from_slice.ensures.items in
    record {
      so_far = grown ∙ ap (λ t. t ++ interface_block) c.loop.invariant.so_far ∙ interfaces-next c.args.text.now.items c.loop.counter;
      capacity = omega (arith, c.loop.invariant.capacity, c.extend_from_slice.ensures.capacity);
    }
