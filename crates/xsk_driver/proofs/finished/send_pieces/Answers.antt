use Rattle.std.proofs.Common.{◌≡◌, ◌≤◌, [], ◌∷◌, ◌++◌, length, ap, arith, ◌∙◌, rules}
use Rattle.xsk_umem.specs.declared.batch.Item.{Item}
use Rattle.xsk_turns.specs.Turns.{returned}
use Rattle.xsk_driver.proofs.Sent.{sent_one, payload_short}
use Rattle.xsk_driver.proofs.finished.send_pieces.Goals as goal

pub loop-preserved : goal.loop-preserved
loop-preserved c =
    let few : length c.payload_of.result.now ≤ 4096 = payload_short c.args.geometry.now c.args.sg c.payload_of.result.now c.unwrap-item.result c.payload_of.ensures c.requires.lawful in
    let split : c.loop.queue.items ≡ c.unwrap-item.result ∷ c.pop_front.new.self.items = search rules in
    let pushed : c.push.new.self ≡ c.loop.items ++ returned c.unwrap-item.result ∷ [] = c.push.ensures ∙ ap (λ (i : Item). c.loop.items ++ i ∷ []) c.returned.ensures in (
      sent_one c.args.geometry.now c.args.sg c.args.outbox.now c.loop.outbox c.extend.new.self c.args.queue.now.items c.loop.queue.items c.pop_front.new.self.items c.loop.items c.push.new.self
          c.unwrap-item.result c.payload_of.result.now c.loop.counter split c.payload_of.ensures pushed c.extend.ensures.limits c.extend.ensures.sends c.loop.invariant.0,
      c.pop_front.ensures.capacity ∙ c.loop.invariant.1,
      λ is. let longer = c.extend.ensures.longer is in omega (arith, longer.1, c.loop.invariant.2 longer.0, few),
    )
