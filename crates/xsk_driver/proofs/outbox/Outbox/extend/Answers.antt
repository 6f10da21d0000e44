use Rattle.std.proofs.Common.{◌≤◌, length, arith, sym, ◌∙◌, ap, inl, inr}
use Rattle.std.proofs.lemmas.Bool.{true≢false}
use Rattle.xsk_driver.specs.SentRoom.{last_length}
use Rattle.xsk_driver.specs.Outbox.{outbox_of}
use Rattle.xsk_driver.proofs.Sent.{last_length-with_last_extended, length-with_last_extended, length_concat-with_last_extended, short-with_last_extended, some_packet, extend_over, extend_within}
use Rattle.xsk_driver.proofs.outbox.Outbox.extend.Goals as goal
use Rattle.xsk_driver.proofs.outbox.Outbox.extend.Goals.{then-self-via-then-self, then-self-via-else-self+then-is_empty, then-self-via-else-self+else-is_empty+then-bytes-self}

pub invariant_of-self-2-clause-packets_few : goal.invariant_of-self-2-clause-packets_few
invariant_of-self-2-clause-packets_few c = rw (c.extend_last.ensures.packets, length-with_last_extended) (omega (arith, c.args.self.now.packets_few))

pub invariant_of-self-2-clause-bytes_few : goal.invariant_of-self-2-clause-bytes_few
invariant_of-self-2-clause-bytes_few c =
    let some : 1 ≤ length c.args.self.now.list.packets = some_packet c.args.self.now.list.packets (λ none. true≢false (sym (c.is_empty.ensures.1 none) ∙ c.if-is_empty.false)) in
    rw (c.extend_last.ensures.packets) (omega (arith, c.args.self.now.bytes_few, length_concat-with_last_extended c.args.self.now.list.packets c.args.bytes.now some))

pub invariant_of-self-2-clause-short : goal.invariant_of-self-2-clause-short
invariant_of-self-2-clause-short c =
    rw (c.extend_last.ensures.packets) (short-with_last_extended c.args.self.now.list.packets c.args.bytes.now c.args.self.now.short (c.requires c.if-self.false))

pub returns-clause-longer : goal.returns-clause-longer
returns-clause-longer c is =
    let some : 1 ≤ length c.args.self.now.list.packets = some_packet c.args.self.now.list.packets (λ none. true≢false (sym (c.is_empty.ensures.1 none) ∙ c.if-is_empty.false)) in
    (is, ap last_length c.extend_last.ensures.packets ∙ last_length-with_last_extended c.args.self.now.list.packets c.args.bytes.now some)

pub returns-then-self-clause-sends : goal.returns-then-self-clause-sends
returns-then-self-clause-sends c packets packet sends =
    extend_over (outbox_of c.args.self.now) c.args.self.now.bytes_left packets packet c.args.bytes.now
    (λ is. elim c.then-self.branch [ then-self-via-then-self w ↦ absurd (true≢false (sym w.if-self.true ∙ is)) | then-self-via-else-self+then-is_empty w ↦ inl (w.is_empty.ensures.0 w.if-is_empty.true) | then-self-via-else-self+else-is_empty+then-bytes-self w ↦ inr w.if-bytes-self.true ])
    c.args.self.now.bytes_few sends

pub returns-clause-sends : goal.returns-clause-sends
returns-clause-sends c packets packet sends =
    let some : 1 ≤ length c.args.self.now.list.packets = some_packet c.args.self.now.list.packets (λ none. true≢false (sym (c.is_empty.ensures.1 none) ∙ c.if-is_empty.false)) in
    extend_within (outbox_of c.args.self.now) c.args.self.now.packets_left c.args.self.now.bytes_left c.extend_last.new.self.packets packets packet c.args.bytes.now
    c.if-self.false some c.if-bytes-self.false c.extend_last.ensures.packets c.args.self.now.packets_few c.args.self.now.bytes_few sends
