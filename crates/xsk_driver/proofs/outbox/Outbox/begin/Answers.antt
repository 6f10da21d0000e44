use Rattle.std.proofs.Common.{[], arith, sym, ◌∙◌, inl}
use Rattle.std.proofs.lemmas.Bool.{true≢false}
use Rattle.std.proofs.lemmas.List.Elements.{All-push}
use Rattle.xsk_driver.specs.SentRoom.{IsShort}
use Rattle.xsk_driver.specs.Outbox.{outbox_of}
use Rattle.xsk_umem.proofs.Lengths.{length_concat-push}
use Rattle.xsk_driver.proofs.Sent.{last_length-push, add_over, add_within}
use Rattle.xsk_driver.proofs.outbox.Outbox.begin.Goals as goal
use Rattle.xsk_driver.proofs.outbox.Outbox.begin.Goals.{then-self-via-then-self, then-self-via-else-self+then-self-eq0}

pub invariant_of-self-2-clause-bytes_few : goal.invariant_of-self-2-clause-bytes_few
invariant_of-self-2-clause-bytes_few c = rw (c.push_reserved.ensures.packets, length_concat-push) (omega (arith, c.args.self.now.bytes_few))

pub invariant_of-self-2-clause-short : goal.invariant_of-self-2-clause-short
invariant_of-self-2-clause-short c = rw (c.push_reserved.ensures.packets) (All-push IsShort c.args.self.now.list.packets _ c.args.self.now.short (omega arith))

pub returns-clause-empty : goal.returns-clause-empty
returns-clause-empty c is = rw (c.push_reserved.ensures.packets) (last_length-push c.args.self.now.list.packets _)

pub returns-then-self-clause-sends : goal.returns-then-self-clause-sends
returns-then-self-clause-sends c packets sends =
    add_over (outbox_of c.args.self.now) c.args.self.now.packets_left c.args.self.now.bytes_left packets []
    (λ is. elim c.then-self.branch [ then-self-via-then-self w ↦ absurd (true≢false (sym w.if-self.true ∙ is)) | then-self-via-else-self+then-self-eq0 w ↦ inl w.if-self-eq0.true ])
    c.args.self.now.packets_few c.args.self.now.bytes_few sends

pub returns-clause-sends : goal.returns-clause-sends
returns-clause-sends c packets sends =
    add_within (outbox_of c.args.self.now) c.args.self.now.packets_left c.args.self.now.bytes_left c.push_reserved.new.self.packets packets []
    c.if-self.false c.if-self-eq0.false (omega arith) c.push_reserved.ensures.packets c.args.self.now.packets_few c.args.self.now.bytes_few sends
