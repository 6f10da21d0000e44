use Rattle.std.proofs.Common.{rules, ◌≡◌, ◌+◌, length, drop, min, get_or, refl, ap, ◌∙◌, subst}
use Rattle.std.proofs.lemmas.List.{get_or_read}
use Rattle.xsk_judge.specs.Kept.{Queue, Kept, queue_at, standing}
use Rattle.xsk_judge.specs.Judging.{Agrees, CanCome, held_after, peeked}
use Rattle.xsk_judge.proofs.Behind.{no_queue}
use Rattle.xsk_judge.proofs.Marking.{length-marked}
use Rattle.xsk_judge.proofs.Showing.{parts_answer, drop_again, peek_done}
use Rattle.xsk_judge.proofs.Refusals.{peek_denied}
use Rattle.xsk_judge.proofs.judge.Judge.peek.Goals as goal

pub returns-in-Err-come-clause-why : goal.returns-in-Err-come-clause-why
returns-in-Err-come-clause-why c =
    let s = c.args.setting.now in let kept = c.args.self.now in let r = c.args.ring in let es = c.args.entries.now in
    let queue : c.index.result.now ≡ queue_at s kept r =
    get_or_read kept.queues c.in-Ok.at c.index.result.now c.in-Ok.ensures.ok.1 (search rules) no_queue ∙ ap (λ i. get_or kept.queues i no_queue) c.in-Ok.ensures.ok.0 in
    let again : c.in-Ok-agreed.again ≡ min (length (standing (queue_at s kept r))) (length es) =
    subst (λ q. c.in-Ok-agreed.again ≡ min (length (standing q)) (length es)) queue c.in-Ok-agreed.ensures.ok.0 in
    let new : c.split_at.result.1.now ≡ drop c.in-Ok-agreed.again es = search rules in
    let made = c.in-Ok.ensures.ok.3 in
    let queue_2 : c.index-2.result.now ≡ queue_at s kept r =
    get_or_read kept.queues c.in-Ok.at c.index-2.result.now c.in-Ok.ensures.ok.1 (search rules) no_queue ∙ ap (λ i. get_or kept.queues i no_queue) c.in-Ok.ensures.ok.0 in
    peek_denied s c.args.line kept r c.args.asked c.in-Ok-agreed.again c.first-first.result (c.held-held.result + c.in-Ok-agreed.again) (length c.split_at.result.0.now) es
    c.split_at.result.0.now c.split_at.result.1.now c.in-Err-come.denial c.in-Ok.ensures.ok.2 made again
    (subst (λ q. Agrees q c.args.asked es) queue c.in-Ok-agreed.ensures.ok.1)
    (c.first-first.ensures ∙ ap (λ (q : Queue). q.first) queue_2) (search rules) new refl c.in-Err-come.ensures.denied

pub returns-clause-ok : goal.returns-clause-ok
returns-clause-ok c =
    let s = c.args.setting.now in let kept = c.args.self.now in let r = c.args.ring in let es = c.args.entries.now in
    let queue : c.index.result.now ≡ queue_at s kept r =
    get_or_read kept.queues c.in-Ok.at c.index.result.now c.in-Ok.ensures.ok.1 (search rules) no_queue ∙ ap (λ i. get_or kept.queues i no_queue) c.in-Ok.ensures.ok.0 in
    let again : c.in-Ok-agreed.again ≡ min (length (standing (queue_at s kept r))) (length es) =
    subst (λ q. c.in-Ok-agreed.again ≡ min (length (standing q)) (length es)) queue c.in-Ok-agreed.ensures.ok.0 in
    let new : c.split_at.result.1.now ≡ drop c.in-Ok-agreed.again es = search rules in
    let made = c.in-Ok.ensures.ok.3 in
    let queue_2 : c.index-2.result.now ≡ queue_at s kept r =
    get_or_read kept.queues c.in-Ok.at c.index-2.result.now c.in-Ok.ensures.ok.1 (search rules) no_queue ∙ ap (λ i. get_or kept.queues i no_queue) c.in-Ok.ensures.ok.0 in
    let queue_3 : c.index-3.result.now ≡ queue_at s kept r =
    get_or_read kept.queues c.in-Ok.at c.index-3.result.now c.in-Ok.ensures.ok.1 (search rules) no_queue ∙ ap (λ i. get_or kept.queues i no_queue) c.in-Ok.ensures.ok.0 in (
      (c.in-Ok.ensures.ok.2, made),
      parts_answer s kept r c.args.asked es c.requires c.in-Ok.ensures.ok.2 made
          (subst (λ q. Agrees q c.args.asked es) queue c.in-Ok-agreed.ensures.ok.1)
          (subst (CanCome s kept r) (new ∙ drop_again (standing (queue_at s kept r)) es c.in-Ok-agreed.again again) c.in_default.ensures.ok.0),
      peek_done s c.args.line kept _ r c.args.asked c.in-Ok-agreed.again c.first-first.result (c.held-held.result + c.in-Ok-agreed.again) es c.split_at.result.0.now c.split_at.result.1.now made again
          (c.first-first.ensures ∙ ap (λ (q : Queue). q.first) queue_2)
          (ap (λ k. k + c.in-Ok-agreed.again) (c.held-held.ensures.value ∙ ap (λ (q : Queue). q.held) queue_3))
          (search rules) new
          (c.hold.ensures ∙ ap (λ k. held_after s c.args.line k r c.split_at.result.0.now c.split_at.result.1.now) c.in_default.ensures.ok.1),
    )

pub hold-requires-clause-size : goal.hold-requires-clause-size
hold-requires-clause-size c =
    ap (λ (k : Kept). length k.frames) c.in_default.ensures.ok.1
    ∙ length-marked c.args.setting.now (peeked c.args.ring c.first-first.result c.args.line) (c.held-held.result + c.in-Ok-agreed.again) c.split_at.result.1.now c.args.self.now.frames
    ∙ c.requires.frames
