use Rattle.std.proofs.Common.{rules, ◌≡◌, get_or, ap, ◌∙◌, arith}
use Rattle.std.proofs.lemmas.List.{get_or_read}
use Rattle.xsk_judge.specs.Kept.{Queue, queue_at}
use Rattle.xsk_judge.proofs.Behind.{no_queue}
use Rattle.xsk_judge.proofs.Refusals.{cancels_not}
use Rattle.xsk_judge.proofs.judge.Judge.cancel.Goals as goal

pub returns-in-Err-are_latest-clause-why : goal.returns-in-Err-are_latest-clause-why
returns-in-Err-are_latest-clause-why c =
    let s = c.args.setting.now in let kept = c.args.self.now in let r = c.args.ring in
    let queue : c.index.result.now ≡ queue_at s kept r =
    get_or_read kept.queues c.in-Ok.at c.index.result.now c.in-Ok.ensures.ok.1 (search rules) no_queue ∙ ap (λ i. get_or kept.queues i no_queue) c.in-Ok.ensures.ok.0 in
    let queue_2 : c.index-2.result.now ≡ queue_at s kept r =
    get_or_read kept.queues c.in-Ok.at c.index-2.result.now c.in-Ok.ensures.ok.1 (search rules) no_queue ∙ ap (λ i. get_or kept.queues i no_queue) c.in-Ok.ensures.ok.0 in
    cancels_not s c.args.line kept r c.args.count c.in-Err-are_latest.rule c.as_slice.result.now c.index-2.result.now (search rules) queue_2 c.in-Ok.ensures.ok.2 c.in-Ok.ensures.ok.3
    (omega (arith, c.if-count-held.false, c.held-held.ensures.value, ap (λ (q : Queue). q.held) queue, ap (λ (q : Queue). q.held) queue_2)) c.in-Err-are_latest.ensures.rule
