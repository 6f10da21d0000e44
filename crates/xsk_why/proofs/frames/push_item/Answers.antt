use Rattle.std.proofs.Common.{◌≡◌, ◌++◌, ℕ, Option, Some, ap, ◌∙◌}
use Rattle.xsk_log.specs.Repeats.{of_option}
use Rattle.xsk_why.specs.Frames.{ranges_from}
use Rattle.xsk_why.proofs.frames.push_item.Goals as goal

pub returns-in_ok-push_next-in-Some : goal.returns-in_ok-push_next-in-Some
returns-in_ok-push_next-in-Some c later =
    let found : Some c.in-Some.frame ≡ c.args.frame = cc in
    c.in_ok-push_next-in-Some.ensures later ∙ ap (λ (f : Option ℕ). c.args.text.now.items ++ ranges_from c.args.begun (of_option f ++ later)) found
