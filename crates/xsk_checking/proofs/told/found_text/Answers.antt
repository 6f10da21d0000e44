use Rattle.std.proofs.Common.{◌≡◌, ◌++◌, ◌∙◌, ap, rules}
use Rattle.xsk_checking.specs.Ending.{verdict_text}
use Rattle.xsk_checking.proofs.told.found_text.Goals as goal

pub returns : goal.returns
returns c =
    let behind : c.as_slice.result.now ≡ c.in_ok-behind.behind.items = search rules in (
      c.in_ok-behind.behind.items,
      c.in_ok-behind.ensures,
      c.in_ok-extend_from_slice.ensures.items
          ∙ ap (λ l. l ++ c.as_slice.result.now) c.in_ok-text.ensures
          ∙ ap (λ l. verdict_text c.args.verdict ++ l) behind,
    )
