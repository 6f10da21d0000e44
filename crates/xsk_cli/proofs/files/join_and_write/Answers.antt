use Rattle.std.proofs.Common.{IfOk, ◌≡◌, List, ℕ, ap, subst, ◌∙◌}
use Rattle.xsk_pcapng.specs.Written.{written as written_file}
use Rattle.xsk_cli.specs.Steps.{lists_in}
use Rattle.xsk_cli.proofs.files.join_and_write.Goals as goal

pub returns : goal.returns
returns c =
    let same = ap lists_in c.as_slice.ensures.value ∙ c.in_ok-all.ensures in
    subst (λ (ls : List (List (List ℕ))). IfOk c.write_over.result (λ text. text.items ≡ written_file ls)) same c.write_over.ensures
