use Rattle.std.proofs.Common.{◌∙◌, rules}
use Rattle.std.proofs.lemmas.List.Sorted.{IsNonDecreasingBy-from_sort_by_key}
use Rattle.xsk_umem.specs.Frame.{Frame}
use Rattle.xsk_umem.proofs.frame.Frames.sort.Goals as goal

pub returns-clause-ordered : goal.returns-clause-ordered
returns-clause-ordered c =
    rw (c.make_contiguous.ensures.writes_back c.sort_unstable_by_key.new.self (c.sort_unstable_by_key.ensures.len ∙ c.make_contiguous.ensures.len))
    (IsNonDecreasingBy-from_sort_by_key (λ (frame : Frame). frame.number) _ c.sort_unstable_by_key.ensures.sorted (λ a r q k. search rules))
