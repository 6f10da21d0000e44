use Rattle.std.proofs.Common.{◌≡◌, ◌+◌, ◌-◌, take, drop, sym, ap, ◌∙◌, arith}
use Rattle.std.specs.Cmp.Lexicographic.{same_text}
use Rattle.xsk_log.proofs.log.shows.Goals as goal

pub returns : goal.returns
returns c = λ told.
    let count : c.args.extent.start + c.args.extent.len - c.args.extent.start ≡ c.args.extent.len = omega arith in (
      omega arith,
      ap (λ n. take n (drop c.args.extent.start c.args.bytes.now)) (sym count) ∙ same_text _ _ (sym told ∙ c.eq.ensures),
    )
