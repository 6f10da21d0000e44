use Rattle.std.proofs.Common.{◌≡◌, List, ℕ, IfSome, [], get_or, refl, subst}
use Rattle.xsk_pcap.proofs.LaidRecords.{laid_written}
use Rattle.xsk_cli.proofs.leaves.SentLeaves.lay.Goals as goal

pub returns : goal.returns
returns c = (
  (refl, (λ _. tt), c.lay.follows.holds-at-none),
  record {
    same = tt;
    laid = λ _. c.lay.ensures.gaps.1 refl;
    text = subst (λ (all : List ℕ). IfSome c.lay.result (λ text. text.now ≡ all)) (laid_written (get_or c.args.self.now.lists c.args.pair []) c.requires.writable) c.lay.ensures.text;
  },
)
