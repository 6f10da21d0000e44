use Rattle.std.proofs.Common.{◌≡◌, List, ℕ, IfSome, refl, subst}
use Rattle.xsk_pcap.proofs.LaidRecords.{laid_written}
use Rattle.xsk_pcap.proofs.headers.lay.Goals as goal

pub returns : goal.returns
returns c = (
  (refl, (λ _. tt), c.lay.follows.holds-at-none),
  record {
    same = tt;
    gaps = c.lay.ensures.gaps;
    text = subst (λ (all : List ℕ). IfSome c.lay.result (λ text. text.now ≡ all)) (laid_written c.args.list.now.packets c.requires) c.lay.ensures.text;
  },
)
