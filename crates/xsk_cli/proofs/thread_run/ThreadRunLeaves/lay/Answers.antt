use Rattle.std.proofs.Common.{◌≡◌, ◌∷◌, List, ℕ, IfSome, [], get_or, refl, sym, subst, ◌∙◌}
use Rattle.xsk_pcap.specs.Written.{IsWritable}
use Rattle.xsk_pcap.proofs.LaidRecords.{laid_written}
use Rattle.xsk_workers.specs.Forwarded.{OutcomeShown}
use Rattle.xsk_cli.specs.Outcome.{capture_of}
use Rattle.xsk_cli.proofs.thread_run.ThreadRunLeaves.lay.Goals as goal

pub returns : goal.returns
returns c =
    let own : OutcomeShown = c.self.inside.outcome in
    let writable : IsWritable (get_or own.sent c.args.pair [] ∷ []) = subst (λ (o : OutcomeShown). IsWritable (get_or o.sent c.args.pair [] ∷ [])) (sym c.self.view_is) c.requires.writable in
    let text : IfSome c.lay.result (λ text. text.now ≡ capture_of (get_or own.sent c.args.pair [])) =
    subst (λ (all : List ℕ). IfSome c.lay.result (λ text. text.now ≡ all)) (laid_written (get_or own.sent c.args.pair []) writable) c.lay.ensures.text in (
      (refl, (λ _. tt), c.lay.follows.holds-at-none ∙ c.self.view_is),
      record {
        same = tt;
        laid = λ _. c.lay.ensures.gaps.1 refl;
        text = subst (λ (o : OutcomeShown). IfSome c.lay.result (λ text. text.now ≡ capture_of (get_or o.sent c.args.pair []))) c.self.view_is text;
      },
    )
