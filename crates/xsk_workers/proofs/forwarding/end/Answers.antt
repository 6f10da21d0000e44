use Rattle.std.proofs.Common.{arith, ◌≡◌, ◌≤◌, ℕ, List, length, map, refl, sym, ap, subst, ◌∙◌, false}
use Rattle.std.specs.Prelude.{All, Option, is_some}
use Rattle.std.proofs.lemmas.List.Elements.{All-map}
use Rattle.xsk_driver.specs.SentRoom.{IsShort}
use Rattle.xsk_model.specs.Config.{Config, IsRegular, callers_of}
use Rattle.xsk_workers.specs.Forwarded.{packets_in, HasForwarded, OutcomeShown}
use Rattle.xsk_machine.specs.Sent.{SentShown}
use Rattle.xsk_workers.proofs.Gathering.{are_there, has_forwarded}
use Rattle.xsk_workers.proofs.forwarding.end.Goals as goal

pub close-frames-requires : goal.close-frames-requires
close-frames-requires c =
    let gathered = c.requires.gathered in
    record { there = are_there c.args.shared gathered.0 gathered.1 c.args.ran.passes gathered.3.given }

pub into_sent-sent-requires : goal.into_sent-sent-requires
into_sent-sent-requires c =
    let s = c.requires.gathered.1 in
    let config = c.requires.gathered.2 in
    let gathered = c.requires.gathered.3 in
    let past : length s.config.pairs ≤ callers_of c.args.shared.setup.config = omega (arith, ap (λ (k : Config). callers_of k) config) in
    omega (arith, c.args.ran.kept.figures.ok.0, gathered.are_figures.all past, ap (λ (k : Config). length k.pairs) config, c.close-frames.ensures.history.legal.opened.config.pairs_few)

pub returns-clause-pairs : goal.returns-clause-pairs
returns-clause-pairs c =
    let s = c.requires.gathered.1 in
    let config = c.requires.gathered.2 in
    let gathered = c.requires.gathered.3 in
    let past : length s.config.pairs ≤ callers_of c.args.shared.setup.config = omega (arith, ap (λ (k : Config). callers_of k) config) in
    ap (λ (x : SentShown). length x.lists) c.into_sent-sent.ensures ∙ gathered.are_sent.all past ∙ ap (λ (k : Config). length k.pairs) config

pub returns-clause-short : goal.returns-clause-short
returns-clause-short c =
    subst (λ lists. All (λ (list : List (List ℕ)). All IsShort list) lists) (sym (ap (λ (x : SentShown). x.lists) c.into_sent-sent.ensures))
    (All-map (λ (list : List (List ℕ)). All IsShort list) packets_in c.args.ran.kept.sent.items c.args.ran.kept.short)

pub returns-clause-forwarded : goal.returns-clause-forwarded
returns-clause-forwarded c hands s config wire unchanged gathered =
    let regular : IsRegular s.config = subst IsRegular (sym config) c.requires.regular in
    let kept = c.args.ran.kept in
    let shown : SentShown → OutcomeShown = λ x. record { history = c.close-frames.result.1.seen; sent = x.lists; figures = x.figures } in
    let sent : SentShown = record {
      lists = map packets_in kept.sent.items;
      figures = record { calls = c.args.ran.calls; wire = c.args.wire; drivers = kept.figures.items; mangled = false };
    } in
    let is_sent : c.into_sent-sent.result ≡ sent = c.into_sent-sent.ensures in
    subst (λ (x : SentShown). HasForwarded hands s c.args.shared.setup.frames (shown x)) (sym is_sent)
    (has_forwarded c.args.shared hands s c.args.shared.setup.frames c.args.ran.passes (map packets_in kept.sent.items) kept.figures.items c.args.ran.calls c.args.wire c.close-frames.result.1.seen regular config refl
    gathered.given gathered.are_sent gathered.are_figures gathered.are_calls (sym wire) (ap (λ (m : Option ℕ). is_some m) unchanged) c.close-frames.ensures.history)
