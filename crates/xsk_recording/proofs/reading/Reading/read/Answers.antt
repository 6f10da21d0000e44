use Rattle.std.proofs.Common.{◌≡◌, ◌+◌, ◌++◌, ℕ, suc, List, length, take, sym, ap, subst, ◌∙◌, arith, true}
use Rattle.std.proofs.lemmas.Bool.{eq-eqb, eqb-true}
use Rattle.std.proofs.lemmas.List.{take-append-drop, drop_all}
use Rattle.xsk_lines.proofs.Cuts.{behind}
use Rattle.xsk_recording.specs.Text.{ends_line}
use Rattle.xsk_recording.specs.Feeding.{IsLine, has_no_feed}
use Rattle.xsk_recording.proofs.Feeds.{feed-at, ends-at, no-feed-is, read-next, kept-next, long-next}
use Rattle.xsk_recording.proofs.reading.Reading.read.Goals as goal
use Rattle.xsk_recording.proofs.reading.Reading.read.Goals.{then-kept, else-kept}

pub end-requires : goal.end-requires
end-requires c =
    let piece = c.args.piece.now in
    let end = c.in-Some.end in
    let more : suc end ≡ end + 1 = omega arith in
    subst (λ (n : ℕ). ends_line (take n piece) ≡ true) more (ends-at piece end c.in-Some.ensures.0.high (eqb-true _ 10 c.in-Some.ensures.1))

pub returns-in_default-clause-told : goal.returns-in_default-clause-told
returns-in_default-clause-told c = λ text r stands.
    let piece = c.args.piece.now in
    let feed : has_no_feed piece ≡ true = no-feed-is piece (λ k below feed. c.in_default.ensures k (omega arith) below (eq-eqb _ _ feed)) in
    elim c.if-kept.branch [
      | then-kept w ↦ rw w.event-is (
        behind (length piece) piece ∙ drop_all (length piece) piece (omega arith),
        kept-next c.args.self.now c.keep.new.self text r piece stands feed (rw w.if-kept.true at c.in_ok-kept.ensures),
      )
      | else-kept w ↦ rw w.event-is (λ later. long-next c.args.self.now text r piece later stands feed (rw w.if-kept.false at c.in_ok-kept.ensures))
    ]

pub returns-clause-told : goal.returns-clause-told
returns-clause-told c = λ text r stands.
    let piece = c.args.piece.now in
    let end = c.in-Some.end in
    let first = c.in-Some.ensures in
    let more : suc end ≡ end + 1 = omega arith in
    let line : IsLine (take (end + 1) piece) =
    subst (λ (n : ℕ). IsLine (take n piece)) more (feed-at piece end first.0.high (λ k below feed. first.0.before k (omega arith) below (eq-eqb _ _ feed)) (eqb-true _ 10 first.1)) in
    read-next c.args.self.now c.end.new.self text r piece (take (end + 1) piece) _ c.in_ok-event.event stands
    (sym (take-append-drop (end + 1) piece) ∙ ap (λ (l : List ℕ). take (end + 1) piece ++ l) (sym (behind (end + 1) piece)))
    line (c.in_ok-event.ensures.told r stands.shows) c.in_ok-event.ensures.empty
