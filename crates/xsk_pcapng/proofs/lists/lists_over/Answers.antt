use Rattle.std.proofs.Common.{◌≡◌, ◌+◌, ◌++◌, ◌∷◌, [], ℕ, suc, map, sym, ap, subst, ◌∙◌, arith}
use Rattle.std.specs.Arc.{arc_value}
use Rattle.std.proofs.lemmas.List.{map-append}
use Rattle.xsk_umem.specs.Span.{at_span, AreInText}
use Rattle.xsk_pcapng.specs.Blocks.{packets_at}
use Rattle.xsk_pcapng.specs.Pcapng.{lists_of}
use Rattle.xsk_pcapng.specs.Steps.{arrival_in}
use Rattle.xsk_pcapng.specs.Written.{bare}
use Rattle.xsk_pcapng.proofs.Apart.{in-text-at, packets-at}
use Rattle.xsk_pcapng.proofs.lists.lists_over.Goals as goal

pub of_shared-requires-clause-spans : goal.of_shared-requires-clause-spans
of_shared-requires-clause-spans c =
    let bytes = (arc_value c.args.text.now).items in
    subst (AreInText bytes) (sym c.in_ok-spans.ensures.spans) (in-text-at c.loop-port.port bytes c.args.found.now c.requires.within c.requires.apart)

pub loop-port-preserved : goal.loop-port-preserved
loop-port-preserved c =
    let bytes = (arc_value c.args.text.now).items in
    let found = c.args.found.now in
    let port = c.loop-port.port in
    let arrivals = map (arrival_in bytes) found in
    let list : c.in_ok-list.list ≡ bare (packets_at port arrivals) =
    c.in_ok-list.ensures ∙ ap (λ spans. bare (map (at_span bytes) spans)) c.in_ok-spans.ensures.spans ∙ ap bare (packets-at port bytes found) in
    let next : suc port ≡ port + 1 = omega arith in
    c.in_ok-push.ensures.items ∙ (λ i. c.loop-port.invariant i ++ list i ∷ []) ∙ sym (map-append bare (lists_of port arrivals) (packets_at port arrivals ∷ []))
    ∙ ap (λ (n : ℕ). map bare (lists_of n arrivals)) next
