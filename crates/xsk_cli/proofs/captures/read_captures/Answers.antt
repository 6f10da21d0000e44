use Rattle.std.proofs.Common.{rules, ◌≡◌, ◌+◌, ◌∷◌, ◌++◌, [], map, sym, ap, ◌∙◌, subst, append_assoc, length-append}
use Rattle.std.specs.Vec.Iter.{into_iter_items}
use Rattle.xsk_pcap.specs.Capture.{IsCapture}
use Rattle.xsk_cli.specs.Steps.{IsRefusal}
use Rattle.xsk_cli.proofs.Judging.{HaveTaken, taken_more, refusal_makes, text_next, short_all, answer_untaken}
use Rattle.xsk_cli.proofs.Reading.{known_name}
use Rattle.xsk_cli.proofs.captures.read_captures.Goals as goal

pub returns-in_err-list-clause-failed : goal.returns-in_err-list-clause-failed
returns-in_err-list-clause-failed c =
    let inputs = map (λ bytes. bytes.items) c.args.inputs.items in
    let port = c.loop-bytes.port in
    let failure = c.in_err-list.field-0.0 in
    let step : into_iter_items c.loop-bytes.bytes-iterator ≡ c.in-Some.bytes ∷ into_iter_items c.next.new.self = search rules in
    let at = text_next (λ bytes. bytes.items) c.loop-bytes.yielded c.in-Some.bytes (into_iter_items c.next.new.self) c.args.inputs.items port
    (ap (λ rest. c.loop-bytes.yielded ++ rest) (sym step) ∙ c.loop-bytes.invariant.all) c.loop-bytes.invariant.port in
    let refused : IsRefusal port c.in-Some.bytes.items failure = search rules in
    answer_untaken c.from_residual-in_err-list.result failure inputs (search rules)
    (refusal_makes inputs c.loop-bytes.lists.items port failure c.loop-bytes.invariant.have (known_name (λ bytes. bytes.items) c.args.inputs.items port at.0)
    (short_all 34603032 (λ bytes. bytes.items) c.args.inputs.items c.requires.short) (subst (λ b. IsRefusal port b failure) at.1 refused))

pub loop-bytes-preserved : goal.loop-bytes-preserved
loop-bytes-preserved c =
    let inputs = map (λ bytes. bytes.items) c.args.inputs.items in
    let port = c.loop-bytes.port in
    let step : into_iter_items c.loop-bytes.bytes-iterator ≡ c.in-Some.bytes ∷ into_iter_items c.next.new.self = search rules in
    let all = ap (λ rest. c.loop-bytes.yielded ++ rest) (sym step) ∙ c.loop-bytes.invariant.all in
    let at = text_next (λ bytes. bytes.items) c.loop-bytes.yielded c.in-Some.bytes (into_iter_items c.next.new.self) c.args.inputs.items port all c.loop-bytes.invariant.port in
    record {
      have = subst (λ ls. HaveTaken inputs ls (port + 1)) (sym c.push_reserved.ensures.items)
          (taken_more inputs c.loop-bytes.lists.items c.in_ok-list.list port c.loop-bytes.invariant.have (subst (λ b. IsCapture b c.in_ok-list.list.packets) at.1 c.in_ok-list.ensures.found) c.in_ok-list.ensures.listed);
      port = rw length-append (ap (λ n. n + 1) c.loop-bytes.invariant.port);
      all = append_assoc c.loop-bytes.yielded (c.in-Some.bytes ∷ []) (into_iter_items c.next.new.self) ∙ all;
      room = search rules;
    }
