use Rattle.std.proofs.Common.{rules, arith, ◌≡◌, ◌<◌, ◌++◌, List, [], length, ap, ◌∙◌}
use Rattle.std.proofs.lemmas.List.{get_or_default}
use Rattle.xsk_umem.specs.declared.batch.Item.{Item}
use Rattle.xsk_turns.proofs.Calls.{Rx, Release}
use Rattle.xsk_turns.specs.Script.{ask}
use Rattle.xsk_turns.specs.AppTurns.{rx_of, pending_at}
use Rattle.xsk_app.specs.Stands.{noted_by, kept_by, left}
use Rattle.xsk_app.specs.declared.machine.Wait.TheVariants.{ReleaseRx}
use Rattle.xsk_app.proofs.Steps.{release_lane, counted_received}
use Rattle.xsk_app.proofs.machine.Machine.take_received.Goals as goal

pub returns-clause-goes : goal.returns-clause-goes
returns-clause-goes c =
    let m = c.args.self.now in
    let k = m.config.now in
    let lane = c.args.lane in
    let new = c.note_received.new.self in
    let now = kept_by new in
    let call = Release (Rx c.index.result.now.rx) c.len-count.result in
    let here : c.index_mut.result.now ≡ pending_at (kept_by m) lane =
    c.index_mut.ensures.value ∙ get_or_default m.pending.items lane c.index_mut.result.now [] (omega (arith, c.requires.lane)) in
    let items : c.append.new.self ≡ c.args.items.now = c.append.ensures.items ∙ ap (λ (xs : List Item). xs ++ c.args.items.now) (here ∙ c.requires.empty) in
    let within : lane < length m.pending.items = omega (arith, c.requires.lane) in
    let is = c.note_received.ensures.kept ∙ counted_received k m.app lane (kept_by m) c.args.items.now c.append.new.self within items in
    let rx : c.index.result.now.rx ≡ rx_of k m.app lane = search rules in
    ap (λ w. ask now call (left k m.app w (noted_by new.turn) now)) c.note_received.ensures.rest.wait
    ∙ ap (λ t. ask now call (left k m.app (ReleaseRx lane) (noted_by t) now)) c.note_received.ensures.rest.turn
    ∙ release_lane k m.app lane (noted_by m.turn) (kept_by m) now c.args.items.now c.index.result.now.rx c.len-count.result is rx c.len-count.ensures.value
