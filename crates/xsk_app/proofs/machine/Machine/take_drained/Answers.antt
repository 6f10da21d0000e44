use Rattle.std.proofs.Common.{arith, ◌≡◌, ℕ, ◌++◌, List, [], take, ap, ◌∙◌}
use Rattle.std.proofs.lemmas.List.{get_or_default}
use Rattle.xsk_turns.proofs.Object.{Frame}
use Rattle.xsk_turns.specs.Turns.{frames_in}
use Rattle.xsk_turns.specs.AppTurns.{back_at, with_back}
use Rattle.xsk_app.specs.Stands.{noted_by, kept_by}
use Rattle.xsk_app.proofs.Steps.{release_drained}
use Rattle.xsk_app.proofs.Ways.{way_read}
use Rattle.xsk_app.proofs.machine.Machine.take_drained.Goals as goal

pub returns-clause-goes : goal.returns-clause-goes
returns-clause-goes c =
    let m = c.args.self.now in
    let k = m.config.now in
    let lane = c.args.lane in
    let way = c.index-way.result.now in
    let new = c.keep_behind.new.back in
    let read = way_read k m.app lane m.ways.items way m.ways_are (omega (arith, c.requires.lane, m.lanes)) c.index-way.ensures in
    let here : c.index_mut.result.now ≡ back_at (kept_by m) way.side =
    c.index_mut.ensures.value ∙ get_or_default m.backs.items way.side c.index_mut.result.now [] (omega (arith, read.below, m.sides)) in
    let frames : new ≡ take 4096 (back_at (kept_by m) way.side ++ frames_in c.args.items.now) =
    c.keep_behind.ensures.back ∙ ap (λ (b : List Frame). take 4096 (b ++ frames_in c.args.items.now)) here in
    let is = ap (λ (fs : List Frame). with_back (kept_by m) way.side fs) frames ∙ ap (λ (s : ℕ). with_back (kept_by m) s (take 4096 (back_at (kept_by m) s ++ frames_in c.args.items.now))) read.side in
    release_drained k m.app lane (noted_by m.turn) (kept_by m) (with_back (kept_by m) way.side new) c.args.items.now way.rx c.len-count.result is read.rx c.len-count.ensures.value
