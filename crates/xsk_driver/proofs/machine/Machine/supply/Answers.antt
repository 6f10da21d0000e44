use Rattle.std.proofs.Common.{◌≡◌, refl, ap, ◌∙◌, ◌++◌, ◌-◌, ℕ, List, length}
use Rattle.xsk_turns.proofs.Object.{Geometry, Frame}
use Rattle.xsk_turns.specs.Counters.{raised}
use Rattle.xsk_turns.specs.Turns.{Kept, whole_frames}
use Rattle.xsk_driver.specs.Stands.{kept_in}
use Rattle.xsk_driver.proofs.machine.Machine.supply.Goals as goal

pub returns-clause-leaves : goal.returns-clause-leaves
returns-clause-leaves c =
    let m = c.args.self.now in
    let chunk : c.chunk.result ≡ m.config.now.geometry.chunk = c.chunk.ensures.value ∙ ap (λ (g : Geometry). g.chunk) c.geometry.ensures.value in
    let taken : ℕ → Kept = λ n. record (kept_in m) {
      spare = m.spare.items ++ whole_frames n c.args.items.now;
      counters = record m.counters { rx_invalid_descs = raised m.counters.rx_invalid_descs (length c.args.items.now - length (whole_frames n c.args.items.now)) };
    } in
    record {
      seat = refl;
      notes = refl;
      keeps = ap (λ (fs : List Frame). record (kept_in m) { spare = fs; counters = record m.counters { rx_invalid_descs = c.keep_frames.new.invalid } }) c.keep_frames.ensures.frames
          ∙ ap (λ n. record (kept_in m) { spare = m.spare.items ++ whole_frames c.chunk.result c.args.items.now; counters = record m.counters { rx_invalid_descs = n } }) c.keep_frames.ensures.counts
          ∙ ap taken chunk;
    }
