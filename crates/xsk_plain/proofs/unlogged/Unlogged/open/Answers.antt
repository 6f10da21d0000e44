use Rattle.std.proofs.Common.{◌≡◌, ◌≤◌, length, arith, ap, ◌∙◌}
use Rattle.xsk_umem.specs.Frames.{Frames}
use Rattle.xsk_model.specs.Config.{Config}
use Rattle.xsk_model.proofs.Opened.{length-frames}
use Rattle.xsk_plain.proofs.unlogged.Unlogged.open.Goals as goal

pub invariant_of-result : goal.invariant_of-result
invariant_of-result c =
    let config = c.fill.ensures.config ∙ c.in-Ok.ensures.config in
    let frames : c.fill.new.self.config.geometry.frames ≡ c.args.config.geometry.frames = ap (λ (p : Config). p.geometry.frames) config in
    let limit : c.fill.new.home.limit ≡ c.args.frames.limit = ap (λ (q : Frames). q.limit) c.fill.ensures.home in
    let room : length c.args.frames.items ≤ c.args.frames.limit = c.len-count.ensures.room in
    let count : length c.args.frames.items ≡ c.args.config.geometry.frames = length-frames c.args.config.geometry c.args.frames.items c.requires.frames in
    record {
      home = ap (λ (q : Frames). q.items) c.fill.ensures.home;
      limit = omega arith;
    }
