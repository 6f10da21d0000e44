use Rattle.std.proofs.Common.{◌≡◌, length, drop, ◌∙◌}
use Rattle.std.proofs.lemmas.List.{take_at}
use Rattle.std.proofs.lemmas.List.Elements.{All-same}
use Rattle.xsk_plain.specs.Kept.{AreKept}
use Rattle.xsk_plain.proofs.object.Object.fill.Goals as goal

pub returns-clause-kept : goal.returns-clause-kept
returns-clause-kept c =
    let count : length c.fill_pools.new.rings ≡ c.args.self.now.rings.len = c.fill_pools.auto.rings ∙ c.as_mut_slice.ensures.len in
    λ notes. All-same (AreKept c.args.self.now.config notes) _ c.fill_pools.new.rings (take_at c.fill_pools.new.rings (drop (length c.fill_pools.new.rings) c.args.self.now.rings.items) c.args.self.now.rings.len count) (c.fill_pools.ensures.kept notes)
