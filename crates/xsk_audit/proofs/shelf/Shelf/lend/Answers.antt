use Rattle.std.proofs.Common.{rules, ◌+◌, ◌∷◌, [], List, take, drop, length, sym, ap, subst, ◌∙◌, arith, length-append}
use Rattle.xsk_umem.specs.Geometry.{frame_of}
use Rattle.xsk_umem.specs.declared.batch.XdpDesc.{XdpDesc}
use Rattle.xsk_audit.specs.Shelf.{AreInPlace, Lacks, descs_of}
use Rattle.xsk_audit.proofs.Shelves.{places-without, lent-more, lacks-one, take-desc, split-desc, length-without}
use Rattle.xsk_audit.proofs.shelf.Shelf.lend.Goals as goal

pub returns-in_default-clause-lacks : goal.returns-in_default-clause-lacks
returns-in_default-clause-lacks c = λ _.
    let g = c.args.geometry.now in
    let none = c.in_default.ensures.none in
    let split = split-desc c.args.told.now c.items.i c.desc.result (search rules) c.desc.ensures in
    (subst (λ (ds : List XdpDesc). Lacks g c.args.self.now ds) (sym split)
    (lacks-one g c.args.self.now c.items.self (take c.items.i (descs_of c.args.told.now)) (drop (c.items.i + 1) (descs_of c.args.told.now)) c.items.items c.desc.result none.0 c.items.invariant.lent none.1 none.2))

pub items-preserved : goal.items-preserved
items-preserved c =
    let g = c.args.geometry.now in
    let item = c.in-Some.ensures in
    let inv = c.items.invariant in
    record {
      places = subst (AreInPlace g) (sym item.left) (places-without g c.items.self (frame_of g c.desc.result.addr) inv.places);
      lent = rw (take-desc c.args.told.now c.items.i c.desc.result (search rules) c.desc.ensures, c.push.ensures)
          (lent-more g c.args.self.now c.items.self c.item.new.self (take c.items.i (descs_of c.args.told.now)) c.items.items c.desc.result c.in-Some.item inv.lent item.desc item.frame item.from item.left);
      count = omega (arith, ap length c.push.ensures, length-append c.items.items (c.in-Some.item ∷ []), inv.count);
      size = ap length item.left ∙ length-without c.items.self (frame_of g c.desc.result.addr) ∙ inv.size;
    }
