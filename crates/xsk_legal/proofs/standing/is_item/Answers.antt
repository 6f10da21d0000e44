use Rattle.std.proofs.Common.{rules, ◌≡◌}
use Rattle.std.specs.Prelude.{IfSome, length}
use Rattle.std.specs.Option.{option_map}
use Rattle.xsk_umem.specs.Frame.{Frame}
use Rattle.xsk_umem.specs.Geometry.{frame_of}
use Rattle.xsk_legal.proofs.standing.is_item.Goals as goal

pub returns-then-is_whole : goal.returns-then-is_whole
returns-then-is_whole c =
    let frame : option_map (λ (f : Frame). f.number) c.args.item.now.frame ≡ frame_of c.args.geometry.now c.args.item.now.desc.addr = search rules in
    let body : IfSome c.args.item.now.frame (λ (f : Frame). length f.bytes ≡ c.args.geometry.now.chunk) = search rules in (
      λ yes. record { address = c.is_plain.ensures.numbers.0; len = c.is_plain.ensures.numbers.1; options = c.is_plain.ensures.numbers.2; frame = frame; body = body; plain = c.is_plain.ensures.plain.0 yes },
      λ h. c.is_plain.ensures.plain.1 h.plain,
    )
