use Rattle.std.proofs.Common.{rules, ◌≡◌, ◌∙◌, ◌++◌, ℕ, List, sym, ap, arith, take}
use Rattle.std.proofs.lemmas.List.{flat_map_more, length-map, take_all}
use Rattle.xsk_umem.specs.Geometry.{frame_of}
use Rattle.xsk_umem.specs.declared.batch.Item.{Item}
use Rattle.xsk_umem.specs.declared.batch.XdpDesc.{XdpDesc}
use Rattle.xsk_audit.specs.Lines.{lines_of}
use Rattle.xsk_audit.specs.Reasons.{frame_text, frames_text}
use Rattle.xsk_audit.specs.Shelf.{descs_of}
use Rattle.xsk_audit.proofs.Shelves.{take-desc}
use Rattle.xsk_audit.proofs.reasons.push_frames.Goals as goal

pub loop-i-preserved : goal.loop-i-preserved
loop-i-preserved c =
    let l = c.loop-i in
    let g = c.args.geometry.now in
    let before = take c.args.before.count (lines_of c.args.before.text.now) in
    let descs = descs_of c.args.told.now in
    let one = frame_text g before (frame_of g c.desc.result.addr) in
    c.in_ok-push_frame.ensures
    ∙ ap (λ (text : List ℕ). text ++ one) l.invariant
    ∙ flat_map_more (λ (desc : XdpDesc). frame_text g before (frame_of g desc.addr)) c.args.out.now.items (take l.i descs) c.desc.result
    ∙ ap (λ (some : List XdpDesc). c.args.out.now.items ++ frames_text g before some) (sym (take-desc c.args.told.now l.i c.desc.result (search rules) c.desc.ensures))

pub returns : goal.returns
returns c =
    let l = c.loop-i in
    let g = c.args.geometry.now in
    let before = take c.args.before.count (lines_of c.args.before.text.now) in
    let descs = descs_of c.args.told.now in
    let all : take l.i descs ≡ descs = take_all l.i descs (omega (arith, length-map c.args.told.now (λ (i : Item). i.desc), c.loop-i-test.false, c.len-i-end.ensures.value)) in
    l.invariant ∙ ap (λ (some : List XdpDesc). c.args.out.now.items ++ frames_text g before some) all
