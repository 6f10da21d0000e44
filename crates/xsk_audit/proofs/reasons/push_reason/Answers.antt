use Rattle.std.proofs.Common.{◌++◌, ◌∙◌, ap, sym, take}
use Rattle.std.specs.Prelude.{codes}
use Rattle.xsk_audit.specs.Lines.{lines_of}
use Rattle.xsk_audit.specs.Reasons.{frames_text, reason_text}
use Rattle.xsk_audit.specs.Shelf.{descs_of}
use Rattle.xsk_audit.specs.declared.reasons.Reason.{Reason}
use Rattle.xsk_audit.proofs.Following.{on-ok, piece-after}
use Rattle.xsk_audit.proofs.reasons.push_reason.Goals as goal

pub returns-in_ok-push_word-in-Frames : goal.returns-in_ok-push_word-in-Frames
returns-in_ok-push_word-in-Frames c =
    let out = c.args.out.now.items in
    let g = c.args.geometry.now in
    let before = take c.args.before.count (lines_of c.args.before.text.now) in
    let descs = descs_of c.args.told.now in
    on-ok c.push_frames.result _ _
    (λ e.
    piece-after out (codes "no caller has one of these frames, or it is named twice\n") (frames_text g before descs) c.push_word-in-Frames.new.out.items c.push_frames.new.out.items
    c.in_ok-push_word-in-Frames.ensures e
    ∙ ap (λ (reason : Reason). out ++ reason_text g before descs c.args.right.now reason) (sym c.in-Frames.is))
    c.push_frames.ensures

pub returns-in_ok-push_word-in-Reply : goal.returns-in_ok-push_word-in-Reply
returns-in_ok-push_word-in-Reply c =
    let out = c.args.out.now.items in
    let g = c.args.geometry.now in
    let before = take c.args.before.count (lines_of c.args.before.text.now) in
    let descs = descs_of c.args.told.now in
    on-ok c.push_bytes.result _ _
    (λ e.
    piece-after out (codes "it would be ") c.args.right.now c.push_word-in-Reply.new.out.items c.push_bytes.new.out.items
    c.in_ok-push_word-in-Reply.ensures e
    ∙ ap (λ (reason : Reason). out ++ reason_text g before descs c.args.right.now reason) (sym c.in-Reply.is))
    c.push_bytes.ensures
