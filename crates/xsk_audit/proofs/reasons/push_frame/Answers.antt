use Rattle.std.proofs.Common.{rules, ◌≡◌, ◌++◌, ◌∙◌, ℕ, List, Some, ap, take}
use Rattle.std.specs.Prelude.{codes}
use Rattle.std.specs.Fmt.{decimal}
use Rattle.xsk_audit.specs.Lines.{lines_of}
use Rattle.xsk_audit.specs.Reading.{Reads, read_view}
use Rattle.xsk_audit.specs.Reasons.{frame_text, place_text}
use Rattle.xsk_audit.proofs.Following.{on-ok, piece-after}
use Rattle.xsk_audit.proofs.reasons.push_frame.Goals as goal

pub returns : goal.returns
returns c =
    let out = c.args.out.now.items in
    let before = take c.args.before.count (lines_of c.args.before.text.now) in
    let frame = c.in-Some.frame in
    let same : c.from.result ≡ frame = search rules in
    let number = c.in_ok-push_number.ensures ∙ ap (λ (n : ℕ). c.push_word.new.out.items ++ decimal n) same in
    let last = c.last_naming.result in
    let first = codes "frame " ++ decimal frame in
    let words = first ++ codes " was last named by " in
    let two = piece-after out (codes "frame ") (decimal frame) c.push_word.new.out.items c.push_number.new.out.items c.in_ok-push_word.ensures number in
    let three = piece-after out first (codes " was last named by ") c.push_number.new.out.items c.push_word-2.new.out.items two c.in_ok-push_word-2.ensures in
    let told : words ++ place_text (read_view last) ≡ frame_text c.args.geometry.now before (Some frame) = ap (λ (found : Reads ℕ). words ++ place_text found) c.last_naming.ensures in
    on-ok c.push_place.result _ _
    (λ e.
    piece-after out words (place_text (read_view last)) c.push_word-2.new.out.items c.push_place.new.out.items three e
    ∙ ap (λ (text : List ℕ). out ++ text) (told ∙ ap (frame_text c.args.geometry.now before) c.in-Some.ensures))
    c.push_place.ensures
