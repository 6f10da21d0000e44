use Rattle.std.proofs.Common.{◌∙◌, ◌+◌, ℕ, List, ap, subst, length, replicate, None}
use Rattle.xsk_log.specs.Log.{entries_of}
use Rattle.xsk_umem.specs.Geometry.{Geometry}
use Rattle.xsk_model.specs.Opening.{IsOpened}
use Rattle.xsk_audit.specs.Telling.{EndsAt}
use Rattle.xsk_audit.specs.Lines.{lines_of, journal_of}
use Rattle.xsk_audit.proofs.Sound.{sound-verdict}
use Rattle.xsk_audit.proofs.Firsts.{ends-at}
use Rattle.xsk_audit.proofs.Making.{opened-playing}
use Rattle.xsk_audit.proofs.auditing.audit.Goals as goal

pub play-requires : goal.play-requires
play-requires c =
    let places = c.in_ok-shelf.ensures ∙ ap (λ (n : ℕ). replicate n None) (c.frames.ensures.value ∙ ap (λ (g : Geometry). g.frames) c.geometry.ensures.value) in
    let opened : IsOpened c.args.config c.args.frames.items = record { geometry = c.geometry.ensures.lawful; config = c.pairs.ensures.lawful; lawful = c.requires.lawful; umem = c.requires.frames } in
    record { opened = (c.args.frames.items, opened-playing c.in-Ok.checked c.args.config c.args.frames.items c.in_ok-shelf.shelf opened c.in-Ok.ensures.config c.in-Ok.ensures.state c.in-Ok.ensures.log.0 places) }

pub returns-then-compared : goal.returns-then-compared
returns-then-compared c =
    let v = sound-verdict c.args.config c.play.new.checked _ c.compare-compared.result.same (entries_of c.log.result.now) (lines_of c.pass_report-passed.result.1.now) (journal_of (lines_of c.args.text.now)) c.compare-compared.result.whole
    c.compare-compared.ensures.same c.if-compared.true c.log.ensures.history c.log.ensures.entries (c.play.ensures.config ∙ c.in-Ok.ensures.config) (ap (λ ps. length ps) c.pairs.ensures.value) c.pass_report-passed.ensures.journal in
    ((v.0, v.1), v.2)

pub returns : goal.returns
returns c =
    let same = c.compare-compared.result.same in
    let ends = ends-at c.args.config c.play.new.checked _ same (entries_of c.log.result.now) (lines_of c.pass_report-passed.result.1.now) c.compare-compared.result.whole c.compare-compared.ensures.same c.if-compared.false
    c.in_ok-play.ensures.played c.log.ensures.entries (c.play.ensures.config ∙ c.in-Ok.ensures.config) (ap (λ ps. length ps) c.pairs.ensures.value) in
    (same, ap (λ (n : ℕ). n + same + 1) c.pass_report-passed.ensures.report, subst (λ (ls : List (List ℕ)). EndsAt c.args.config ls same) c.pass_report-passed.ensures.journal ends)
