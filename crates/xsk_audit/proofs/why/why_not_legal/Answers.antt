use Rattle.std.proofs.Common.{◌+◌, ◌∙◌, ◌++◌, ℕ, List, refl, ap, subst, replicate, None, take}
use Rattle.xsk_umem.specs.Geometry.{Geometry}
use Rattle.xsk_model.specs.Config.{Config}
use Rattle.xsk_model.specs.Opening.{IsOpened}
use Rattle.xsk_audit.specs.Lines.{lines_of, journal_of}
use Rattle.xsk_audit.specs.Reasons.{reason_text}
use Rattle.xsk_audit.specs.Shelf.{descs_of}
use Rattle.xsk_audit.specs.Telling.{AreLegal}
use Rattle.xsk_audit.specs.Why.{FollowsUpTo}
use Rattle.xsk_audit.proofs.Following.{misfit}
use Rattle.xsk_audit.proofs.Making.{opened-playing}
use Rattle.xsk_audit.proofs.why.why_not_legal.Goals as goal

pub follow-requires-clause-opened : goal.follow-requires-clause-opened
follow-requires-clause-opened c =
    let places = c.in_ok-shelf.ensures ∙ ap (λ (n : ℕ). replicate n None) (c.frames.ensures.value ∙ ap (λ (g : Geometry). g.frames) c.geometry.ensures.value) in
    let opened : IsOpened c.args.config c.args.frames.items = record { geometry = c.geometry.ensures.lawful; config = c.pairs-pairs.ensures.lawful; lawful = c.requires.lawful; umem = c.requires.frames } in
    (c.args.frames.items, opened-playing c.in-Ok.checked c.args.config c.args.frames.items c.in_ok-shelf.shelf opened c.in-Ok.ensures.config c.in-Ok.ensures.state c.in-Ok.ensures.log.0 places)

pub returns-in_default-2 : goal.returns-in_default-2
returns-in_default-2 c =
    let config = c.in_ok-same.ensures.config ∙ c.in-Ok.ensures.config in
    let journal = lines_of c.pass_report-passed.result.1.now in
    let follows = subst (FollowsUpTo c.follow.new.checked journal (descs_of c.follow.new.told) c.follow.new.right) c.in_default-2.is c.in_ok-same.ensures.follows in
    (subst (λ (d : Config). AreLegal d (journal_of (lines_of c.args.text.now))) config (subst (AreLegal c.follow.new.checked.config) c.pass_report-passed.ensures.journal follows), refl)

pub returns : goal.returns
returns c =
    let same = c.in-Some.same in
    let passed = c.pass_report-passed.result.0 in
    let text = c.args.text.now in
    let descs = descs_of c.follow.new.told in
    let before = take (passed + same) (lines_of text) in
    let right = c.follow.new.right in
    let engine = c.follow.new.checked in
    let geometry = c.geometry-2.ensures.value ∙ ap (λ (k : Config). k.geometry) c.config-2.ensures in (
      c.in_ok-same.ensures.config ∙ c.in-Ok.ensures.config,
      (
        reason_text engine.config.geometry before descs right c.in-Some.reason,
        misfit engine text passed same (lines_of c.pass_report-passed.result.1.now) descs right c.in-Some.reason c.pass_report-passed.ensures.report c.pass_report-passed.ensures.journal
            (subst (FollowsUpTo engine (lines_of c.pass_report-passed.result.1.now) descs right) c.in-Some.is c.in_ok-same.ensures.follows),
        c.in_ok-push_reason.ensures ∙ ap (λ (t : List ℕ × Geometry). c.args.out.now.items ++ reason_text t.1 before descs t.0 c.in-Some.reason) (λ i. (c.bytes.ensures.value i, geometry i)),
      ),
    )
