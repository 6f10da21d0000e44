use Rattle.std.proofs.Common.{◌∙◌, ap, sym}
use Rattle.xsk_check.specs.Checking.{Checked}
use Rattle.xsk_check.proofs.Hinting.{heard-open, hinted, no-calls}
use Rattle.xsk_check.proofs.check.Check.append_hints.Goals as goal

pub push_hints-requires : goal.push_hints-requires
push_hints-requires c =
    let stands = c.requires.1 in
    heard-open stands.read.header.next stands.read c.args.self.now.court c.in-Some.court (ap (λ (k : Checked). k.court) (sym c.self.view_is) ∙ c.in-Some.is) stands.heard.court

pub returns-in-Some : goal.returns-in-Some
returns-in-Some c = λ bytes calls stands verdict.
    hinted c.args.self.now c.in-Some.court c.push_hints.result c.args.text.now.items c.push_hints.new.text.items bytes calls
    (ap (λ (k : Checked). k.court) (sym c.self.view_is) ∙ c.in-Some.is) stands verdict (λ follows. c.push_hints.ensures _ _ follows)

pub returns-in-None : goal.returns-in-None
returns-in-None c = λ bytes calls stands verdict.
    absurd (no-calls c.args.self.now bytes calls (ap (λ (k : Checked). k.court) (sym c.self.view_is) ∙ c.in-None.is) stands verdict)
