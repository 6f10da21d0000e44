use Rattle.std.proofs.Common.{Bool, [], refl, sym, subst}
use Rattle.xsk_cli.specs.Misfit.{TellsMisfit}
use Rattle.xsk_cli.proofs.misfit.explain_misfit.Goals as goal

pub returns-then-not-why : goal.returns-then-not-why
returns-then-not-why c =
    (c.requires.verdict, subst (λ (asked : Bool). TellsMisfit asked c.args.layout.now c.args.journal.now c.args.line []) (sym c.if-not-why.true) refl)

pub returns-in-Ok : goal.returns-in-Ok
returns-in-Ok c =
    let is = c.in-Ok.ensures in (
      is.0,
      (c.requires.verdict, subst (λ (asked : Bool). TellsMisfit asked c.args.layout.now c.args.journal.now c.args.line is.0) (sym c.if-not-why.false) is.1),
      is.2,
    )
