use Rattle.std.proofs.Common.{rules, ◌≡◌, ◌++◌, ◌∙◌, List, ℕ, None, Some, ap, append_assoc, subst}
use Rattle.xsk_audit.specs.Lines.{journal_of, lines_of}
use Rattle.xsk_audit.specs.Telling.{AreLegal}
use Rattle.xsk_audit.specs.Why.{TellsWhy}
use Rattle.xsk_audit.specs.declared.why.Stopped.{Stopped}
use Rattle.xsk_model.specs.Config.{Config}
use Rattle.xsk_plain.specs.Engine.{Engine}
use Rattle.xsk_socket.specs.Regular.{regular_of}
use Rattle.xsk_why.specs.Held.{callers_text}
use Rattle.xsk_why.specs.Rings.{rings_text}
use Rattle.xsk_cli.specs.Line.{line_of}
use Rattle.xsk_cli.specs.declared.status.Status.TheVariants.{NotLegal}
use Rattle.xsk_cli.proofs.Auditing.{never_both, reasoned}
use Rattle.xsk_cli.proofs.misfit.explanation.Goals as goal

pub unreachable-requires : goal.unreachable-requires
unreachable-requires c =
    let journal = c.args.journal.now in
    let tells : TellsWhy c.in_ok-config.config journal c.in_ok-text.text.items c.why_not_legal.new.out.items None =
    subst (TellsWhy c.in_ok-config.config journal c.in_ok-text.text.items c.why_not_legal.new.out.items) c.in_default.is c.in_ok-stopped.ensures in
    never_both (regular_of c.args.layout.now) journal c.args.at (subst (λ (k : Config). AreLegal k (journal_of (lines_of journal))) c.in_ok-config.ensures.config tells.0) c.requires.verdict

pub returns : goal.returns
returns c =
    let layout = c.args.layout.now in
    let journal = c.args.journal.now in
    let before : List ℕ = c.in_ok-text.text.items in
    let after : List ℕ = c.why_not_legal.new.out.items in
    let all : List ℕ = c.append_callers.new.text.items in
    let stop : Stopped = c.in-Some.stopped in
    let object : Engine = c.object-object.result.now in
    let rings = rings_text object.config object.rings in
    let callers = callers_text object.config object.log in
    let first : before ≡ line_of (NotLegal c.args.at) = search rules in
    let tells : TellsWhy c.in_ok-config.config journal before after (Some stop) = subst (TellsWhy c.in_ok-config.config journal before after) c.in-Some.is c.in_ok-stopped.ensures in
    let shown : all ≡ after ++ (rings ++ callers) = c.in_ok-append_callers.ensures ∙ ap (λ (t : List ℕ). t ++ callers) c.in_ok-append_rings.ensures ∙ append_assoc after rings callers in
    reasoned layout c.in_ok-config.config journal before after all c.args.at stop c.in_ok-config.ensures.config first c.requires.verdict tells
    (subst (λ (e : Engine). all ≡ after ++ (rings_text e.config e.rings ++ callers_text e.config e.log)) c.object-object.ensures shown)
