use Rattle.std.proofs.Common.{◌≡◌, ◌∙◌, None, length, map, refl, ap, subst, sym, append-nil}
use Rattle.xsk_machine.specs.Acts.{packets_in}
use Rattle.xsk_rings.specs.Rounds.{mine_of}
use Rattle.xsk_table.specs.View.{idle}
use Rattle.xsk_turns.specs.Statistics.{capped}
use Rattle.xsk_workers.specs.Hands.{TeamShown}
use Rattle.xsk_workers.proofs.team.TeamLeaves.leave.Goals as goal

pub returns-clause-pass : goal.returns-clause-pass
returns-clause-pass g c = c.into_parts.ensures.pass ∙ ap (λ (t : TeamShown). t.last.pass) c.self.view_is

pub returns-clause-rests : goal.returns-clause-rests
returns-clause-rests g c = subst (λ (t : TeamShown). t.last.pass.view.flight ≡ idle) c.self.view_is c.into_parts.ensures.rests

pub returns-clause-calls : goal.returns-clause-calls
returns-clause-calls g c = c.into_parts.ensures.calls ∙ ap (λ (t : TeamShown). capped (length (mine_of t.last.pass))) c.self.view_is

-- of several hands nothing is kept
pub returns-clause-kept : goal.returns-clause-kept
returns-clause-kept g c = (
  None,
  tt,
  record { room = (refl, refl); figures = sym (append-nil c.args.kept.now.figures.items); sent = sym (append-nil (map packets_in c.args.kept.now.sent.items)) },
)
