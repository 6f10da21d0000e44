use Rattle.std.proofs.Common.{◌∙◌, ap, subst, sym}
use Rattle.xsk_model.specs.Config.{IsRegular}
use Rattle.xsk_workers.proofs.forwarding.run_members.Goals as goal

pub classes-requires : goal.classes-requires
classes-requires g c = subst IsRegular (sym c.config-config.ensures) c.requires.regular

pub give_back-calls-requires-clause-run : goal.give_back-calls-requires-clause-run
give_back-calls-requires-clause-run g c = (c.requires.run.0, c.requires.run.1, c.requires.run.2 c.run_crew-members.result.items (c.run_crew-members.ensures.seats ∙ ap (λ k. k.seats) c.in_ok-crew.ensures) c.run_crew-members.ensures.whole)

pub returns : goal.returns
returns g c hands s will =
    let run = will c.run_crew-members.result.items (c.run_crew-members.ensures.seats ∙ ap (λ k. k.seats) c.in_ok-crew.ensures) c.run_crew-members.ensures.whole in
    record {
      given = c.give_back-calls.ensures.given hands s run;
      are_sent = c.give_back-calls.ensures.sent hands s run;
      are_figures = c.give_back-calls.ensures.figures hands s run;
      are_calls = c.give_back-calls.ensures.calls;
    }
