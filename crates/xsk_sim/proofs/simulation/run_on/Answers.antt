use Rattle.std.proofs.Common.{◌≡◌, ℕ, subst, refl, sym, Err}
use Rattle.xsk_umem.specs.Geometry.{IsGeometry}
use Rattle.xsk_model.specs.Config.{Config, IsConfig, IsRegular}
use Rattle.xsk_turns.specs.Workers.{Setting, AreGiven}
use Rattle.xsk_driver.specs.Asking.{IsAnswer}
use Rattle.xsk_machine.specs.Workers.{HasGiven, setting_by}
use Rattle.xsk_sim.proofs.Verdicts.{if_ok}
use Rattle.xsk_sim.specs.Left.{HasStalledOn}
use Rattle.xsk_sim.specs.SoFar.{CounterVec}
use Rattle.xsk_sim.specs.Runs.{HasEnded, HasEndedUnder}
use Rattle.xsk_sim.specs.Shown.{Shown, IsShownBy}
use Rattle.xsk_sim.proofs.Stretch.{none_stands_still}
use Rattle.xsk_sim.specs.declared.simulation.Unended.TheVariants.{Stalled}
use Rattle.xsk_sim.proofs.simulation.run_on.Given as given
use Rattle.xsk_sim.proofs.simulation.run_on.Goals as goal

pub run_workers-requires-clause-opened : goal.run_workers-requires-clause-opened
run_workers-requires-clause-opened g c = record {
  geometry = subst (λ (k : Config). IsGeometry k.geometry) c.in-Ok.ensures c.geometry-geometry.ensures.lawful;
  config = subst IsConfig c.config.view_is c.config.invariant;
  lawful = c.requires.regular.lawful;
  umem = c.requires.frames;
}

pub run_workers-requires-clause-set : goal.run_workers-requires-clause-set
run_workers-requires-clause-set g c =
    let set = c.in-Ok-all_workers.ensures.set in
    (setting_by c.in-Ok.shared c.args.terms.wire c.args.terms.manner c.args.terms.packets.now set.0, c.in-Ok.ensures, set.3)

pub returns-clause-pairs : goal.returns-clause-pairs
returns-clause-pairs g c = c.run_workers.ensures.pairs

pub returns-clause-ended : goal.returns-clause-ended
returns-clause-ended g c =
    let set = c.in-Ok-all_workers.ensures.set in
    let s : Setting = setting_by c.in-Ok.shared c.args.terms.wire c.args.terms.manner c.args.terms.packets.now set.0 in
    if_ok c.run_workers.result (λ ran. (run : Shown) × HasEnded s c.args.frames.items c.args.terms.order run × IsShownBy (g.S.Server.seen ran.0) ran.1 run) _
    (λ ran is. (
      is.0,
      subst (λ (k : Config). HasEndedUnder g.F.Fn c.args.chain.now c.all_workers.new.chain c.args.terms.wire c.args.terms.manner k c.args.terms.packets.now c.args.frames.items c.args.terms.order is.0) c.in-Ok.ensures
          (record { verdicts = set.0; once = set.1; asked = set.2; ended = is.1 }),
      is.2,
    ))
    (c.run_workers.ensures.ended s c.in-Ok.ensures (subst IsRegular (sym c.in-Ok.ensures) c.requires.regular) set.3 refl refl)

-- a run that has stalled
stalls : (g : given.Over) (c : goal.After-drop-shared-inside-4 g) (round : ℕ) (object : g.row.S.Denot) (counters : CounterVec) → c.run_workers.result ≡ Err (Stalled round object counters)
    → HasStalledOn (setting_by c.args.config c.args.terms.wire c.args.terms.manner c.args.terms.packets.now c.in-Ok-all_workers.ensures.set.0) c.args.frames.items c.args.terms.order round (g.S.Server.seen object) counters.items
stalls g c round object counters is =
    let set = c.in-Ok-all_workers.ensures.set in
    let s : Setting = setting_by c.in-Ok.shared c.args.terms.wire c.args.terms.manner c.args.terms.packets.now set.0 in
    subst (λ (k : Config). HasStalledOn (setting_by k c.args.terms.wire c.args.terms.manner c.args.terms.packets.now set.0) c.args.frames.items c.args.terms.order round (g.S.Server.seen object) counters.items) c.in-Ok.ensures
    (c.run_workers.ensures.stalled s round object counters c.in-Ok.ensures set.3 is)

pub returns-clause-goes_on : goal.returns-clause-goes_on
returns-clause-goes_on g c ample closes whole round object counters is =
    let s : Setting = setting_by c.args.config c.args.terms.wire c.args.terms.manner c.args.terms.packets.now c.in-Ok-all_workers.ensures.set.0 in
    let on = stalls g c round object counters is in
    none_stands_still s c.args.frames.items c.args.terms.order round (record { regular = c.requires.regular; closes = closes }) ample whole (record { past = on.stalled.past; still = on.stalled.still })

pub returns-clause-stalled : goal.returns-clause-stalled
returns-clause-stalled g c round object counters is =
    let on = stalls g c round object counters is in
    record {
      under = record {
        verdicts = c.in-Ok-all_workers.ensures.set.0;
        once = subst (λ (k : Config). HasGiven g.F.Fn k c.args.terms.packets.now c.in-Ok-all_workers.ensures.set.0 c.args.chain.now c.all_workers.new.chain) c.in-Ok.ensures c.in-Ok-all_workers.ensures.set.1;
        asked = subst (λ (k : Config). AreGiven (IsAnswer g.F.Fn c.args.chain.now) (setting_by k c.args.terms.wire c.args.terms.manner c.args.terms.packets.now c.in-Ok-all_workers.ensures.set.0)) c.in-Ok.ensures c.in-Ok-all_workers.ensures.set.2;
        stalled = on.stalled;
      };
      run = on.run;
      counted = on.counted;
    }
