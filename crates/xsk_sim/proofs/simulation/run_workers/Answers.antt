use Rattle.std.proofs.Common.{◌≡◌, ℕ, ap, subst, sym, ◌∙◌, length, Err, rules}
use Rattle.xsk_model.specs.Config.{Config, classes_of}
use Rattle.xsk_sim.specs.Left.{HasStalledOn}
use Rattle.xsk_sim.specs.declared.simulation.Stopped.TheVariants.{Stalled}
use Rattle.xsk_sim.proofs.Beginning.{seated_opened}
use Rattle.xsk_sim.proofs.simulation.run_workers.Goals as goal

pub run_to_end-requires-clause-ready : goal.run_to_end-requires-clause-ready
run_to_end-requires-clause-ready g c =
    let set = c.requires.set in
    record {
      setting = set.0;
      frames = c.args.frames.items;
      seated = seated_opened set.0 c.args.config c.args.frames.items c.args.workers (g.S.Server.seen c.in-Ok.server) set.1 c.requires.opened c.in-Ok.ensures set.2;
    }

pub returns-in-Ok-run_to_end-clause-ended : goal.returns-in-Ok-run_to_end-clause-ended
returns-in-Ok-run_to_end-clause-ended g c s same regular set wire manner =
    c.in-Ok-run_to_end.ensures.ended s c.args.frames.items regular
    (seated_opened s c.args.config c.args.frames.items c.args.workers (g.S.Server.seen c.in-Ok.server) same c.requires.opened c.in-Ok.ensures set) (c.classes-classes.ensures ∙ ap classes_of (sym same)) wire manner

pub returns-in-Ok-run_to_end-clause-pairs : goal.returns-in-Ok-run_to_end-clause-pairs
returns-in-Ok-run_to_end-clause-pairs g c =
    let set = c.requires.set in
    let lists = c.in-Ok-run_to_end.ensures.lists set.0 c.args.frames.items
    (seated_opened set.0 c.args.config c.args.frames.items c.args.workers (g.S.Server.seen c.in-Ok.server) set.1 c.requires.opened c.in-Ok.ensures set.2) in
    (lists.0 ∙ ap (λ (k : Config). length k.pairs) set.1, lists.1 ∙ set.1)

pub returns-in-Err-Stalled-clause-stalled : goal.returns-in-Err-Stalled-clause-stalled
returns-in-Err-Stalled-clause-stalled g c s round object counters same set is =
    let seated = seated_opened s c.args.config c.args.frames.items c.args.workers (g.S.Server.seen c.in-Ok.server) same c.requires.opened c.in-Ok.ensures set in
    let there : c.run_to_end.new.server ≡ object = cc in
    let now : c.in-Err-Stalled.round ≡ round = cc in
    let kept : c.in-Err-Stalled.counters ≡ counters = cc in
    let told : c.in-Err-Stalled.field-0 ≡ Stalled c.in-Err-Stalled.round c.in-Err-Stalled.counters = search rules in
    subst (λ (o : g.row.S.Denot). HasStalledOn s c.args.frames.items c.args.terms.order round (g.S.Server.seen o) counters.items) there
    (c.in-Err-Stalled.ensures.stalled s c.args.frames.items round counters seated (c.classes-classes.ensures ∙ ap classes_of (sym same)) (ap Err (told ∙ ap (λ (n : ℕ). Stalled n c.in-Err-Stalled.counters) now ∙ ap (Stalled round) kept)))
