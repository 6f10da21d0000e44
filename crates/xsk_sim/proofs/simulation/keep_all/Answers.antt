use Rattle.std.proofs.Common.{rules, ◌≡◌, List, [], ◌∷◌, ◌++◌, length, length-append, map, arith, ap, sym, ◌∙◌, ℕ}
use Rattle.std.specs.Prelude.{flat_map}
use Rattle.std.specs.Vec.Iter.{into_iter_items}
use Rattle.std.proofs.lemmas.List.{length-map}
use Rattle.xsk_machine.specs.Acts.{packets_in}
use Rattle.xsk_machine.specs.Workers.{kept_of, figures_kept}
use Rattle.xsk_machine.specs.declared.figures.DriverFigures.{DriverFigures}
use Rattle.xsk_sim.proofs.Ending.{list_few, figures_few, flat_more}
use Rattle.xsk_sim.proofs.simulation.keep_all.Goals as goal

pub keep-requires-clause-figures : goal.keep-requires-clause-figures
keep-requires-clause-figures c =
    let first : into_iter_items c.loop-seat.seat-iterator ≡ c.in-Some.seat ∷ into_iter_items c.next.new.self = search rules in
    let left = ap length first in
    omega (arith, figures_few c.args.classes c.into_machine.result, left, c.loop-seat.invariant.few_figures, c.loop-seat.invariant.room_figures, c.loop-seat.kept.figures.ok.0)

pub keep-requires-clause-sent : goal.keep-requires-clause-sent
keep-requires-clause-sent c =
    let first : into_iter_items c.loop-seat.seat-iterator ≡ c.in-Some.seat ∷ into_iter_items c.next.new.self = search rules in
    let left = ap length first in
    omega (arith, list_few c.into_machine.result, left, c.loop-seat.invariant.few_sent, c.loop-seat.invariant.room_sent, c.loop-seat.kept.sent.ok.0)

pub loop-seat-preserved : goal.loop-seat-preserved
loop-seat-preserved c =
    let seat = c.in-Some.seat in
    let was = c.loop-seat.invariant in
    let first : into_iter_items c.loop-seat.seat-iterator ≡ seat ∷ into_iter_items c.next.new.self = search rules in
    let left = ap length first in
    let more = length-append c.loop-seat.yielded (seat ∷ []) in
    let sent = c.keep.ensures.sent ∙ ap (λ ls. ls ++ kept_of c.into_machine.result) was.sent ∙ ap (λ m. flat_map (λ s. kept_of s.machine) c.loop-seat.yielded ++ kept_of m) c.into_machine.ensures
    ∙ sym (flat_more (λ s. kept_of s.machine) c.loop-seat.yielded seat) in
    let figures = c.keep.ensures.figures ∙ ap (λ fs. fs ++ figures_kept c.args.classes c.into_machine.result) was.figures
    ∙ ap (λ m. flat_map (λ s. figures_kept c.args.classes s.machine) c.loop-seat.yielded ++ figures_kept c.args.classes m) c.into_machine.ensures
    ∙ sym (flat_more (λ s. figures_kept c.args.classes s.machine) c.loop-seat.yielded seat) in
    record {
      sent = sent;
      figures = figures;
      few_sent = omega (
        arith,
        more,
        was.few_sent,
        list_few c.into_machine.result,
        ap (length {A = List (List ℕ)}) c.keep.ensures.sent,
        length-append (map packets_in c.loop-seat.kept.sent.items) (kept_of c.into_machine.result),
        length-map c.loop-seat.kept.sent.items packets_in,
        length-map c.keep.new.self.sent.items packets_in,
      );
      few_figures = omega (
        arith,
        more,
        was.few_figures,
        figures_few c.args.classes c.into_machine.result,
        ap (length {A = DriverFigures}) c.keep.ensures.figures,
        length-append c.loop-seat.kept.figures.items (figures_kept c.args.classes c.into_machine.result),
      );
      room_sent = omega (arith, more, left, was.room_sent, c.keep.ensures.room.1);
      room_figures = omega (arith, more, left, was.room_figures, c.keep.ensures.room.0);
    }
