use Rattle.std.proofs.Common.{◌≡◌, map, ℕ, []}
use Rattle.xsk_io.specs.Bay.{Adds, Same}
use Rattle.xsk_io.specs.declared.bay.Stream.TheVariants.{Input, Report}
use Rattle.xsk_cli.specs.Cause.{NeverFalls, Unchanged}
use Rattle.xsk_cli.specs.Steps.{outputs_in}
use Rattle.xsk_cli.specs.Streams.{AreWritten}
use Rattle.xsk_cli.proofs.output.write_outputs.Given as goal

abbrev pub invariant-loop-port : goal.invariant-loop-port
invariant-loop-port g l = record {
  are : AreWritten (map (λ name. name.now) l.names) (outputs_in (g.L.Leaves.sent l.initial.left) l.outputs) l.port l.port
      (g.B.Bay.moment l.initial.bay)
      (g.B.Bay.moment l.bay);
  kept : l.left ≡ l.initial.left;
  report : (g.B.Bay.moment l.bay).held Report ≡ (g.B.Bay.moment l.initial.bay).held Report;
  unoffered : Adds ((g.B.Bay.moment l.initial.bay).offers Report) ((g.B.Bay.moment l.bay).offers Report) [];
  opened : (port : ℕ) → (g.B.Bay.moment l.bay).is_open (Input port) ≡ (g.B.Bay.moment l.initial.bay).is_open (Input port);
  asked : (port : ℕ) → (g.B.Bay.moment l.bay).asked (Input port) ≡ (g.B.Bay.moment l.initial.bay).asked (Input port);
  left : Same (g.B.Bay.moment l.initial.bay).left (g.B.Bay.moment l.bay).left;
  unchanged : Unchanged (g.B.Bay.moment l.initial.bay).faults (g.B.Bay.moment l.bay).faults;
  falls : NeverFalls (g.B.Bay.moment l.initial.bay).faults (g.B.Bay.moment l.bay).faults;
}
