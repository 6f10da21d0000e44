use Rattle.std.proofs.Common.{◌≡◌, ◌≤◌, map, length, vec_len, vec_capacity}
use Rattle.xsk_cli.specs.Cause.{NeverFalls, Unchanged}
use Rattle.xsk_cli.specs.Steps.{HaveRead}
use Rattle.xsk_cli.proofs.input.read_inputs.Given as goal

abbrev pub invariant-loop-port : goal.invariant-loop-port
invariant-loop-port g l = record {
  have : HaveRead l.most (map (λ name. name.now) l.names) (map (λ bytes. bytes.items) l.inputs.items) l.port
      (g.B.Bay.moment l.initial.bay)
      (g.B.Bay.moment l.bay);
  unchanged : Unchanged (g.B.Bay.moment l.initial.bay).faults (g.B.Bay.moment l.bay).faults;
  falls : NeverFalls (g.B.Bay.moment l.initial.bay).faults (g.B.Bay.moment l.bay).faults;
  count : vec_len l.inputs ≡ l.port;
  room : length l.names ≤ vec_capacity l.inputs;
}
