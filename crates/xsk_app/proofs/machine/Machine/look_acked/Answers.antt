use Rattle.xsk_app.proofs.machine.Machine.look_acked.Goals as goal

pub invariant_of-self-clause-ready : goal.invariant_of-self-clause-ready
invariant_of-self-clause-ready c = tt
