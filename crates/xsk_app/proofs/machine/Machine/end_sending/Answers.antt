use Rattle.xsk_app.proofs.machine.Machine.end_sending.Goals as goal

pub invariant_of-self-clause-ready : goal.invariant_of-self-clause-ready
invariant_of-self-clause-ready c = tt
