use Rattle.xsk_cli.proofs.threads.run.Goals as goal

pub returns-then-is_forward-clause-threads : goal.returns-then-is_forward-clause-threads
returns-then-is_forward-clause-threads g c is = c.run_forward.ensures

pub returns-clause-plain : goal.returns-clause-plain
returns-clause-plain g c is = c.run_plain.ensures.answer
