use Rattle.xsk_machine.specs.Workers.{kept_in}
use Rattle.xsk_workers.proofs.forwarding.forward.Given as goal

-- the verdicts are those that the drivers keep
abbrev pub ghosts-run_drivers : goal.ghosts-run_drivers
ghosts-run_drivers g a = record { verdicts = kept_in a.drivers.items }
