use Rattle.xsk_pcapng.proofs.FileLaws as laws
use Rattle.xsk_pcapng.proofs.laws.one_refusal.Goals as goal

pub returns-clause-one : goal.returns-clause-one
returns-clause-one c = laws.one_refusal

pub returns-clause-no_file : goal.returns-clause-no_file
returns-clause-no_file c = laws.refused_is_no_file
