use Rattle.xsk_cli.proofs.Making.{is_made}
use Rattle.xsk_cli.proofs.made.generated_texts.Goals as goal

pub made_texts-requires-clause-short : goal.made_texts-requires-clause-short
made_texts-requires-clause-short c = (is_made c.args.number c.in_ok-list.list c.in_ok-list.ensures).short

pub made_texts-requires-clause-few : goal.made_texts-requires-clause-few
made_texts-requires-clause-few c = (is_made c.args.number c.in_ok-list.list c.in_ok-list.ensures).few

pub made_texts-requires-clause-small : goal.made_texts-requires-clause-small
made_texts-requires-clause-small c = (is_made c.args.number c.in_ok-list.list c.in_ok-list.ensures).small
