use Rattle.std.proofs.Common.{rules}
use Rattle.xsk_judge.proofs.following.complete_one.Goals as goal

pub pair-requires : goal.pair-requires
pair-requires c = c.requires.sent c.in-Some.frame c.in-Given-Tx.socket (search rules)
