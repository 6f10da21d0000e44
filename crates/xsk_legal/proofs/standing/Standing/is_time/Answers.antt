use Rattle.std.proofs.Common.{subst}
use Rattle.xsk_model.specs.Marks.{IsMarkOwner}
use Rattle.xsk_model.specs.declared.call.Mark.TheVariants.{Closing, Acked}
use Rattle.xsk_legal.proofs.Marks.{closing_rx}
use Rattle.xsk_legal.proofs.standing.Standing.is_time.Goals as goal

pub has_cleared-requires : goal.has_cleared-requires
has_cleared-requires c =
    let owner : IsMarkOwner c.args.config.now c.args.self.now.who (Closing c.in-Closing.socket) = subst (IsMarkOwner c.args.config.now c.args.self.now.who) c.in-Closing.is c.requires.owner in
    closing_rx c.args.config.now c.in-Closing.socket c.requires.lawful owner.0

pub has_no_room-requires-clause-ring : goal.has_no_room-requires-clause-ring
has_no_room-requires-clause-ring c =
    let owner : IsMarkOwner c.args.config.now c.args.self.now.who (Acked c.in-Acked.socket) = subst (IsMarkOwner c.args.config.now c.args.self.now.who) c.in-Acked.is c.requires.owner in
    closing_rx c.args.config.now c.in-Acked.socket c.requires.lawful owner.0
