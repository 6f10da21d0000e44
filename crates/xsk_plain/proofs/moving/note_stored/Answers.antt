use Rattle.std.proofs.Common.{subst}
use Rattle.xsk_log.specs.Log.{notes_of}
use Rattle.xsk_plain.specs.Kept.{IsNotedAt}
use Rattle.xsk_plain.specs.Stores.{piece_of}
use Rattle.xsk_plain.proofs.moving.note_stored.Goals as goal

pub returns-in-Some : goal.returns-in-Some
returns-in-Some c =
    c.note_again.ensures (piece_of c.args.stored.now)
    (subst (IsNotedAt (notes_of c.args.log.now).values (piece_of c.args.stored.now)) c.in-Some.is c.requires.held.noted)
