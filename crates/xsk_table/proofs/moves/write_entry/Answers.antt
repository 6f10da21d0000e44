use Rattle.std.proofs.Common.{refl, subst, sym, Option}
use Rattle.xsk_umem.specs.Frame.{Frame}
use Rattle.xsk_table.specs.Plays.{IsFirst}
use Rattle.xsk_table.proofs.Placing.{writes_keep, writes_first}
use Rattle.xsk_table.proofs.moves.write_entry.Goals as goal

pub store-requires-clause-keeps : goal.store-requires-clause-keeps
store-requires-clause-keeps g c = rw c.requires.ask (writes_first _ _ _ c.args.seat.now.me _ c.in-Some.frame _ _ c.requires.can c.requires.flight c.in-Some.is c.number-number.ensures.value c.exchange.ensures.now c.requires.word.0)

pub store-requires-in-None-clause-keeps : goal.store-requires-in-None-clause-keeps
store-requires-in-None-clause-keeps g c = let first : IsFirst c.args.item.frame c.args.item.frame c.args.seat.now.me.1 = subst (λ (f : Option Frame). IsFirst f f c.args.seat.now.me.1) (sym c.in-None.is) tt in
    rw c.requires.ask (writes_keep _ _ _ _ _ _ c.requires.can c.requires.flight first refl c.requires.word.0)
