-- The words of rings, marks, calls, replies and their items, passed on from one place. Declares nothing.
pub use Rattle.xsk_umem.specs.declared.batch.Item.{Item}
pub use Rattle.xsk_umem.specs.declared.batch.XdpDesc.{XdpDesc}
pub use Rattle.xsk_model.specs.Entry.{Told, with_told}
pub use Rattle.xsk_model.specs.declared.call.Ring.{Ring}
pub use Rattle.xsk_model.specs.declared.call.Ring.TheVariants.{Fill, Comp, Rx, Tx}
pub use Rattle.xsk_model.specs.declared.call.Mark.{Mark}
pub use Rattle.xsk_model.specs.declared.call.Mark.TheVariants.{NeedFill, NeedTx, Kick, RxDone, Gone, TxDone, Cell, Bounced as BouncedMark}
pub use Rattle.xsk_model.specs.declared.call.Call.{Call}
pub use Rattle.xsk_model.specs.declared.call.Call.TheVariants.{Reserve, Submit, Peek, Release, Swap, Look}
pub use Rattle.xsk_model.specs.declared.call.Reply.{Reply}
pub use Rattle.xsk_model.specs.declared.call.Reply.TheVariants.{Granted, Full, Submitted, Items, Empty, Released, Old}
pub use Rattle.xsk_model.specs.declared.call.Act.{Act}
pub use Rattle.xsk_model.specs.declared.ask.Ask.{Ask}
pub use Rattle.xsk_model.specs.declared.ask.Answer.{Answer}
