-- A call or a reply and its form without items tell the same.
use Rattle.std.proofs.Common.{◌≡◌, List, [], refl, sym}
use Rattle.std.specs.Prelude.{◌↔◌}
use Rattle.xsk_umem.specs.declared.batch.Item.{Item}
use Rattle.xsk_model.specs.Asks.{CallsSplit, AsksJoin, RepliesSplit, AnswersJoin}
use Rattle.xsk_model.specs.declared.ask.Ask.TheVariants.{Reserve, Submit, Peek, Release, Swap, Look}
use Rattle.xsk_model.specs.declared.ask.Answer.TheVariants.{Granted, Full, Submitted, Items, Empty, Released, Old}
use Rattle.xsk_model.specs.declared.call.Call.TheVariants as call
use Rattle.xsk_model.specs.declared.call.Reply.TheVariants as reply

turned : (items : List Item) → ([] ≡ items) ↔ (items ≡ [])
turned items = (λ h. sym h, λ h. sym h)

pub calls_split : CallsSplit
calls_split (call.Reserve r n) = (refl, refl)
calls_split (call.Submit r items) = (refl, tt)
calls_split (call.Peek r n) = (refl, refl)
calls_split (call.Release r n) = (refl, refl)
calls_split (call.Swap m value) = (refl, refl)
calls_split (call.Look m) = (refl, refl)

pub asks_join : AsksJoin
asks_join (Reserve r n) items = (refl, turned items)
asks_join (Submit r) items = (refl, (λ h. tt, λ h. refl))
asks_join (Peek r n) items = (refl, turned items)
asks_join (Release r n) items = (refl, turned items)
asks_join (Swap m value) items = (refl, turned items)
asks_join (Look m) items = (refl, turned items)

pub replies_split : RepliesSplit
replies_split reply.Granted = (refl, refl)
replies_split (reply.Full free) = (refl, refl)
replies_split reply.Submitted = (refl, refl)
replies_split (reply.Items items) = (refl, tt)
replies_split reply.Empty = (refl, refl)
replies_split reply.Released = (refl, refl)
replies_split (reply.Old number) = (refl, refl)

pub answers_join : AnswersJoin
answers_join Granted items = (refl, turned items)
answers_join (Full free) items = (refl, turned items)
answers_join Submitted items = (refl, turned items)
answers_join Items items = (refl, (λ h. tt, λ h. refl))
answers_join Empty items = (refl, turned items)
answers_join Released items = (refl, turned items)
answers_join (Old number) items = (refl, turned items)
