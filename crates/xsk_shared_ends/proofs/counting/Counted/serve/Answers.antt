use Rattle.std.proofs.Common.{sym, subst}
use Rattle.xsk_model.specs.Asks.{joined_call, joined_reply}
use Rattle.xsk_table.specs.Held.{Holder}
use Rattle.xsk_rings.specs.Serving.{MayAsk, Served}
use Rattle.xsk_shared_ends.proofs.Calls.{counted_more}
use Rattle.xsk_shared_ends.proofs.counting.Counted.serve.Goals as goal

pub serve-requires-clause-may : goal.serve-requires-clause-may
serve-requires-clause-may c = subst (λ (p : Holder). MayAsk c.args.shared.now p (joined_call c.args.ask c.args.items.now)) (sym c.self.view_is) c.requires.may

pub invariant_of-self : goal.invariant_of-self
invariant_of-self c =
    counted_more c.self.inside.pass c.serve.new.self (joined_call c.args.ask c.args.items.now) (joined_reply c.serve.result c.serve.new.items) c.self.inside.calls c.saturating_add-self-inside.result
    c.self.invariant c.serve.ensures.told.served c.saturating_add-self-inside.ensures

pub returns-clause-served : goal.returns-clause-served
returns-clause-served c =
    subst (λ (p : Holder). Served p c.serve.new.self (joined_call c.args.ask c.args.items.now) (joined_reply c.serve.result c.serve.new.items)) c.self.view_is c.serve.ensures.told.served
