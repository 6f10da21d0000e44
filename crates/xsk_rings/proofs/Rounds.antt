-- Passes between their calls.
use Rattle.std.proofs.Common.{◌≡◌, ap, sym, ◌∙◌, subst}
use Rattle.xsk_model.specs.Entry.{own, with_told}
use Rattle.xsk_model.specs.Legal.{IsLegal}
use Rattle.xsk_model.specs.declared.call.Call.{Call}
use Rattle.xsk_model.specs.declared.call.Reply.{Reply}
use Rattle.xsk_table.specs.View.{Basis}
use Rattle.xsk_table.specs.Held.{Board, Holder}
use Rattle.xsk_rings.specs.Serving.{MayAsk, Served}
use Rattle.xsk_rings.specs.Rounds.{Rests, mine_of}

pub may_ask : (b : Board) (p : Holder) (call : Call) → Rests b p → IsLegal b.setup.config (mine_of p) p.who call → MayAsk b p call
may_ask b p call rests legal = record {
  belongs = rests.0;
  rests = rests.1;
  legal = subst (λ (k : Basis). IsLegal k.config (mine_of p) p.who call) (sym rests.0.setup) legal;
}

pub served_rests : (b : Board) (p q : Holder) (call : Call) (reply : Reply) → Rests b p → Served p q call reply → Rests b q
served_rests b p q call reply rests s = (record { table = s.table ∙ rests.0.table; setup = s.history.setup ∙ rests.0.setup }, s.rests)

pub mine_after : (p q : Holder) (call : Call) (reply : Reply) → Served p q call reply → mine_of q ≡ with_told (mine_of p) call reply
mine_after p q call reply s = ap (λ w. own w q.view.seen) s.who ∙ s.history.mine
