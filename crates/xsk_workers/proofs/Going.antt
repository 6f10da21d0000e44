-- How a worker goes on with its call's reply.
use Rattle.std.proofs.Common.{◌≡◌, ℕ, ◌+◌, Option, Some, List, [], ◌∷◌, length, sym, ap, subst, ◌∙◌, arith, length-append}
use Rattle.xsk_umem.specs.declared.batch.Item.{Item}
use Rattle.xsk_model.specs.Config.{Config}
use Rattle.xsk_model.specs.Asks.{joined_call, HasAsked}
use Rattle.xsk_model.specs.Entry.{Told, own, with_told}
use Rattle.xsk_model.specs.Expected.{Expected, CanCome, can_come, expected_of}
use Rattle.xsk_model.specs.History.{MayGive}
use Rattle.xsk_model.specs.Legal.{IsLegal}
use Rattle.xsk_model.specs.declared.ask.Ask.{Ask}
use Rattle.xsk_model.specs.declared.call.Act.{Act}
use Rattle.xsk_model.specs.declared.call.Act.TheVariants.{Call as Calls}
use Rattle.xsk_model.specs.declared.call.Call.{Call}
use Rattle.xsk_model.specs.declared.call.Reply.{Reply}
use Rattle.xsk_model.proofs.Replies.{gift_fits, fits_kind}
use Rattle.xsk_turns.specs.Statistics.{capped}
use Rattle.xsk_turns.specs.Stepping.{joined_ask, IsGivenBack}
use Rattle.xsk_turns.specs.Workers.{Setting}
use Rattle.xsk_machine.specs.Acts.{IsActAfter}
use Rattle.xsk_table.specs.Held.{Board, Holder, Belongs}
use Rattle.xsk_rings.specs.Serving.{MayAsk, Served}
use Rattle.xsk_rings.proofs.Telling.{may_give_served}
use Rattle.xsk_workers.specs.Shown.{IsGoing, AreCounted}

module _ {M : Type 0} (Stands : Setting → ℕ → M → Act → List Told → Type 0) (awaits : Expected) (s : Setting) (machine : M) (given : Option Ask) (items : List Item) (p : Holder) (going : IsGoing Stands awaits s machine given items p)
    (ask : Ask) (is : given ≡ Some ask) where
  abbrev call : Call
  call = joined_call ask items

  abbrev mine : List Told
  mine = own p.who p.view.seen

  gave : joined_ask given items ≡ Calls call
  gave = ap (λ (a : Option Ask). joined_ask a items) is

  legal : IsLegal s.config mine p.who call
  legal = (subst (λ (a : Act). IsActAfter s p.who a mine) gave going.after).0

  pub may_ask : (b : Board) → Belongs b p → MayAsk b p call
  may_ask b belongs = record { belongs = belongs; rests = going.rests; legal = subst (λ (c : Config). IsLegal c mine p.who call) (sym going.config) legal }

  pub has_asked : HasAsked ask items
  has_asked = subst (λ (a : Option Ask). IsGivenBack a items) is going.given_back

  pub stood : Stands s p.who machine (Calls call) mine
  stood = subst (λ (a : Act). Stands s p.who machine a mine) gave going.stands

  module _ (q : Holder) (reply : Reply) (served : Served p q call reply) where
    pub may_come : MayGive s.config mine p.who call reply
    may_come = subst (λ (c : Config). MayGive c mine p.who call reply) going.config (may_give_served p q call reply served).0

    pub comes : CanCome awaits (Some reply)
    comes =
        let awaited : awaits ≡ expected_of (Calls call) = going.awaits_is ∙ ap expected_of gave in
        subst (λ (x : Expected). CanCome x (Some reply)) (sym awaited) (can_come call reply (fits_kind s.config mine call reply (gift_fits s.config mine p.who call reply may_come)))

    pub now : own q.who q.view.seen ≡ with_told mine call reply
    now = (may_give_served p q call reply served).1

    -- it goes on where its machine does
    pub goes_on : {N : Type 0} (Stands' : Setting → ℕ → N → Act → List Told → Type 0) (later : Expected) (machine' : N) (next : Option Ask) (left : List Item)
        → later ≡ expected_of (joined_ask next left) → IsGivenBack next left
        → Stands' s p.who machine' (joined_ask next left) (with_told mine call reply) × IsActAfter s p.who (joined_ask next left) (with_told mine call reply)
        → IsGoing Stands' later s machine' next left q
    goes_on Stands' later machine' next left awaits_is given_back both = record {
      rests = served.rests;
      config = ap (λ k. k.config) served.history.setup ∙ going.config;
      awaits_is = awaits_is;
      given_back = given_back;
      stands = subst (λ (w : ℕ). Stands' s w machine' (joined_ask next left) (own q.who q.view.seen)) (sym served.who) (subst (Stands' s p.who machine' (joined_ask next left)) (sym now) both.0);
      after = subst (λ (w : ℕ). IsActAfter s w (joined_ask next left) (own q.who q.view.seen)) (sym served.who) (subst (IsActAfter s p.who (joined_ask next left)) (sym now) both.1);
    }

-- one call more is counted
pub one_more : (p : Holder) (call : Call) (reply : Reply) (q : Holder) (calls more : ℕ) → AreCounted calls p → Served p q call reply → more ≡ capped (calls + 1) → AreCounted more q
one_more p call reply q calls more counted served next =
    let mine : List Told = own p.who p.view.seen in
    let now : own q.who q.view.seen ≡ with_told mine call reply = (may_give_served p q call reply served).1 in
    let longer : length (own q.who q.view.seen) ≡ length mine + 1 = ap length now ∙ length-append mine ((record { call = call; reply = reply }) ∷ []) in
    next ∙ ap (λ n. capped (n + 1)) counted ∙ (let sum : capped (capped (length mine) + 1) ≡ capped (length mine + 1) = omega arith in sum) ∙ ap capped (sym longer)
