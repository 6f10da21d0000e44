-- What a checked pass has noted before a call and after it.
use Rattle.std.proofs.Common.{◌≡◌, ℕ, List, [], ap, sym, ◌∙◌, subst}
use Rattle.xsk_model.specs.Config.{Config}
use Rattle.xsk_model.specs.Entry.{Told, own, with_told}
use Rattle.xsk_model.specs.Legal.{IsLegal}
use Rattle.xsk_model.specs.History.{MayGive}
use Rattle.xsk_model.specs.declared.call.Call.{Call}
use Rattle.xsk_model.specs.declared.call.Reply.{Reply}
use Rattle.xsk_legal.specs.Noted.{Noted}
use Rattle.xsk_legal.specs.Standing.{StandsFor}
use Rattle.xsk_table.specs.View.{Basis, View}
use Rattle.xsk_table.specs.Held.{Board, Holder, Belongs}
use Rattle.xsk_rings.specs.Serving.{Served}
use Rattle.xsk_rings.specs.Rounds.{mine_of}
use Rattle.xsk_rings.specs.Checked.{NotesOwn, IsChecked}
use Rattle.xsk_rings.proofs.Telling.{may_give_served}

module _ (b : Board) (c : Config) (p : Holder) (kept : Noted) (same : c ≡ b.setup.config) (of : Belongs b p) (noted : NotesOwn p kept) where
  config_is : p.view.setup.config ≡ c
  config_is = ap (λ (k : Basis). k.config) of.setup ∙ sym same

  pub stands : StandsFor c kept (mine_of p)
  stands = subst (λ (g : Config). StandsFor g kept (mine_of p)) config_is noted.stands

  pub legal_then : (call : Call) → IsLegal p.view.setup.config (mine_of p) p.who call → IsLegal c (mine_of p) kept.who call
  legal_then call legal = let P : Config × ℕ → Type 0 = λ t. IsLegal t.0 (mine_of p) t.1 call in subst P (λ i. (config_is i, sym noted.caller i)) legal

  -- so it tells what is legal
  pub legal_now : (call : Call) → IsLegal c (mine_of p) kept.who call → IsLegal p.view.setup.config (mine_of p) p.who call
  legal_now call legal = let P : Config × ℕ → Type 0 = λ t. IsLegal t.0 (mine_of p) t.1 call in subst P (λ i. (sym config_is i, noted.caller i)) legal

  -- with a call and its reply
  module _ (q : Holder) (call : Call) (reply : Reply) (s : Served p q call reply) (next : Noted) (same_caller : next.who ≡ kept.who) where
    pub may_then : MayGive c (mine_of p) next.who call reply
    may_then = let P : Config × ℕ → Type 0 = λ t. MayGive t.0 (mine_of p) t.1 call reply in subst P (λ i. (config_is i, sym (same_caller ∙ noted.caller) i)) (may_give_served p q call reply s).0

    pub noted_then : StandsFor c next (with_told (mine_of p) call reply) → NotesOwn q next
    noted_then stands_for =
        let P : Config × List Told → Type 0 = λ t. StandsFor t.0 next t.1 in
        let config_then : c ≡ q.view.setup.config = sym config_is ∙ ap (λ (k : Basis). k.config) (sym s.history.setup) in
        record {
          caller = same_caller ∙ noted.caller ∙ sym s.who;
          stands = subst P (λ i. (config_then i, sym (may_give_served p q call reply s).1 i)) stands_for;
        }

-- what is met adds nothing of the caller's own
pub checked_met : (p q : Holder) (kept : Noted) → IsChecked p kept → q.who ≡ p.who → q.view ≡ record p.view { seen = q.view.seen; told = [] } → own p.who q.view.seen ≡ own p.who p.view.seen → IsChecked q kept
checked_met p q kept checked who view same =
    let setup : q.view.setup ≡ p.view.setup = ap (λ (v : View). v.setup) view in
    let mine : own q.who q.view.seen ≡ own p.who p.view.seen = ap (λ (w : ℕ). own w q.view.seen) who ∙ same in
    let P : Config × List Told → Type 0 = λ t. StandsFor t.0 kept t.1 in
    record {
      rests = ap (λ (v : View). v.flight) view ∙ checked.rests;
      noted = record {
        caller = checked.noted.caller ∙ sym who;
        stands = subst P (λ i. ((sym setup i).config, sym mine i)) checked.noted.stands;
      };
    }
