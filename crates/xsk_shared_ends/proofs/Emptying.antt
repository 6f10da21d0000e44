-- Lanes that are found empty one after the other, and the machine's run behind them.
use Rattle.std.proofs.Common.{false, ◌≡◌, ℕ, ◌+◌, ◌<◌, ◌≤◌, true, eqb, Option, Some, None, List, [], ◌∷◌, ◌++◌, append_assoc, append-nil, sym, ap, ◌∙◌, subst, ⊎_elim, arith, eq-eqb}
use Rattle.std.proofs.lemmas.Bool.{cases_eq}
use Rattle.xsk_umem.specs.declared.batch.Item.{Item}
use Rattle.xsk_model.specs.Asks.{joined_call, HasAsked}
use Rattle.xsk_model.specs.Config.{Config, batch_of}
use Rattle.xsk_model.specs.Ends.{Draining, are_none}
use Rattle.xsk_model.specs.Entry.{Told, own, with_told}
use Rattle.xsk_model.specs.Expected.{Expected, CanCome, can_come, expected_of}
use Rattle.xsk_model.specs.History.{Fits, MayGive}
use Rattle.xsk_model.specs.Legal.{IsLegal}
use Rattle.xsk_model.specs.Rings.{caller_of}
use Rattle.xsk_model.specs.declared.ask.Ask.{Ask}
use Rattle.xsk_model.specs.declared.call.Act.{Act}
use Rattle.xsk_model.specs.declared.call.Act.TheVariants.{Call as Calls}
use Rattle.xsk_model.specs.declared.call.Call.{Call}
use Rattle.xsk_model.specs.declared.call.Call.TheVariants.{Peek}
use Rattle.xsk_model.specs.declared.call.Reply.{Reply}
use Rattle.xsk_model.specs.declared.call.Reply.TheVariants.{Empty}
use Rattle.xsk_model.specs.declared.call.Ring.TheVariants.{Rx}
use Rattle.xsk_model.proofs.Replies.{gift_fits, fits_kind}
use Rattle.xsk_turns.specs.AppSplit.{IsSplit, IsWholeSplitRun}
use Rattle.xsk_turns.specs.AppTurns.{AppKept, both, is_set, pair_of, rx_of, lanes_of}
use Rattle.xsk_turns.specs.AppOwned.{HasOwnFrames}
use Rattle.xsk_turns.specs.Stepping.{joined_ask, IsGivenBack}
use Rattle.xsk_turns.proofs.AppHomes.{own_frames}
use Rattle.xsk_turns.proofs.AppMarks.{side_marks, draining, none_unseen}
use Rattle.xsk_turns.proofs.Draining.{draining_told, same_unseen, when_found, found_here}
use Rattle.xsk_turns.proofs.AppSplit.{lanes_after_steps}
use Rattle.xsk_table.specs.View.{idle}
use Rattle.xsk_table.specs.Held.{Board, Holder, Belongs}
use Rattle.xsk_rings.specs.Rounds.{mine_of}
use Rattle.xsk_rings.specs.Serving.{MayAsk, Served}
use Rattle.xsk_rings.proofs.Telling.{may_give_served}
use Rattle.xsk_app.specs.Resumed.{IsResumed, StandsFrom, HasEndedFrom, StandsFromWith, TellsFrom}
use Rattle.xsk_app.specs.Shown.{Shown as AppShown}
use Rattle.xsk_app.proofs.Resumed.{resumed_tells}
use Rattle.xsk_shared_ends.specs.Shown.{EndsShown, AreEnds, AreSame, IsFoundEmpty}
use Rattle.xsk_shared_ends.specs.Last.{AreDrained, LastShown, AreLeft, StaysLast}

-- ---- lanes that are found empty

-- nothing is unseen of the marks, and each lane so far was found empty
pub record IsEmptyUpTo (e : EndsShown) (lane : ℕ) : Type 0 where
  pub unseen : (j : ℕ) → (draining e.config e.app j (mine_of e.pass)).unseen ≡ []
  pub empty : (j : ℕ) → j < lane → (draining e.config e.app j (mine_of e.pass)).empty ≡ true

pub none_yet : (e : EndsShown) → AreEnds e → both e.kept.seen ≡ true → IsEmptyUpTo e 0
none_yet e is told =
    let on = lanes_after_steps e.config e.app is.one is.closes is.split.0 (mine_of e.pass) e.kept is.fit is.split.1 in
    record {
      unseen = λ j. on.unseen j ∙ none_unseen (pair_of e.config e.app 0) (pair_of e.config e.app 1) (is_set e.kept.seen 0) (is_set e.kept.seen 1) told;
      empty = λ j none. absurd (omega (arith, none));
    }

-- nothing is unseen of the marks on these lists, and each lane so far was found empty
abbrev AreFound : ℕ → Config → ℕ → List Told → Type 0
AreFound lane c a l = ((j : ℕ) → (draining c a j l).unseen ≡ []) × ((j : ℕ) → j < lane → (draining c a j l).empty ≡ true)

before : (j lane : ℕ) → j < lane + 1 → (j ≡ lane → ⊥) → j < lane
before j lane h k = omega arith

more_empty : (c : Config) (a : ℕ) (l : List Told) (lane n : ℕ) → AreFound lane c a l → AreFound (lane + 1) c a (with_told l (Peek (Rx (rx_of c a lane)) n) Empty)
more_empty c a l lane n found =
    let s = rx_of c a lane in
    let after = λ (j : ℕ). draining_told (side_marks c a) (Rx (rx_of c a j)) l (Peek (Rx s) n) Empty in (
      λ j. ap (λ (d : Draining). d.unseen) (after j) ∙ same_unseen (eqb (rx_of c a j) s) (draining c a j l) (are_none (draining c a j l).unseen) ∙ found.0 j,
      λ j below. ⊎_elim
          (λ (same : j ≡ lane). ap (λ (d : Draining). d.empty) (after j) ∙ found_here (eqb (rx_of c a j) s) (draining c a j l) (eq-eqb (rx_of c a j) s (ap (rx_of c a) same)) (found.0 j))
          (λ (other : j ≡ lane → ⊥). ap (λ (d : Draining). d.empty) (after j) ∙ when_found (eqb (rx_of c a j) s) (draining c a j l) (found.0 j) (found.1 j (before j lane below other)))
          (cases_eq j lane),
    )

pub one_more_empty : (e f : EndsShown) (lane : ℕ) → AreSame e f → IsFoundEmpty lane e f → IsEmptyUpTo e lane → IsEmptyUpTo f (lane + 1)
one_more_empty e f lane same found empty =
    let now = more_empty e.config e.app (mine_of e.pass) lane (batch_of e.config) (empty.unseen, empty.empty) in
    let there : AreFound (lane + 1) e.config e.app (mine_of f.pass) = subst (AreFound (lane + 1) e.config e.app) (sym found.mine) now in
    let moved : AreFound (lane + 1) f.config f.app (mine_of f.pass) =
    subst (λ (c : Config). AreFound (lane + 1) c f.app (mine_of f.pass)) (sym same.config) (subst (λ (a : ℕ). AreFound (lane + 1) e.config a (mine_of f.pass)) (sym same.app) there) in
    record { unseen = moved.0; empty = moved.1 }

pub all_drained : (e : EndsShown) (lane : ℕ) → lanes_of e.config ≤ lane → IsEmptyUpTo e lane → AreDrained e.config e.app (mine_of e.pass)
all_drained e lane all is j below = is.empty j (omega (arith, all, below))

-- ---- the machine's run behind them

-- what stands of it, by its configuration and number
record IsRest (app : AppShown) (start : AppKept) (past later : List Told) (act : Act) (q : Holder) (c : Config) (a : ℕ) : Type 0 where
  config : q.view.setup.config ≡ c
  caller : q.who ≡ caller_of c a
  own : HasOwnFrames c a (mine_of q)
  split : IsSplit c a past start
  drained : AreDrained c a past
  stands : StandsFromWith c a start past app act later

left_of : (app : AppShown) (ask : Option Ask) (items : List Item) (start : AppKept) (past later : List Told) (q : Holder) (c : Config) (a : ℕ) → q.view.flight ≡ idle → app.expected ≡ expected_of (joined_ask ask items)
    → IsGivenBack ask items → mine_of q ≡ past ++ later → app.config ≡ c → app.app ≡ a → IsRest app start past later (joined_ask ask items) q c a → AreLeft app ask items q
left_of app ask items start past later q c a rests awaits given_back mine config same rest =
    let moved : IsRest app start past later (joined_ask ask items) q app.config app.app =
    subst (λ (k : Config). IsRest app start past later (joined_ask ask items) q k app.app) (sym config)
    (subst (λ (n : ℕ). IsRest app start past later (joined_ask ask items) q c n) (sym same) rest) in
    record {
      rests = rests;
      config = moved.config;
      caller = moved.caller;
      awaits = awaits;
      given_back = given_back;
      own = moved.own;
      start = start;
      past = past;
      later = later;
      mine = mine;
      split = moved.split;
      drained = moved.drained;
      stands = moved.stands;
    }

-- its beginning
pub begins : (e : EndsShown) (app before : AppShown) (ask : Option Ask) (items : List Item) (q : Holder) → AreEnds e → AreDrained e.config e.app (mine_of e.pass) → IsResumed e.config e.app e.kept (mine_of e.pass) before
    → app.config ≡ before.config → app.app ≡ before.app → app.expected ≡ expected_of (joined_ask ask items) → IsGivenBack ask items → q ≡ e.pass
    → StandsFromWith e.config e.app e.kept (mine_of e.pass) app (joined_ask ask items) [] → AreLeft app ask items q
begins e app before ask items q is drained resumed config same awaits given_back pass stands =
    let rest : IsRest app e.kept (mine_of e.pass) [] (joined_ask ask items) e.pass e.config e.app =
    record { config = is.config; caller = is.caller; own = is.own; split = is.split; drained = drained; stands = stands } in
    subst (λ (p : Holder). AreLeft app ask items p) (sym pass)
    (left_of app ask items e.kept (mine_of e.pass) [] e.pass e.config e.app is.rests awaits given_back (sym (append-nil (mine_of e.pass))) (config ∙ resumed.config) (same ∙ resumed.app) rest)

module _ (app : AppShown) (given : Option Ask) (items : List Item) (p : Holder) (is : AreLeft app given items p) where
  pub has_ended : given ≡ None → IsWholeSplitRun app.config app.app (mine_of p)
  has_ended none =
      let over : HasEndedFrom app.config app.app is.start is.past app is.later =
      subst (λ (a : Option Ask). StandsFromWith app.config app.app is.start is.past app (joined_ask a items) is.later) none is.stands in
      record { closes = over.closes; steps = is.past; later = is.later; kept = is.start; cut = is.mine; split = is.split; run = (app.kept, over.ends); drained = is.drained }

  module _ (ask : Ask) (gave : given ≡ Some ask) where
    abbrev call : Call
    call = joined_call ask items

    stood : StandsFrom app.config app.app is.start is.past app call is.later
    stood = subst (λ (a : Option Ask). StandsFromWith app.config app.app is.start is.past app (joined_ask a items) is.later) gave is.stands

    pub has_asked : HasAsked ask items
    has_asked = subst (λ (a : Option Ask). IsGivenBack a items) gave is.given_back

    pub may_ask : (b : Board) → Belongs b p → MayAsk b p call
    may_ask b belongs =
        let tells : TellsFrom app.config app.app is.start is.past app call is.later = resumed_tells app.config app.app is.start is.past app (Calls call) is.later stood in
        let legal : IsLegal app.config (mine_of p) (caller_of app.config app.app) call =
        subst (λ l. IsLegal app.config l (caller_of app.config app.app) call) (sym is.mine) (tells.legal (subst (HasOwnFrames app.config app.app) is.mine is.own)) in
        record {
          belongs = belongs;
          rests = is.rests;
          legal = subst (λ (c : Config). IsLegal c (mine_of p) p.who call) (sym is.config) (subst (λ (w : ℕ). IsLegal app.config (mine_of p) w call) (sym is.caller) legal);
        }

    module _ (q : Holder) (reply : Reply) (served : Served p q call reply) where
      gift : MayGive app.config (mine_of p) p.who call reply
      gift = subst (λ (c : Config). MayGive c (mine_of p) p.who call reply) is.config (may_give_served p q call reply served).0

      now : mine_of q ≡ with_told (mine_of p) call reply
      now = (may_give_served p q call reply served).1

      fits : Fits app.config (mine_of p) call reply
      fits = gift_fits app.config (mine_of p) p.who call reply gift

      pub comes : CanCome app.expected (Some reply)
      comes =
          let awaited : app.expected ≡ expected_of (Calls call) = is.awaits ∙ ap (λ (a : Option Ask). expected_of (joined_ask a items)) gave in
          subst (λ (x : Expected). CanCome x (Some reply)) (sym awaited) (can_come call reply (fits_kind app.config (mine_of p) call reply fits))

      pub goes_on : (next : AppShown) (after : Option Ask) (left : List Item) → next.config ≡ app.config → next.app ≡ app.app → next.expected ≡ expected_of (joined_ask after left) → IsGivenBack after left
          → (StandsFrom app.config app.app is.start is.past app call is.later → Fits app.config (is.past ++ is.later) call reply
          → StandsFromWith app.config app.app is.start is.past next (joined_ask after left) (with_told is.later call reply))
          → AreLeft next after left q
      goes_on next after left config same awaits given_back steps =
          let told : Told = record { call = call; reply = reply } in
          let own_now : HasOwnFrames app.config app.app (with_told (mine_of p) call reply) =
          own_frames app.config app.app gift.frames gift.history (with_told (mine_of p) call reply) gift.legal (ap (λ (w : ℕ). own w gift.history) (sym is.caller) ∙ gift.entries) in
          let rest : IsRest next is.start is.past (with_told is.later call reply) (joined_ask after left) q app.config app.app = record {
            config = ap (λ k. k.config) served.history.setup ∙ is.config;
            caller = served.who ∙ is.caller;
            own = subst (HasOwnFrames app.config app.app) (sym now) own_now;
            split = is.split;
            drained = is.drained;
            stands = steps stood (subst (λ l. Fits app.config l call reply) is.mine fits);
          } in
          left_of next after left is.start is.past (with_told is.later call reply) q app.config app.app served.rests awaits given_back
          (now ∙ ap (λ l. l ++ told ∷ []) is.mine ∙ append_assoc is.past is.later (told ∷ [])) config same rest

      pub stays : (next : AppShown) (x : LastShown) → record { config = app.config; app = app.app; pass = p; has_ends = false } ≡ x → next.config ≡ app.config → next.app ≡ app.app
          → StaysLast x (record { config = next.config; app = next.app; pass = q; has_ends = false })
      stays next x shown config same =
          let old : LastShown = record { config = app.config; app = app.app; pass = p; has_ends = false } in
          let new : LastShown = record { config = next.config; app = next.app; pass = q; has_ends = false } in
          let now : StaysLast old new = record { config = config; app = same; table = served.table; setup = served.history.setup; who = served.who } in
          subst (λ (y : LastShown). StaysLast y new) shown now
