-- A pass goes on in a step by each of its calls.
use Rattle.std.proofs.Common.{◌≡◌, ℕ, Bool, true, false, cond, eqb, List, [], ◌∷◌, ◌++◌, append_assoc, refl, sym, ap, ◌∙◌, subst, eq-eqb, ne_eqb}
use Rattle.std.specs.List.{fold}
use Rattle.xsk_model.specs.Config.{Config}
use Rattle.xsk_model.specs.Entry.{Told, with_told, own}
use Rattle.xsk_model.specs.Expected.{IsReplyTo, IsOld}
use Rattle.xsk_model.specs.History.{Fits, MayGive}
use Rattle.xsk_model.specs.Legal.{IsLegal}
use Rattle.xsk_model.specs.Rings.{caller_of}
use Rattle.xsk_model.specs.declared.call.Call.{Call}
use Rattle.xsk_model.specs.declared.call.Call.TheVariants.{Look}
use Rattle.xsk_model.specs.declared.call.Mark.{Mark}
use Rattle.xsk_model.specs.declared.call.Reply.{Reply}
use Rattle.xsk_model.specs.declared.call.Reply.TheVariants.{Granted, Full, Submitted, Items, Empty, Released, Old}
use Rattle.xsk_model.proofs.Replies.{gift_fits, fits_kind}
use Rattle.xsk_turns.specs.Script.{Script, ask, again, ended, never, begun, on_submitted, on_released, on_old}
use Rattle.xsk_turns.specs.AppTurns.{AppKept, kick}
use Rattle.xsk_turns.specs.AppOwned.{HasOwnFrames}
use Rattle.xsk_turns.specs.AppSplit.{piece}
use Rattle.xsk_turns.proofs.AppHomes.{own_frames}
use Rattle.xsk_turns.proofs.Fitting.{lowered_of_none}
use Rattle.xsk_turns.proofs.AppSplit.{pieces, fit_join, step_calls_legal}
use Rattle.xsk_turns.proofs.ScriptLemmas.{leaves_on}
use Rattle.xsk_table.specs.Held.{Board, Holder, Belongs}
use Rattle.xsk_rings.specs.Rounds.{mine_of}
use Rattle.xsk_rings.specs.Serving.{MayAsk, Served}
use Rattle.xsk_rings.proofs.Telling.{may_give_served}
use Rattle.xsk_shared_ends.specs.Standing.{Origin, At, Asks, IsSamePass, Wakes, Looks, HasLooked}
use Rattle.xsk_shared_ends.specs.Steps.{came_by, came_step}
use Rattle.xsk_shared_ends.specs.declared.visiting.Step.{Step}
use Rattle.xsk_shared_ends.specs.declared.visiting.Step.TheVariants.{Moved}

-- what came of one call more
came_push : (came : Step) (l : List Told) (t : Told) → fold came_step came (l ++ t ∷ []) ≡ came_by (fold came_step came l) t.reply
came_push came [] t = refl
came_push came (x ∷ l) t = came_push (came_step came x) l t

-- a new step begins only once this one is over
begun_same : (s : Script AppKept) → begun pieces s ≡ s
begun_same (ask kept call rest) = refl
begun_same (again kept) = refl
begun_same (ended kept) = refl
begun_same never = refl

-- the call at which it stands is legal
pub may_ask : (b : Board) (p : Holder) (call : Call) → Belongs b p → Asks p call → MayAsk b p call
may_ask b p call belongs asked =
    let o = asked.0 in
    let at = asked.4 in
    let own : HasOwnFrames o.config o.app (o.past ++ at.part) = subst (HasOwnFrames o.config o.app) at.mine at.own in
    let legal = step_calls_legal o.config o.app o.past o.step o.start at.part asked.1 call asked.2 at.begins.one at.begins.closes at.begins.sends at.begins.left at.begins.place at.fit at.leaves own in
    record {
      belongs = belongs;
      rests = at.rests;
      legal = subst (λ (c : Config). IsLegal c (mine_of p) p.who call) (sym at.config)
          (subst (λ (w : ℕ). IsLegal o.config (mine_of p) w call) (sym at.caller) (subst (λ l. IsLegal o.config l (caller_of o.config o.app) call) (sym at.mine) legal));
    }

-- its reply is of the call's kind
pub is_reply : (p q : Holder) (call : Call) (reply : Reply) → Served p q call reply → IsReplyTo call reply
is_reply p q call reply served =
    let may = (may_give_served p q call reply served).0 in
    fits_kind p.view.setup.config (mine_of p) call reply (gift_fits p.view.setup.config (mine_of p) p.who call reply may)

pub same_pass : (p q : Holder) (call : Call) (reply : Reply) → Served p q call reply → IsSamePass p q
same_pass p q call reply served = record { table = served.table; setup = served.history.setup; who = served.who }

-- and it goes on with it
pub goes_on : (p q : Holder) (call : Call) (reply : Reply) → Served p q call reply → (o : Origin) (k : AppKept) (rest : Reply → Script AppKept) (came : Step) → At o p (ask k call rest) came
    → At o q (rest reply) (came_by came reply)
goes_on p q call reply served o k rest came at =
    let t : Told = record { call = call; reply = reply } in
    let given = may_give_served p q call reply served in
    let may : MayGive o.config (mine_of p) p.who call reply = subst (λ (c : Config). MayGive c (mine_of p) p.who call reply) at.config given.0 in
    let fits : Fits o.config (o.past ++ at.part) call reply = subst (λ l. Fits o.config l call reply) at.mine (gift_fits o.config (mine_of p) p.who call reply may) in
    let own_now : HasOwnFrames o.config o.app (with_told (mine_of p) call reply) =
    own_frames o.config o.app may.frames may.history (with_told (mine_of p) call reply) may.legal (ap (λ (w : ℕ). own w may.history) (sym at.caller) ∙ may.entries) in
    record {
      begins = at.begins;
      config = ap (λ k. k.config) served.history.setup ∙ at.config;
      caller = served.who ∙ at.caller;
      rests = served.rests;
      own = subst (HasOwnFrames o.config o.app) (sym given.1) own_now;
      part = at.part ++ t ∷ [];
      mine = given.1 ∙ ap (λ l. l ++ t ∷ []) at.mine ∙ append_assoc o.past at.part (t ∷ []);
      fit = fit_join o.config o.past at.part (t ∷ []) at.fit ((fits, lowered_of_none o.config (o.past ++ at.part) call reply at.begins.closes), tt);
      leaves = leaves_on pieces (piece o.config o.app o.step o.start) at.part (t ∷ []) (ask k call rest) (rest reply) at.leaves (refl, sym (begun_same (rest reply)));
      came_is = ap (λ s. came_by s reply) at.came_is ∙ sym (came_push _ at.part t);
    }

-- ---- by the reply

pub after_submitted : (o : Origin) (q : Holder) (next : Script AppKept) (reply : Reply) (came : Step) → reply ≡ Submitted → At o q (on_submitted next reply) (came_by came reply) → At o q next came
after_submitted o q next reply came e at = subst (λ r. At o q (on_submitted next r) (came_by came r)) e at

pub after_released : (o : Origin) (q : Holder) (next : Script AppKept) (reply : Reply) (came : Step) → reply ≡ Released → At o q (on_released next reply) (came_by came reply) → At o q next came
after_released o q next reply came e at = subst (λ r. At o q (on_released next r) (came_by came r)) e at

pub after_old : (o : Origin) (q : Holder) (next : Script AppKept) (reply : Reply) (came : Step) → IsOld reply → At o q (on_old (λ old. next) reply) (came_by came reply) → At o q next came
after_old o q next Granted came is at = absurd is
after_old o q next (Full free) came is at = absurd is
after_old o q next Submitted came is at = absurd is
after_old o q next (Items items) came is at = absurd is
after_old o q next Empty came is at = absurd is
after_old o q next Released came is at = absurd is
after_old o q next (Old n) came is at = at

-- ---- marks

-- what a look at a ring's flag leads to
abbrev pub by_flag : ℕ → AppKept → Script AppKept → ℕ → Script AppKept
by_flag pair k later number = cond (eqb number 1) (kick pair k later) later

pub wakes_on : (c : Config) (o : Origin) (p : Holder) (need : Mark) (pair : ℕ) (k : AppKept) (later : Script AppKept) (came : Step) → c.wakeup ≡ true → Wakes c o need pair k later came p
    → At o p (ask k (Look need) (on_old (by_flag pair k later))) came
wakes_on c o p need pair k later came on w = subst (λ b. At o p (cond b (ask k (Look need) (on_old (by_flag pair k later))) later) came) (ap (λ k. k.wakeup) (sym w.config) ∙ on) w.at

pub wakes_off : (c : Config) (o : Origin) (p : Holder) (need : Mark) (pair : ℕ) (k : AppKept) (later : Script AppKept) (came : Step) → c.wakeup ≡ false → Wakes c o need pair k later came p
    → At o p later came
wakes_off c o p need pair k later came off w = subst (λ b. At o p (cond b (ask k (Look need) (on_old (by_flag pair k later))) later) came) (ap (λ k. k.wakeup) (sym w.config) ∙ off) w.at

pub is_needed : (o : Origin) (p : Holder) (pair n : ℕ) (k : AppKept) (later : Script AppKept) (came : Step) → n ≡ 1 → At o p (by_flag pair k later n) came → At o p (kick pair k later) came
is_needed o p pair n k later came e at = subst (λ x. At o p (cond x (kick pair k later) later) came) (eq-eqb n 1 e) at

pub is_not_needed : (o : Origin) (p : Holder) (pair n : ℕ) (k : AppKept) (later : Script AppKept) (came : Step) → (n ≡ 1 → ⊥) → At o p (by_flag pair k later n) came → At o p later came
is_not_needed o p pair n k later came e at = subst (λ x. At o p (cond x (kick pair k later) later) came) (ne_eqb n 1 e) at

-- and one at the mark of a side that isn't seen
pub looks_now : (o : Origin) (p : Holder) (mark : Mark) (seen : Bool) (k : AppKept) (done : Script AppKept) (later : ℕ → Script AppKept) → seen ≡ false → Looks o mark seen k done later p
    → At o p (ask k (Look mark) (on_old later)) Moved
looks_now o p mark seen k done later e l = subst (λ b. At o p (cond b done (ask k (Look mark) (on_old later))) Moved) e l.at

pub looked_now : (o : Origin) (q : Holder) (seen now : Bool) (n : ℕ) (done : Script AppKept) (later : ℕ → Script AppKept) → seen ≡ false → now ≡ eqb n 1 → At o q (later n) Moved → HasLooked o seen now done later q
looked_now o q true now n done later e is at = absurd (cc)
looked_now o q false now n done later e is at = (n, is, at)

pub looked_before : (o : Origin) (q : Holder) (mark : Mark) (seen now : Bool) (k : AppKept) (done : Script AppKept) (later : ℕ → Script AppKept) → seen ≡ true → now ≡ true → Looks o mark seen k done later q
    → HasLooked o seen now done later q
looked_before o q mark true now k done later e is l = (is, l.at)
looked_before o q mark false now k done later e is l = absurd (cc)
