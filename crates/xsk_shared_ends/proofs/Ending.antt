-- From ends to a step and back.
use Rattle.std.proofs.Common.{◌≡◌, ℕ, ◌<◌, Bool, true, false, cond, eqb, List, [], ◌∷◌, length, refl, sym, ap, ◌∙◌, subst, append-nil, arith}
use Rattle.xsk_umem.specs.Frame.{Frame}
use Rattle.xsk_umem.specs.Geometry.{IsGeometry}
use Rattle.xsk_umem.specs.declared.batch.Item.{Item}
use Rattle.xsk_model.specs.Config.{Config, IsConfig, batch_of}
use Rattle.xsk_model.specs.Entry.{with_told}
use Rattle.xsk_model.specs.Marks.{apps_of}
use Rattle.xsk_model.specs.Rings.{caller_of}
use Rattle.xsk_turns.specs.Owned.{AllFit, IsSteady}
use Rattle.xsk_model.specs.declared.call.Call.TheVariants.{Peek, Look}
use Rattle.xsk_model.specs.declared.call.Mark.TheVariants.{RxDone}
use Rattle.xsk_model.specs.declared.call.Reply.TheVariants.{Empty}
use Rattle.xsk_model.specs.declared.call.Ring.TheVariants.{Rx}
use Rattle.xsk_turns.specs.Script.{Script, ask, again, on_old}
use Rattle.xsk_turns.specs.AppTurns.{AppKept, pair_of, rx_of, tx_of, tx_pair, lanes_of, pending_at, with_pending, back_at, visit_lane, visit_side, is_set, with_seen, look_rx_done, app_start}
use Rattle.xsk_turns.specs.AppOwned.{HasOwnFrames}
use Rattle.xsk_turns.specs.AppSplit.{SplitStep, AtLane, AtSide, AtMarks, HasPlace, no_note, HasLeft, IsStep, IsSplit, piece}
use Rattle.xsk_turns.specs.Mangling.{plain}
use Rattle.xsk_turns.proofs.AppSplit.{fit_join, split_push, split_keeps_frames, split_keeps_lanes, split_none, step_sends, lanes_after_steps}
use Rattle.xsk_turns.proofs.AppHomes.{had_none}
use Rattle.xsk_table.specs.View.{idle}
use Rattle.xsk_table.specs.Held.{Holder}
use Rattle.xsk_rings.specs.Rounds.{mine_of}
use Rattle.xsk_shared_ends.specs.Shown.{EndsShown, AreEnds, AreSame, KeepsLanes, Makes, IsFoundEmpty}
use Rattle.xsk_app.specs.declared.machine.Way.{Way}
use Rattle.xsk_shared_ends.proofs.Passing.{with_pending-same}
use Rattle.xsk_shared_ends.specs.Standing.{Origin, At, IsSamePass, Over, VisitsLane, VisitsSide, Looks, HasLooked, after}
use Rattle.xsk_shared_ends.specs.declared.visiting.Step.{Step}
use Rattle.xsk_shared_ends.specs.declared.visiting.Step.TheVariants.{Moved}

-- the step of ends
abbrev pub origin : EndsShown → SplitStep → Origin
origin e step = record { config = e.config; app = e.app; step = step; start = e.kept; past = mine_of e.pass }

-- what is kept is what the steps left, and so are the lanes
pub left : (e : EndsShown) → AreEnds e → HasLeft e.config e.kept (mine_of e.pass)
left e is = split_keeps_frames e.config e.app (mine_of e.pass) e.kept is.one is.closes is.fit is.split

pub lanes : (e : EndsShown) → AreEnds e → KeepsLanes e
lanes e is lane below = split_keeps_lanes e.config e.app (mine_of e.pass) e.kept lane is.one is.closes is.fit is.split below

-- it changes nothing
pub is_plain : (e : EndsShown) → AreEnds e → e.kept.manner ≡ plain
is_plain e is = (lanes_after_steps e.config e.app is.one is.closes is.split.0 (mine_of e.pass) e.kept is.fit is.split.1).keeps

-- a step begins
pub begins : (e : EndsShown) (step : SplitStep) → AreEnds e → HasPlace e.config step → At (origin e step) e.pass (piece e.config e.app step e.kept) Moved
begins e step is place = record {
  begins = record { one = is.one; closes = is.closes; place = place; sends = is.sends; left = left e is };
  config = is.config;
  caller = is.caller;
  rests = is.rests;
  own = is.own;
  part = [];
  mine = sym (append-nil (mine_of e.pass));
  fit = tt;
  leaves = refl;
  came_is = refl;
}

module _ (e : EndsShown) (step : SplitStep) (q : Holder) (now : AppKept) (came : Step) (is : AreEnds e) (over : Over (origin e step) q now came) where
  abbrev pub ends : EndsShown
  ends = record { config = e.config; app = e.app; pass = q; kept = now }

  made_is : IsStep e.config e.app step e.kept over.part now
  made_is = record { place = over.begins.place; leaves = over.leaves }

  -- it is over, and was made
  pub made : Makes step e ends came
  made = record { part = over.part; mine = over.mine; is_step = made_is; came_is = over.came_is }

  pub ends_again : AreEnds ends
  ends_again = record {
    one = is.one;
    closes = is.closes;
    config = over.config;
    caller = over.caller;
    rests = over.rests;
    fit = subst (AllFit e.config []) (sym over.mine) (fit_join e.config [] (mine_of e.pass) over.part is.fit over.fit);
    own = over.own;
    sends = step_sends e.config e.app step e.kept over.part now is.sends made_is;
    split = subst (λ l. IsSplit e.config e.app l now) (sym over.mine) (split_push e.config e.app (mine_of e.pass) e.kept step over.part now is.split made_is);
  }

pub same : (e f : EndsShown) → IsSamePass e.pass f.pass → f.config ≡ e.config → f.app ≡ e.app → AreSame e f
same e f pass config app = record {
  name = λ i. record { board = record { table = pass.table i; setup = pass.setup i }; who = pass.who i };
  config = config;
  app = app;
}

-- and so do ends of which another step is made
pub are_same_on : (e f g : EndsShown) → AreSame e f → AreSame f g → AreSame e g
are_same_on e f g first second = record { name = second.name ∙ first.name; config = second.config ∙ first.config; app = second.app ∙ first.app }

-- the ends of an application that has made no call
pub new_ends : (c : Config) (app : ℕ) (p : Holder) (kept : AppKept) → IsConfig c → IsSteady c → IsGeometry c.geometry → app < apps_of c → p.view.setup.config ≡ c → p.who ≡ caller_of c app → p.view.flight ≡ idle → mine_of p ≡ []
    → kept ≡ app_start c → AreEnds (record { config = c; app = app; pass = p; kept = kept })
new_ends c app p kept lawful steady geometry known config caller rests none is = record {
  one = record { config = lawful; regular = steady.regular; geometry = geometry; known = known };
  closes = steady.closes;
  config = config;
  caller = caller;
  rests = rests;
  fit = subst (AllFit c []) (sym none) tt;
  own = subst (HasOwnFrames c app) (sym none) (had_none c app);
  sends = ap (λ k. k.tx_done) is;
  split = subst (λ l. IsSplit c app l kept) (sym none) (subst (IsSplit c app []) (sym is) (split_none c app));
}

-- ---- lanes and sides

pub lane_begins : (e : EndsShown) (lane : ℕ) (way : Way) (items : List Item) → AreEnds e → lane < lanes_of e.config → way.rx ≡ rx_of e.config e.app lane → way.tx ≡ tx_of e.config e.app lane
    → way.pair ≡ tx_pair e.config e.app lane → items ≡ pending_at e.kept lane → VisitsLane e.config way (origin e (AtLane lane)) lane e.kept items e.pass
lane_begins e lane way items is below rx tx pair same = record {
  config = refl;
  way_is = record { below = below; rx = rx; tx = tx; pair = pair };
  items_are = same;
  lanes = omega (arith, below, (left e is).lanes);
  plain = ap (λ m. m.mangle) (is_plain e is);
  at = subst (λ xs. At (origin e (AtLane lane)) e.pass (visit_lane e.config e.app lane xs no_note e.kept after) Moved) (sym same) (begins e (AtLane lane) is below);
}

-- one that was found empty
pub found_empty : (e : EndsShown) (lane rx : ℕ) (q : Holder) (name : ℕ) (items : List Item) → rx ≡ rx_of e.config e.app lane → pending_at e.kept lane ≡ [] → items ≡ []
    → mine_of q ≡ with_told (mine_of e.pass) (Peek (Rx rx) (batch_of e.config)) Empty → IsFoundEmpty lane e (record { config = e.config; app = name; pass = q; kept = with_pending e.kept lane items })
found_empty e lane rx q name items rx_is none still mine = record {
  none = none;
  kept = ap (with_pending e.kept lane) (still ∙ sym none) ∙ with_pending-same e.kept lane;
  mine = mine ∙ ap (λ (n : ℕ). with_told (mine_of e.pass) (Peek (Rx n) (batch_of e.config)) Empty) rx_is;
}

pub found_from : (lane : ℕ) (e f x : EndsShown) → e ≡ x → IsFoundEmpty lane e f → IsFoundEmpty lane x f
found_from lane e f x same h = subst (λ (y : EndsShown). IsFoundEmpty lane y f) same h

pub side_begins : (e : EndsShown) (side pair : ℕ) (frames : List Frame) → AreEnds e → side < 2 → pair ≡ pair_of e.config e.app side → frames ≡ back_at e.kept side
    → VisitsSide e.config pair (origin e (AtSide side)) side e.kept frames e.pass
side_begins e side pair frames is below pair_is same = record {
  config = refl;
  pair_is = pair_is;
  frames_are = same;
  at = subst (λ fs. At (origin e (AtSide side)) e.pass (visit_side e.config e.app side fs no_note e.kept after) Moved) (sym same) (begins e (AtSide side) is below);
}

-- ---- marks

-- the same with these sides seen
abbrev pub seen_as : AppKept → Bool → Bool → AppKept
seen_as k x y = record k { seen = x ∷ y ∷ [] }

abbrev pub second : Config → ℕ → AppKept → Script AppKept
second c app k = look_rx_done c app 1 1 k

abbrev pub no_more : Config → ℕ → AppKept → Script AppKept
no_more c app k = look_rx_done c app 0 2 k

pub looks_mark : (o : Origin) (p : Holder) (pair d : ℕ) (seen : Bool) (k : AppKept) (done : Script AppKept) (later : ℕ → Script AppKept) → pair ≡ d
    → At o p (cond seen done (ask k (Look (RxDone d)) (on_old later))) Moved → Looks o (RxDone pair) seen k done later p
looks_mark o p pair d seen k done later e at = record { at = subst (λ (n : ℕ). At o p (cond seen done (ask k (Look (RxDone n)) (on_old later))) Moved) (sym e) at }

module _ (o : Origin) (q : Holder) (k : AppKept) where
  by_first : (y b : Bool) → At o q (second o.config o.app (cond b (seen_as k true y) (seen_as k false y))) Moved → At o q (second o.config o.app (seen_as k b y)) Moved
  by_first y true at = at
  by_first y false at = at

  by_second : (x b : Bool) → At o q (again (cond b (seen_as k x true) (seen_as k x false))) Moved → At o q (again (seen_as k x b)) Moved
  by_second x true at = at
  by_second x false at = at

  pub first_looked : (x y now : Bool) → HasLooked o x now (second o.config o.app (seen_as k x y)) (λ n. second o.config o.app (with_seen (seen_as k x y) 0 n)) q
      → At o q (second o.config o.app (seen_as k now y)) Moved
  first_looked true y now h = subst (λ b. At o q (second o.config o.app (seen_as k b y)) Moved) (sym h.0) h.1
  first_looked false y now h = subst (λ b. At o q (second o.config o.app (seen_as k b y)) Moved) (sym h.1) (by_first y (eqb h.0 1) h.2)

  pub second_looked : (x y now : Bool) → HasLooked o y now (no_more o.config o.app (seen_as k x y)) (λ n. no_more o.config o.app (with_seen (seen_as k x y) 1 n)) q
      → At o q (again (seen_as k x now)) Moved
  second_looked x true now h = subst (λ b. At o q (again (seen_as k x b)) Moved) (sym h.0) h.1
  second_looked x false now h = subst (λ b. At o q (again (seen_as k x b)) Moved) (sym h.1) (by_second x (eqb h.0 1) h.2)

-- both, as the ends have them
two_flags : (flags : List Bool) → length flags ≡ 2 → flags ≡ is_set flags 0 ∷ is_set flags 1 ∷ []
two_flags [] two = absurd (omega (arith, two))
two_flags (x ∷ []) two = absurd (omega (arith, two))
two_flags (x ∷ y ∷ []) two = refl
two_flags (x ∷ y ∷ z ∷ flags) two = absurd (omega (arith, two))

abbrev pub in_order : AppKept → AppKept
in_order k = seen_as k (is_set k.seen 0) (is_set k.seen 1)

abbrev pub after_first : EndsShown → ℕ → Script AppKept
after_first e n = second e.config e.app (with_seen (in_order e.kept) 0 n)

abbrev pub after_second : EndsShown → Bool → ℕ → Script AppKept
after_second e now n = no_more e.config e.app (with_seen (seen_as e.kept now (is_set e.kept.seen 1)) 1 n)

module _ (e : EndsShown) (is : AreEnds e) (two : length e.kept.seen ≡ 2) where
  pub looks_first : (pair : ℕ) → pair ≡ pair_of e.config e.app 0
      → Looks (origin e AtMarks) (RxDone pair) (is_set e.kept.seen 0) (in_order e.kept) (second e.config e.app (in_order e.kept)) (after_first e) e.pass
  looks_first pair same =
      looks_mark (origin e AtMarks) e.pass pair (pair_of e.config e.app 0) (is_set e.kept.seen 0) (in_order e.kept) (second e.config e.app (in_order e.kept)) (after_first e) same
      (subst (λ (flags : List Bool). At (origin e AtMarks) e.pass (look_rx_done e.config e.app 2 0 (record e.kept { seen = flags })) Moved) (two_flags e.kept.seen two) (begins e AtMarks is tt))

  pub looks_second : (q : Holder) (now : Bool) (pair : ℕ) → pair ≡ pair_of e.config e.app 1
      → HasLooked (origin e AtMarks) (is_set e.kept.seen 0) now (second e.config e.app (in_order e.kept)) (after_first e) q
      → Looks (origin e AtMarks) (RxDone pair) (is_set e.kept.seen 1) (seen_as e.kept now (is_set e.kept.seen 1)) (no_more e.config e.app (seen_as e.kept now (is_set e.kept.seen 1))) (after_second e now) q
  looks_second q now pair same looked =
      looks_mark (origin e AtMarks) q pair (pair_of e.config e.app 1) (is_set e.kept.seen 1) (seen_as e.kept now (is_set e.kept.seen 1)) (no_more e.config e.app (seen_as e.kept now (is_set e.kept.seen 1)))
      (after_second e now) same (first_looked (origin e AtMarks) q e.kept (is_set e.kept.seen 0) (is_set e.kept.seen 1) now looked)

-- a step that was made from the same ends
pub made_from : (step : SplitStep) (e f new : EndsShown) (came : Step) → e ≡ f → Makes step e new came → Makes step f new came
made_from step e f new came same h = subst (λ x. Makes step x new came) same h
