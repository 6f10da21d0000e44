-- The laws of single calls, proved.
use Rattle.std.proofs.Common.{◌≡◌, ◌↔◌, ℕ, ◌<◌, ◌≤◌, inr, true, false, List, [], ◌∷◌, ◌++◌, All, refl, sym, ap, subst, arith, ◌∙◌}
use Rattle.std.proofs.lemmas.List.Elements.{All-nil, All-cons}
use Rattle.xsk_umem.specs.Frame.{Frame}
use Rattle.xsk_model.specs.Config.{Config, callers_of}
use Rattle.xsk_model.specs.Marks.{IsMarkNumber}
use Rattle.xsk_model.specs.Swaps.{IsTimely}
use Rattle.xsk_model.specs.Object.{State, mark_at, after}
use Rattle.xsk_model.specs.Entry.{Told, Entry, own}
use Rattle.xsk_model.specs.Legal.{IsCounted, IsLegal, AreCompleted}
use Rattle.xsk_model.specs.Opening.{opening}
use Rattle.xsk_model.specs.History.{GoesOn, IsHistory, state_after, Fits}
use Rattle.xsk_model.specs.OtherWords.{changes, is_flag}
use Rattle.xsk_model.specs.Laws.{LastIsGift, OneMore, CallersExist, LegalSwaps, LegalCells, LegalClosings, LegalAcks, LegalBounces, MarksAfter, LeavesState, ChangesState, FewMoved, FromFill, ExactCompletion, BodiesDontMatter, ShapesDecide}
use Rattle.xsk_model.specs.declared.call.Ring.TheVariants.{Comp, Rx}
use Rattle.xsk_model.specs.declared.call.Mark.{Mark}
use Rattle.xsk_model.specs.declared.call.Mark.TheVariants.{NeedFill, NeedTx, Kick, RxDone, Gone, TxDone, Cell, Closing, Acked, Bounced}
use Rattle.xsk_model.specs.declared.call.Call.{Call}
use Rattle.xsk_model.specs.declared.call.Call.TheVariants.{Reserve, Submit, Peek, Release}
use Rattle.xsk_model.proofs.Folds.{own-push_same}
use Rattle.xsk_model.proofs.Histories.{goes_push, after_all-append, history_first, history_sound}
use Rattle.xsk_model.proofs.Replies.{history_entry, entry_fits}
use Rattle.xsk_model.proofs.Changes.{leaves_call, changes_call, mark_set, mark_stays}
use Rattle.xsk_model.proofs.Bodies.{same_legal}
use Rattle.xsk_model.proofs.Shapes.{layout_shape, shape_layout}
use Rattle.xsk_model.proofs.Legality.{few_given, received_from_fill, completed_next}

-- ---- one entry more

pub last_is_gift : LastIsGift
last_is_gift c frames h e history = record { frames = frames; history = h ++ e ∷ []; legal = history; entries = own-push_same e.who h e refl }

pub one_more : OneMore
one_more c frames h e history legal reply = record { opened = history.opened; legal = goes_push c (opening c frames) [] h e history.legal legal reply }

pub callers_go : (c : Config) (s : State) (past h : List Entry) → GoesOn c s past h → All (λ (e : Entry). e.who < callers_of c) h
callers_go c s past [] goes = All-nil (λ (e : Entry). e.who < callers_of c)
callers_go c s past (e ∷ es) goes =
    All-cons (λ (x : Entry). x.who < callers_of c) e es goes.0.caller (callers_go c (after c s e.who e.call) (past ++ e ∷ []) es goes.2)

pub callers_exist : CallersExist
callers_exist c frames h history = callers_go c (opening c frames) [] h history.legal

-- ---- what a call leaves

-- the state that one entry more leaves
state_push : (c : Config) (frames : List Frame) (h : List Entry) (e : Entry) → state_after c frames (h ++ e ∷ []) ≡ after c (state_after c frames h) e.who e.call
state_push c frames h e = after_all-append c (opening c frames) h (e ∷ [])

pub leaves_state : LeavesState
leaves_state c frames h e history no_change =
    let entry = history_entry c frames h [] e history in
    state_push c frames h e
    ∙ leaves_call c (state_after c frames h) e.who e.call (subst (λ reply. changes e.call reply ≡ false) entry.1 no_change)

pub changes_state : ChangesState
changes_state c frames h e history change same =
    let entry = history_entry c frames h [] e history in
    let sound = history_sound c frames h (history_first c frames h (e ∷ []) history) in
    changes_call c (opening c frames) (state_after c frames h) h e.who e.call history.opened.config sound entry.0 (subst (λ reply. changes e.call reply ≡ true) entry.1 change)
    (sym (state_push c frames h e) ∙ same)

-- ---- marks

pub marks_after_entry : MarksAfter
marks_after_entry c frames h e m history has =
    let entry = history_entry c frames h [] e history in
    let before : IsHistory c frames h = history_first c frames h (e ∷ []) history in
    let s : State = state_after c frames h in (
      λ value is.
          ap (λ (x : State). mark_at c x m) (state_push c frames h e)
          ∙ ap (λ call. mark_at c (after c s e.who call) m) is
          ∙ mark_set c s e.who m value history.opened.config has (history_sound c frames h before).marks,
      λ other.
          ap (λ (x : State). mark_at c x m) (state_push c frames h e)
          ∙ mark_stays c s (own e.who h) e.who e.call m history.opened.config has entry.0 other,
    )

-- a flag may be set to 0 and 1, at any time
flag_number : (c : Config) (m : Mark) (value : ℕ) → is_flag m ≡ true → IsMarkNumber c m value ↔ (value ≤ 1)
flag_number c (NeedFill d) value is = (λ h. h, λ h. h)
flag_number c (NeedTx s) value is = (λ h. h, λ h. h)
flag_number c (Kick d) value is = (λ h. h, λ h. h)
flag_number c (RxDone d) value is = (λ h. h, λ h. h)
flag_number c (Gone d) value is = (λ h. h, λ h. h)
flag_number c (TxDone a) value is = (λ h. h, λ h. h)
flag_number c (Cell port index) value is = absurd (cc)
flag_number c (Closing s) value is = absurd (cc)
flag_number c (Acked s) value is = absurd (cc)
flag_number c (Bounced d) value is = absurd (cc)

pub flag_time : (c : Config) (mine : List Told) (m : Mark) (value : ℕ) → is_flag m ≡ true → IsTimely c mine m value
flag_time c mine (NeedFill d) value is = tt
flag_time c mine (NeedTx s) value is = tt
flag_time c mine (Kick d) value is = tt
flag_time c mine (RxDone d) value is = tt
flag_time c mine (Gone d) value is = tt
flag_time c mine (TxDone a) value is = tt
flag_time c mine (Cell port index) value is = absurd (cc)
flag_time c mine (Closing s) value is = absurd (cc)
flag_time c mine (Acked s) value is = absurd (cc)
flag_time c mine (Bounced d) value is = absurd (cc)

pub legal_swaps : LegalSwaps
legal_swaps c mine who m value is = (
  λ legal. (legal.caller, legal.known, legal.role.0, (flag_number c m value is).0 legal.counted),
  λ h. record {
    caller = h.0;
    known = h.1;
    role = (h.2, flag_time c mine m value is);
    counted = (flag_number c m value is).1 h.3;
    frames = λ n. omega arith;
    items = tt;
    packets = tt;
    feeds = tt;
  },
)

pub legal_cells : LegalCells
legal_cells c mine who port index value = (
  λ legal. (legal.caller, legal.known, legal.role.1, legal.role.0.0, legal.role.0.1, legal.role.0.2),
  λ h. record {
    caller = h.0;
    known = h.1;
    role = ((h.3, h.4, h.5), h.2);
    counted = inr (h.2, h.3, h.4);
    frames = λ n. omega arith;
    items = tt;
    packets = tt;
    feeds = tt;
  },
)

pub legal_closings : LegalClosings
legal_closings c mine who s value = (
  λ legal. (legal.caller, legal.known, legal.role.0.0, legal.role.0.1, legal.role.1.0, legal.role.1.1),
  λ h. record {
    caller = h.0;
    known = h.1;
    role = ((h.2, h.3), (h.4, h.5));
    counted = omega (arith, h.4);
    frames = λ n. omega arith;
    items = tt;
    packets = tt;
    feeds = tt;
  },
)

pub legal_acks : LegalAcks
legal_acks c mine who s value = (
  λ legal. (legal.caller, legal.known, legal.role.0.0, legal.role.0.1, legal.role.1.0, legal.role.1.1, legal.role.1.2),
  λ h. record {
    caller = h.0;
    known = h.1;
    role = ((h.2, h.3), (h.4, h.5, h.6));
    counted = omega (arith, h.4);
    frames = λ n. omega arith;
    items = tt;
    packets = tt;
    feeds = tt;
  },
)

pub legal_bounces : LegalBounces
legal_bounces c mine who d value = (
  λ legal. (legal.caller, legal.known, legal.role.0, legal.counted, legal.role.1),
  λ h. record {
    caller = h.0;
    known = h.1;
    role = (h.2, h.4);
    counted = h.3;
    frames = λ n. omega arith;
    items = tt;
    packets = tt;
    feeds = tt;
  },
)

-- ---- legality in other words

pub few_moved : FewMoved
few_moved c frames past later e history =
    let entry = history_entry c frames past later e history in
    let legal : (call : Call) → e.call ≡ call → IsLegal c (own e.who past) e.who call = λ call is. subst (IsLegal c (own e.who past) e.who) is entry.0 in (
      λ r n is. (legal (Reserve r n) is).counted,
      λ r items is.
          let counted : IsCounted c (own e.who past) (Submit r items) = (legal (Submit r items) is).counted in
          (counted.0, counted.1),
      λ r n is. (legal (Peek r n) is).counted,
      λ r n is.
          let counted : IsCounted c (own e.who past) (Release r n) = (legal (Release r n) is).counted in
          (counted.0, counted.1),
      λ items is. few_given c (own e.who past) e.who e.call items entry.0 (subst (Fits c (own e.who past) e.call) is (entry_fits c frames past later e history)),
    )

pub from_fill : FromFill
from_fill c frames past later e s items history is =
    let legal : IsLegal c (own e.who past) e.who (Submit (Rx s) items) = subst (IsLegal c (own e.who past) e.who) is (history_entry c frames past later e history).0 in
    received_from_fill c (own e.who past) items legal.packets

pub exact_completion : ExactCompletion
exact_completion c frames past later e d items history is =
    let legal : IsLegal c (own e.who past) e.who (Submit (Comp d) items) = subst (IsLegal c (own e.who past) e.who) is (history_entry c frames past later e history).0 in
    let by : e.who ≡ d = legal.role in
    (by, completed_next c frames past d items (history_first c frames past (e ∷ later) history) (subst (λ w. AreCompleted c (own w past) (Comp d) items) by legal.packets))

pub bodies_dont_matter : BodiesDontMatter
bodies_dont_matter c mine other who call alike legal = same_legal c mine other alike who call legal

pub shapes_decide : ShapesDecide
shapes_decide g sg items lawful body = (λ layout. layout_shape g sg layout.0 items layout.1, λ shaped. shape_layout g sg items lawful body shaped)
