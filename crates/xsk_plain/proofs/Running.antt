-- A legal call goes on with the history of an engine, and with what is noted of its callers.
use Rattle.std.proofs.Common.{◌≡◌, ◌≢◌, ◌↔◌, ℕ, zero, suc, ◌+◌, ◌<◌, inl, inr, Bool, Option, None, Some, List, [], ◌∷◌, ◌++◌, length, get_or, set, refl, sym, ap, subst, ◌∙◌, ⊎_elim, arith, length-set, length-append}
use Rattle.std.specs.Prelude.{◌⊎◌, IfSome, IsNone, IsTrue, MatchOption, slice_get}
use Rattle.std.proofs.lemmas.Bool.{cases_eq}
use Rattle.std.proofs.lemmas.Grind.{get_or-set_at}
use Rattle.std.proofs.lemmas.List.{map-append, get_or-set_other}
use Rattle.std.proofs.lemmas.Option.{get_or_from_slice_get, slice_get_within, slice_get_read}
use Rattle.xsk_umem.specs.Frame.{Frame}
use Rattle.xsk_model.specs.Config.{Config, callers_of}
use Rattle.xsk_model.specs.Entry.{Told, Entry, own, with_told}
use Rattle.xsk_model.specs.Legal.{IsLegal}
use Rattle.xsk_model.specs.History.{IsHistory, MayGive, state_after}
use Rattle.xsk_model.specs.Opening.{opening}
use Rattle.xsk_model.specs.Stored.{stored, stored_entry}
use Rattle.xsk_model.specs.declared.call.Call.{Call}
use Rattle.xsk_model.specs.declared.call.Reply.{Reply}
use Rattle.xsk_model.proofs.Folds.{own-push_same, own-push_other}
use Rattle.xsk_model.proofs.Histories.{goes_push, after_all-append}
use Rattle.xsk_legal.specs.Noted.{Noted}
use Rattle.xsk_legal.specs.declared.why.Illegal.{Illegal}
use Rattle.xsk_legal.specs.Why.{Fails}
use Rattle.xsk_legal.proofs.Whys.{fails_not_legal}
use Rattle.xsk_legal.specs.Standing.{StandsFor}
use Rattle.xsk_legal.specs.Given.{StandsGiven}
use Rattle.xsk_plain.specs.Engine.{Engine, Shows}
use Rattle.xsk_plain.specs.Histories.{HasRun, NotesOwn, EachNotesOwn}
use Rattle.xsk_plain.specs.Rooms.{Enters}
use Rattle.xsk_plain.specs.Steps.{FollowsObject}
use Rattle.xsk_plain.proofs.Bare.{log_decides, fails_in_log}

abbrev pub entry : ℕ → Call → Reply → Entry
entry who call reply = record { who = who; call = call; reply = reply }

module _ (old new : Engine) (frames : List Frame) (h : List Entry) (who : ℕ) (call : Call) (reply : Reply) (bytes : ℕ)
    (run : HasRun old frames h) (legal : IsLegal old.config (own who h) who call)
    (enters : Enters old new who call reply bytes) (follows : FollowsObject old new who call reply) where
  goes_on : IsHistory old.config frames (h ++ entry who call reply ∷ [])
  goes_on = record {
    opened = run.legal.opened;
    legal = goes_push old.config (opening old.config frames) [] h (entry who call reply) run.legal.legal legal (follows.reply (state_after old.config frames h) run.shows);
  }

  shows_next : Shows new (state_after old.config frames (h ++ entry who call reply ∷ []))
  shows_next = subst (Shows new) (sym (after_all-append old.config (opening old.config frames) h (entry who call reply ∷ []))) (follows.state (state_after old.config frames h) run.shows)

  logs_next : new.log ≡ stored old.config.geometry old.config.sg (h ++ entry who call reply ∷ [])
  logs_next =
      enters.log
      ∙ ap (λ (l : List Entry). l ++ stored_entry old.config.geometry old.config.sg (entry who call reply) ∷ []) run.log
      ∙ sym (map-append (stored_entry old.config.geometry old.config.sg) h (entry who call reply ∷ []))

  pub run_next : HasRun new frames (h ++ entry who call reply ∷ [])
  run_next =
      let same : old.config ≡ new.config = sym enters.config in
      record {
        legal = subst (λ (c : Config). IsHistory c frames (h ++ entry who call reply ∷ [])) same goes_on;
        shows = subst (λ (c : Config). Shows new (state_after c frames (h ++ entry who call reply ∷ []))) same shows_next;
        log = subst (λ (c : Config). new.log ≡ stored c.geometry c.sg (h ++ entry who call reply ∷ [])) same logs_next;
      }

  pub may_give : MayGive old.config (own who h) who call reply
  may_give = record {
    frames = frames;
    history = h ++ entry who call reply ∷ [];
    legal = goes_on;
    entries = own-push_same who h (entry who call reply) refl;
  }

-- the configurations that are read before the call and after it are the engine's
pub given_on : (c d e : Config) (kept next : Noted) (mine : List Told) (who : ℕ) (call : Call) → d ≡ c → e ≡ c → StandsFor c kept mine → kept.who ≡ who → IsLegal c mine who call
    → ((l : List Told) → StandsFor d kept l → IsLegal d l kept.who call → StandsGiven d next l call) → StandsGiven e next mine call
given_on c d e kept next mine who call before later stands caller legal notes =
    let here : StandsFor d kept mine = subst (λ (k : Config). StandsFor k kept mine) (sym before) stands in
    let may : IsLegal d mine kept.who call = subst (λ (k : Config). IsLegal k mine kept.who call) (sym before) (subst (λ (w : ℕ). IsLegal c mine w call) (sym caller) legal) in
    subst (λ (k : Config). StandsGiven k next mine call) (before ∙ sym later) (notes mine here may)

pub gift_on : (c e : Config) (mine : List Told) (who : ℕ) (by : ℕ) (call : Call) (reply : Reply) → e ≡ c → by ≡ who → MayGive c mine who call reply → MayGive e mine by call reply
gift_on c e mine who by call reply config caller gift =
    subst (λ (k : Config). MayGive k mine by call reply) (sym config) (subst (λ (w : ℕ). MayGive c mine w call reply) (sym caller) gift)

-- what is legal after the log is so after the history
pub legal_in : (engine : Engine) (frames : List Frame) (h : List Entry) (who : ℕ) (call : Call) → HasRun engine frames h
    → IsLegal engine.config (own who engine.log) who call ↔ IsLegal engine.config (own who h) who call
legal_in engine frames h who call run =
    subst (λ (l : List Entry). IsLegal engine.config (own who l) who call ↔ IsLegal engine.config (own who h) who call) (sym run.log) (log_decides engine.config h who call)

-- what is noted of the caller, and of each other one
module _ (c : Config) (h : List Entry) (who : ℕ) (call : Call) (reply : Reply) where
  pub notes_next : (kept : Noted) → kept.who ≡ who → StandsFor c kept (with_told (own who h) call reply) → NotesOwn c (h ++ entry who call reply ∷ []) who kept
  notes_next kept caller stands =
      record { caller = caller; stands = subst (StandsFor c kept) (sym (own-push_same who h (entry who call reply) refl)) stands }

  notes_other : (other : ℕ) (kept : Noted) → other ≢ who → NotesOwn c h other kept → NotesOwn c (h ++ entry who call reply ∷ []) other kept
  notes_other other kept differs notes = record {
    caller = notes.caller;
    stands = subst (StandsFor c kept) (sym (own-push_other other h (entry who call reply) (λ same. differs (sym same)))) notes.stands;
  }

  pub each_next : (noted : List Noted) (kept : Noted) → EachNotesOwn c h noted → who < length noted → NotesOwn c (h ++ entry who call reply ∷ []) who kept
      → EachNotesOwn c (h ++ entry who call reply ∷ []) (set noted who kept)
  each_next noted kept all within notes = record {
    count = length-set noted who kept ∙ all.count;
    each = λ other one at. ⊎_elim
        (λ (same : other ≡ who).
        let is : kept ≡ one = sym (get_or-set_at noted who other kept one same within) ∙ get_or_from_slice_get (set noted who kept) other one one at in
        subst (λ (k : ℕ). NotesOwn c (h ++ entry who call reply ∷ []) k one) (sym same) (subst (NotesOwn c (h ++ entry who call reply ∷ []) who) is notes))
        (λ (differs : other ≡ who → ⊥).
        let was : one ≡ get_or noted other one = sym (get_or_from_slice_get (set noted who kept) other one one at) ∙ get_or-set_other noted who other kept one differs in
        let below : other < length noted = omega (arith, slice_get_within (set noted who kept) other one at, length-set noted who kept) in
        notes_other other one differs (all.each other one (slice_get_read noted (length noted) other one refl below was)))
        (cases_eq other who);
  }

pub noted_at : (c : Config) (h : List Entry) (noted : List Noted) (who : ℕ) (kept : Noted) → EachNotesOwn c h noted → who < length noted → kept ≡ get_or noted who kept → NotesOwn c h who kept
noted_at c h noted who kept all within is = all.each who kept (slice_get_read noted (length noted) who kept refl within is)

-- what a standing allows is what is legal after the log
pub allowed : (engine : Engine) (d : Config) (frames : List Frame) (h : List Entry) (who : ℕ) (kept : Noted) (call : Call) (result : Bool) → d ≡ engine.config → HasRun engine frames h
    → NotesOwn engine.config h who kept → ((mine : List Told) → StandsFor d kept mine → (IsTrue result ↔ IsLegal d mine kept.who call))
    → IsTrue result ↔ IsLegal engine.config (own who engine.log) who call
allowed engine d frames h who kept call result config run notes tells =
    let same = legal_in engine frames h who call run in
    let here : StandsFor d kept (own who h) = subst (λ (k : Config). StandsFor k kept (own who h)) (sym config) notes.stands in
    let told : IsTrue result ↔ IsLegal engine.config (own who h) who call =
    subst (λ (w : ℕ). IsTrue result ↔ IsLegal engine.config (own who h) w call) notes.caller
    (subst (λ (k : Config). IsTrue result ↔ IsLegal k (own who h) kept.who call) config (tells (own who h) here)) in
    (λ yes. same.1 (told.0 yes), λ legal. told.1 (same.0 legal))

-- ---- the opening

-- the first standings, each of a caller that has made no call
pub record AreNew (c : Config) (noted : List Noted) (n : ℕ) : Type 0 where
  pub count : length noted ≡ n
  pub each : (who : ℕ) (kept : Noted) → slice_get noted who ≡ Some kept → NotesOwn c [] who kept

push_at : (xs : List Noted) (x : Noted) (i : ℕ) (y : Noted) → slice_get (xs ++ x ∷ []) i ≡ Some y → (slice_get xs i ≡ Some y) ⊎ ((i ≡ length xs) × (x ≡ y))
push_at [] x zero y h = inr (refl, cc)
push_at [] x (suc i) y h = absurd (cc)
push_at (z ∷ zs) x zero y h = inl h
push_at (z ∷ zs) x (suc i) y h = elim (push_at zs x i y h) [
  | inl before ↦ inl before
  | inr last ↦ inr (ap suc last.0, last.1)
]

pub none_new : (c : Config) (noted : List Noted) → noted ≡ [] → AreNew c noted 0
none_new c noted none =
    let empty : AreNew c [] 0 = record { count = refl; each = λ who kept at. absurd (cc) } in
    subst (λ (ns : List Noted). AreNew c ns 0) (sym none) empty

pub one_new : (c : Config) (noted all : List Noted) (n : ℕ) (kept : Noted) → all ≡ noted ++ kept ∷ [] → AreNew c noted n → kept.who ≡ n → StandsFor c kept [] → AreNew c all (n + 1)
one_new c noted all n kept is new caller stands = subst (λ (ns : List Noted). AreNew c ns (n + 1)) (sym is) (record {
  count = omega (arith, length-append noted (kept ∷ []), new.count);
  each = λ who one at. elim (push_at noted kept who one at) [
    | inl before ↦ new.each who one before
    | inr last ↦ subst (NotesOwn c [] who) last.1 (record { caller = caller ∙ sym new.count ∙ sym last.0; stands = stands })
  ];
})

pub all_new : (c : Config) (noted : List Noted) (n : ℕ) → AreNew c noted n → n ≡ callers_of c → EachNotesOwn c [] noted
all_new c noted n new all = record { count = new.count ∙ all; each = new.each }

-- why a call isn't legal after the caller's own entries of the history
pub told_why : (engine : Engine) (d : Config) (h : List Entry) (who : ℕ) (kept : Noted) (call : Call) (result : Option Illegal) → d ≡ engine.config → NotesOwn engine.config h who kept
    → ((mine : List Told) → StandsFor d kept mine → MatchOption result (IsLegal d mine kept.who call) (λ why. Fails why d mine kept.who call))
    → MatchOption result (IsLegal engine.config (own who h) who call) (λ why. Fails why engine.config (own who h) who call)
told_why engine d h who kept call result config notes tells =
    let here : StandsFor d kept (own who h) = subst (λ (k : Config). StandsFor k kept (own who h)) (sym config) notes.stands in
    subst (λ (w : ℕ). MatchOption result (IsLegal engine.config (own who h) w call) (λ why. Fails why engine.config (own who h) w call)) notes.caller
    (subst (λ (k : Config). MatchOption result (IsLegal k (own who h) kept.who call) (λ why. Fails why k (own who h) kept.who call)) config (tells (own who h) here))

pub none_is_legal : (engine : Engine) (frames : List Frame) (h : List Entry) (who : ℕ) (call : Call) (result : Option Illegal) → HasRun engine frames h
    → MatchOption result (IsLegal engine.config (own who h) who call) (λ why. Fails why engine.config (own who h) who call)
    → IsNone result ↔ IsLegal engine.config (own who engine.log) who call
none_is_legal engine frames h who call None run told = (λ _. (legal_in engine frames h who call run).1 told, λ _. refl)
none_is_legal engine frames h who call (Some why) run told =
    (λ none. absurd (cc), λ legal. absurd (fails_not_legal why engine.config (own who h) who call told ((legal_in engine frames h who call run).0 legal)))

pub told_in_log : (engine : Engine) (frames : List Frame) (h : List Entry) (who : ℕ) (call : Call) (result : Option Illegal) → HasRun engine frames h
    → MatchOption result (IsLegal engine.config (own who h) who call) (λ why. Fails why engine.config (own who h) who call)
    → IfSome result (λ why. Fails why engine.config (own who engine.log) who call)
told_in_log engine frames h who call None run told = tt
told_in_log engine frames h who call (Some why) run told =
    subst (λ (l : List Entry). Fails why engine.config (own who l) who call) (sym run.log) (fails_in_log engine.config h who call why told)
