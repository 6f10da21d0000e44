-- What becomes of a call that is read: it is made, or none is legal.
use Rattle.std.proofs.Common.{◌≡◌, ℕ, zero, suc, drop, inl, inr, Bool, true, false, Option, Some, None, List, [], ◌∷◌, ◌++◌, ◌+◌, length, map, replicate, All, refl, sym, ap, subst, ◌∙◌, arith}
use Rattle.std.specs.Prelude.{codes, IfSome, IsTrue}
use Rattle.std.proofs.lemmas.Bool.{cases_Bool}
use Rattle.std.proofs.lemmas.List.{length-map}
use Rattle.std.proofs.lemmas.List.Elements.{All-nil}
use Rattle.xsk_umem.specs.Frame.{Frame}
use Rattle.xsk_umem.specs.Geometry.{Geometry}
use Rattle.xsk_umem.specs.declared.batch.Item.{Item}
use Rattle.xsk_umem.specs.declared.batch.XdpDesc.{XdpDesc}
use Rattle.xsk_model.specs.Asks.{joined_call, joined_reply, HasAsked, HasAnswered}
use Rattle.xsk_model.specs.Config.{Config}
use Rattle.xsk_model.specs.Numbers.{times, numbers}
use Rattle.xsk_model.specs.Object.{submitted, taken}
use Rattle.xsk_model.specs.Entry.{Told, Entry, own}
use Rattle.xsk_model.specs.Legal.{IsLegal}
use Rattle.xsk_model.specs.History.{IsHistory, Fits}
use Rattle.xsk_model.specs.Opening.{IsOpened, opening}
use Rattle.xsk_model.specs.declared.ask.Answer.{Answer}
use Rattle.xsk_model.specs.declared.ask.Ask.{Ask}
use Rattle.xsk_model.specs.declared.ask.Ask.TheVariants as ask
use Rattle.xsk_model.specs.declared.call.Call.{Call}
use Rattle.xsk_model.specs.declared.call.Call.TheVariants.{Reserve, Submit, Peek, Release, Swap, Look}
use Rattle.xsk_model.specs.declared.call.Reply.{Reply}
use Rattle.xsk_model.specs.declared.call.Reply.TheVariants.{Granted, Full, Submitted, Items, Empty, Released, Old}
use Rattle.xsk_model.proofs.AskTheorems.{answers_join}
use Rattle.xsk_model.proofs.Replies.{entry_fits}
use Rattle.xsk_plain.specs.Engine.{Engine, Shows}
use Rattle.xsk_plain.specs.Histories.{HasRun}
use Rattle.xsk_plain.specs.Rooms.{Enters}
use Rattle.xsk_plain.specs.Steps.{FollowsObject}
use Rattle.xsk_plain.proofs.Running.{entry, run_next, legal_in}
use Rattle.xsk_audit.specs.Reading.{◌>>=◌, Said, choose, word_at, counted_at, items_at, frameless, ring_at, mark_at, number_at, who_at, submit_at, swap_at, call_at, line_at, read_items, read_call, desc_at, begins_item}
use Rattle.xsk_audit.specs.Shelf.{Places, has, AreInPlace, HasItsFrame, IsLent, Lacks, descs_of}
use Rattle.xsk_audit.specs.Shelf as shelf
use Rattle.xsk_audit.specs.Playing.{IsPlaying, IsMadeBy, Makes}
use Rattle.xsk_audit.proofs.Numbers.{some-value}
use Rattle.xsk_audit.proofs.Bodied.{with_items, legal-again, its-frame}
use Rattle.xsk_audit.proofs.Complete.{read-with, read-descs}
use Rattle.xsk_audit.proofs.Stocks.{had-step, lacks-none, stocked-step, with-places, with-length}

-- ---- what a line tells has no frames

bind-keeps : {A B : Type 0} (P : B → Type 0) (o : Option A) (f : A → Option B) → ((x : A) → (o ≡ Some x) → (b : B) → f x ≡ Some b → P b) → (b : B) → (o >>= f) ≡ Some b → P b
bind-keeps P None f keeps b h = absurd (cc)
bind-keeps P (Some x) f keeps b h = keeps x refl b h

choose-keeps : {A : Type 0} (P : A → Type 0) (o : Option (List ℕ)) (f : List ℕ → Option A) (other : Option A) → ((rest : List ℕ) (a : A) → f rest ≡ Some a → P a) → ((a : A) → other ≡ Some a → P a)
    → (a : A) → choose o f other ≡ Some a → P a
choose-keeps P None f other here there a h = there a h
choose-keeps P (Some rest) f other here there a h = here rest a h

abbrev AreBare : List Item → Type 0
AreBare items = read_items items ≡ items

abbrev pub IsBare : Call → Type 0
IsBare call = read_call call ≡ call

one-bare : (P : List Item → Type 0) (items : List Item) (given : List Item) → P given → Some given ≡ Some items → P items
one-bare P items given p h = subst P (some-value given items h) p

items-bare : (n : ℕ) (xs : List ℕ) (items : List Item) → items_at n xs ≡ Some items → AreBare items
unfolding items_at
items-bare zero xs items h = elim (cases_Bool (begins_item xs)) [
  | inl more ↦ absurd (cc (rw more at h))
  | inr none ↦ one-bare AreBare items [] refl (rw none at h)
]
items-bare (suc n) xs items h = elim (cases_Bool (begins_item xs)) [
  | inl more ↦
      bind-keeps AreBare (desc_at (drop 1 xs)) (λ desc. items_at n desc.1 >>= λ later. Some (frameless desc.0 ∷ later))
      (λ desc _ given e. bind-keeps AreBare (items_at n desc.1) (λ later. Some (frameless desc.0 ∷ later))
      (λ later reads all is. one-bare AreBare all (frameless desc.0 ∷ later) (ap (λ (l : List Item). frameless desc.0 ∷ l) (items-bare n desc.1 later reads)) is) given e)
      items (rw more at h)
  | inr none ↦ one-bare AreBare items [] refl (rw none at h)
]

call-is : (call given : Call) → IsBare given → Some given ≡ Some call → IsBare call
call-is call given p h = subst IsBare (some-value given call h) p

call-bare : (xs : List ℕ) (call : Call) → call_at xs ≡ Some call → IsBare call
unfolding call_at submit_at swap_at
call-bare xs call h =
    choose-keeps IsBare (word_at (codes "reserve ") xs) _ _
    (λ rest a e. bind-keeps IsBare (counted_at rest) (λ read. Some (Reserve read.0 read.1)) (λ read _ b is. call-is b (Reserve read.0 read.1) refl is) a e)
    (choose-keeps IsBare (word_at (codes "submit ") xs) _ _
    (λ rest a e. bind-keeps IsBare (ring_at rest) (λ ring. items_at 32 ring.1 >>= λ items. Some (Submit ring.0 items))
    (λ ring _ b is. bind-keeps IsBare (items_at 32 ring.1) (λ items. Some (Submit ring.0 items))
    (λ items reads k same. call-is k (Submit ring.0 items) (ap (Submit ring.0) (items-bare 32 ring.1 items reads)) same) b is) a e)
    (choose-keeps IsBare (word_at (codes "peek ") xs) _ _
    (λ rest a e. bind-keeps IsBare (counted_at rest) (λ read. Some (Peek read.0 read.1)) (λ read _ b is. call-is b (Peek read.0 read.1) refl is) a e)
    (choose-keeps IsBare (word_at (codes "release ") xs) _ _
    (λ rest a e. bind-keeps IsBare (counted_at rest) (λ read. Some (Release read.0 read.1)) (λ read _ b is. call-is b (Release read.0 read.1) refl is) a e)
    (choose-keeps IsBare (word_at (codes "swap ") xs) _ _
    (λ rest a e. bind-keeps IsBare (mark_at rest) (λ mark. word_at (codes " ") mark.1 >>= λ later. number_at later >>= λ value. Some (Swap mark.0 value.0))
    (λ mark _ b is. bind-keeps IsBare (word_at (codes " ") mark.1) (λ later. number_at later >>= λ value. Some (Swap mark.0 value.0))
    (λ later _ k same. bind-keeps IsBare (number_at later) (λ value. Some (Swap mark.0 value.0)) (λ value _ z last. call-is z (Swap mark.0 value.0) refl last) k same) b is) a e)
    (choose-keeps IsBare (word_at (codes "look ") xs) _ _
    (λ rest a e. bind-keeps IsBare (mark_at rest) (λ mark. Some (Look mark.0)) (λ mark _ b is. call-is b (Look mark.0) refl is) a e)
    (λ a e. absurd (cc))))))) call h

abbrev SaysBare : Said → Type 0
SaysBare said = IsBare said.call

pub line-says : (pairs : ℕ) (xs : List ℕ) (said : Said) → Some said ≡ line_at pairs xs → read_call said.call ≡ said.call
unfolding line_at
line-says pairs xs said h =
    bind-keeps SaysBare (number_at xs) _ (λ round _ a e. bind-keeps SaysBare (word_at (codes " ") round.1) _ (λ rest _ b f. bind-keeps SaysBare (who_at pairs rest) _
    (λ who _ k g. bind-keeps SaysBare (word_at (codes " ") who.1) _ (λ later _ m i. bind-keeps SaysBare (call_at later) _
    (λ call reads z last. subst SaysBare (some-value (record { round = round.0; who = who.0; call = call }) z last) (call-bare later call reads)) m i) k g) b f) a e) said (sym h)

-- ---- forms

pub submitted-joined : (form : Ask) (items : List Item) → HasAsked form items → submitted (joined_call form items) ≡ items
submitted-joined (ask.Reserve r n) items has = sym has
submitted-joined (ask.Submit r) items has = refl
submitted-joined (ask.Peek r n) items has = sym has
submitted-joined (ask.Release r n) items has = sym has
submitted-joined (ask.Swap m value) items has = sym has
submitted-joined (ask.Look m) items has = sym has

with-joined : (form : Ask) (told items : List Item) → with_items (joined_call form told) items ≡ joined_call form items
with-joined (ask.Reserve r n) told items = refl
with-joined (ask.Submit r) told items = refl
with-joined (ask.Peek r n) told items = refl
with-joined (ask.Release r n) told items = refl
with-joined (ask.Swap m value) told items = refl
with-joined (ask.Look m) told items = refl

read-by-descs : (items : List Item) → read_items items ≡ map frameless (descs_of items)
read-by-descs [] = refl
read-by-descs (item ∷ items) = ap (λ (l : List Item). frameless item.desc ∷ l) (read-by-descs items)

pub read-joined : (form : Ask) (told items : List Item) → descs_of items ≡ descs_of told → read_call (joined_call form items) ≡ read_call (joined_call form told)
read-joined (ask.Reserve r n) told items same = refl
read-joined (ask.Submit r) told items same = ap (Submit r) (read-by-descs items ∙ ap (map frameless) same ∙ sym (read-by-descs told))
read-joined (ask.Peek r n) told items same = refl
read-joined (ask.Release r n) told items same = refl
read-joined (ask.Swap m value) told items same = refl
read-joined (ask.Look m) told items same = refl

-- ---- a call that isn't made

module _ (engine : Engine) (places : Places) (frames : List Frame) (h : List Entry) (who : ℕ) (form : Ask) (told : List Item) (playing : IsPlaying engine places frames h)
    (asked : HasAsked form told) (bare : read_call (joined_call form told) ≡ joined_call form told) where
  same-descs : (call : Call) → read_call call ≡ joined_call form told → descs_of (submitted call) ≡ descs_of told
  same-descs call is = read-descs call (joined_call form told) (is ∙ sym bare) ∙ ap descs_of (submitted-joined form told asked)

  -- a frame isn't there
  pub lacks-legal : Lacks engine.config.geometry places (descs_of told) → (call : Call) → read_call call ≡ joined_call form told → IsLegal engine.config (own who h) who call → ⊥
  lacks-legal lacks call is legal =
      lacks-none engine.config frames h places who call playing.run.legal playing.stocked legal
      (subst (λ (ds : List XdpDesc). Lacks engine.config.geometry places ds) (sym (same-descs call is)) lacks)

  -- the call with frames isn't legal
  pub refused-legal : (mid : Places) (items : List Item) → IsLent engine.config.geometry places mid (descs_of told) items
      → (IsLegal engine.config (own who engine.log) who (joined_call form items) → ⊥)
      → (call : Call) → read_call call ≡ joined_call form told → IsLegal engine.config (own who h) who call → ⊥
  refused-legal mid items lent refused call is legal =
      let again = legal-again engine.config (own who h) who call items playing.run.legal.opened.geometry (lent.descs_are ∙ sym (same-descs call is)) lent.frames legal in
      let form_is : with_items call items ≡ joined_call form items =
      ap (λ (k : Call). with_items k items) (read-with call (joined_call form told) (is ∙ sym bare)) ∙ twice (joined_call form told) (submitted call) items ∙ with-joined form told items in
      refused ((legal_in engine frames h who (joined_call form items) playing.run).1 (subst (IsLegal engine.config (own who h) who) form_is again))
    where
      twice : (call : Call) (xs ys : List Item) → with_items (with_items call xs) ys ≡ with_items call ys
      twice (Reserve r n) xs ys = refl
      twice (Submit r items) xs ys = refl
      twice (Peek r n) xs ys = refl
      twice (Release r n) xs ys = refl
      twice (Swap m value) xs ys = refl
      twice (Look m) xs ys = refl

-- ---- a call that is made

taken-framed : (c : Config) (mine : List Told) (call : Call) (reply : Reply) → Fits c mine call reply → All (HasItsFrame c.geometry) (taken reply)
taken-framed c mine call Granted fits = All-nil (HasItsFrame c.geometry)
taken-framed c mine call (Full free) fits = All-nil (HasItsFrame c.geometry)
taken-framed c mine call Submitted fits = All-nil (HasItsFrame c.geometry)
taken-framed c mine call Empty fits = All-nil (HasItsFrame c.geometry)
taken-framed c mine call Released fits = All-nil (HasItsFrame c.geometry)
taken-framed c mine call (Old value) fits = All-nil (HasItsFrame c.geometry)
taken-framed c mine (Peek r n) (Items items) fits = its-frame c.geometry r items fits.lawful
taken-framed c mine (Reserve r n) (Items items) fits = absurd fits
taken-framed c mine (Submit r more) (Items items) fits = absurd fits
taken-framed c mine (Release r n) (Items items) fits = absurd fits
taken-framed c mine (Swap m value) (Items items) fits = absurd fits
taken-framed c mine (Look m) (Items items) fits = absurd fits

pub made-legal : (old engine new : Engine) (places mid : Places) (frames : List Frame) (h : List Entry) (who : ℕ) (form : Ask) (told items : List Item) (reply : Reply) (bytes : ℕ)
    → IsPlaying old places frames h → HasAsked form told → read_call (joined_call form told) ≡ joined_call form told → IsLent old.config.geometry places mid (descs_of told) items
    → AreInPlace old.config.geometry mid → length mid ≡ length places → HasAsked form items → engine.config ≡ old.config → HasRun engine frames h
    → IsLegal engine.config (own who engine.log) who (joined_call form items) → Enters engine new who (joined_call form items) reply bytes → FollowsObject engine new who (joined_call form items) reply
    → IsMadeBy new (shelf.with_items mid (taken reply)) frames h who (joined_call form told)
made-legal old engine new places mid frames h who form told items reply bytes playing asked bare lent are kept fitting config run legal enters follows =
    let call = joined_call form items in
    let own_legal = (legal_in engine frames h who call run).0 legal in
    let next : HasRun new frames (h ++ entry who call reply ∷ []) = run_next engine new frames h who call reply bytes run own_legal enters follows in
    let same : old.config ≡ new.config = sym config ∙ sym enters.config in
    let history : IsHistory old.config frames (h ++ entry who call reply ∷ []) = subst (λ (c : Config). IsHistory c frames (h ++ entry who call reply ∷ [])) (sym same) next.legal in
    let fits = entry_fits old.config frames h [] (entry who call reply) history in
    let left : (n : ℕ) → has mid n + times n (numbers (submitted call)) ≡ has places n = λ n. ap (λ (xs : List Item). has mid n + times n (numbers xs)) (submitted-joined form items fitting) ∙ lent.left n in
    record {
      entry = entry who call reply;
      playing = record {
        run = next;
        stocked = stocked-step old.config frames h places mid (entry who call reply) history playing.size kept left playing.stocked;
        had = had-step old.config frames h places mid (entry who call reply) left playing.had;
        places = subst (λ (c : Config). AreInPlace c.geometry (shelf.with_items mid (taken reply))) same (with-places old.config.geometry mid (taken reply) (taken-framed old.config (own who h) call reply fits) are);
        size = with-length mid (taken reply) ∙ kept ∙ playing.size ∙ ap (λ (c : Config). c.geometry.frames) same;
      };
      caller = refl;
      told = read-joined form told items lent.descs_are ∙ bare;
    }

-- as the answer of the code has it, with the frames that it brought put on the shelf
pub made-as : (old engine new : Engine) (places mid after : Places) (frames : List Frame) (h : List Entry) (who : ℕ) (form : Ask) (told items : List Item) (answer : Answer) (brought : List Item) (bytes : ℕ)
    → IsPlaying old places frames h → HasAsked form told → read_call (joined_call form told) ≡ joined_call form told → IsLent old.config.geometry places mid (descs_of told) items
    → AreInPlace old.config.geometry mid → length mid ≡ length places → HasAsked form items → engine ≡ record old { spare_entries = engine.spare_entries; spare_bytes = engine.spare_bytes }
    → IsLegal old.config (own who old.log) who (joined_call form items) → HasAnswered answer brought
    → Enters engine new who (joined_call form items) (joined_reply answer brought) bytes → FollowsObject engine new who (joined_call form items) (joined_reply answer brought)
    → after ≡ shelf.with_items mid brought → IsMadeBy new after frames h who (joined_call form told)
made-as old engine new places mid after frames h who form told items answer brought bytes playing asked bare lent are kept fitting same legal answered enters follows put =
    let run : HasRun engine frames h = subst (λ (e : Engine). HasRun e frames h) (sym same) (record {
      legal = playing.run.legal;
      shows = record { rings = playing.run.shows.rings; marks = playing.run.shows.marks };
      log = playing.run.log;
    }) in
    let may : IsLegal engine.config (own who engine.log) who (joined_call form items) =
    subst (λ (e : Engine). IsLegal e.config (own who e.log) who (joined_call form items)) (sym same) legal in
    let all : taken (joined_reply answer brought) ≡ brought = (answers_join answer brought).1.1 answered in
    subst (λ (p : Places). IsMadeBy new p frames h who (joined_call form told)) (ap (shelf.with_items mid) all ∙ sym put)
    (made-legal old engine new places mid frames h who form told items (joined_reply answer brought) bytes playing asked bare lent are kept fitting (ap (λ (e : Engine). e.config) same) run may enters follows)

pub not-true : (b : Bool) → b ≡ false → IsTrue b → ⊥
not-true b is holds = let e : false ≡ true = sym is ∙ holds in absurd (cc)

-- what became of a call
pub was-made : (engine : Engine) (places : Places) (frames : List Frame) (h : List Entry) (who : ℕ) (call : Call) (b : Bool) → Makes engine places frames h who call b → b ≡ true
    → IsMadeBy engine places frames h who call
was-made engine places frames h who call true made is = made
was-made engine places frames h who call false made is = absurd (cc)

pub wasnt-made : (engine : Engine) (places : Places) (frames : List Frame) (h : List Entry) (who : ℕ) (call : Call) (b : Bool) → Makes engine places frames h who call b → b ≡ false
    → HasRun engine frames h × ((other : Call) → read_call other ≡ call → IsLegal engine.config (own who h) who other → ⊥)
wasnt-made engine places frames h who call true made is = absurd (cc)
wasnt-made engine places frames h who call false made is = made

pub as-many : (told items : List Item) → descs_of items ≡ descs_of told → length items ≡ length told
as-many told items same = sym (length-map items (λ (i : Item). i.desc)) ∙ ap length same ∙ length-map told (λ (i : Item). i.desc)

-- ---- the opening

none-there : (count n : ℕ) → shelf.frame_at (replicate count None) n ≡ None
none-there zero n = refl
none-there (suc count) zero = refl
none-there (suc count) (suc n) = none-there count n

none-places : (g : Geometry) (count : ℕ) → AreInPlace g (replicate count None)
none-places g count n = subst (λ (o : Option Frame). IfSome o (λ (f : Frame). (f.number ≡ n) × (length f.bytes ≡ g.chunk))) (sym (none-there count n)) tt

length-none : (count : ℕ) → length (replicate {A = Option Frame} count None) ≡ count
length-none zero = refl
length-none (suc count) = ap suc (length-none count)

pub opened-playing : (engine : Engine) (c : Config) (frames : List Frame) (places : Places) → IsOpened c frames → engine.config ≡ c → Shows engine (opening c frames) → engine.log ≡ []
    → places ≡ replicate c.geometry.frames None → IsPlaying engine places frames []
opened-playing engine c frames places opened same shows log empty = record {
  run = record {
    legal = subst (λ (d : Config). IsHistory d frames []) (sym same) (record { opened = opened; legal = tt });
    shows = subst (λ (d : Config). Shows engine (opening d frames)) (sym same) shows;
    log = log;
  };
  stocked = λ who n some. absurd (omega (arith, some));
  had = λ n there. absurd (omega (arith, sym there ∙ ap (λ (p : Places). has p n) empty ∙ ap shelf.one (none-there c.geometry.frames n)));
  places = subst (AreInPlace engine.config.geometry) (sym empty) (none-places engine.config.geometry c.geometry.frames);
  size = ap length empty ∙ length-none c.geometry.frames ∙ ap (λ (d : Config). d.geometry.frames) (sym same);
}
