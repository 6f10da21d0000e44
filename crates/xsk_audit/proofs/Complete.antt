-- Lines that are the journal of a legal history are those of the calls that were made.
use Rattle.std.proofs.Common.{◌≡◌, ℕ, ◌*◌, ◌/◌, ◌^◌, ◌<◌, ◌≤◌, List, [], ◌∷◌, ◌++◌, length, map, All, Option, Some, None, refl, sym, ap, subst, ◌∙◌, arith, ⊎_elim}
use Rattle.std.proofs.lemmas.List.Elements.{All-nil, All-cons, All-head, All-tail}
use Rattle.xsk_umem.specs.Geometry.{Geometry}
use Rattle.xsk_umem.specs.declared.batch.Item.{Item}
use Rattle.xsk_umem.specs.declared.batch.XdpDesc.{XdpDesc}
use Rattle.xsk_model.specs.Config.{Config, IsConfig}
use Rattle.xsk_model.specs.Object.{State, submitted, after}
use Rattle.xsk_model.specs.Entry.{Told, Entry, own}
use Rattle.xsk_model.specs.Legal.{IsItemOn, AreItems, IsLegal}
use Rattle.xsk_model.specs.History.{GoesOn}
use Rattle.xsk_model.specs.OtherWords.{bare_call, bare_reply}
use Rattle.xsk_model.specs.declared.call.Ring.{Ring}
use Rattle.xsk_model.specs.declared.call.Ring.TheVariants.{Fill, Comp, Rx, Tx}
use Rattle.xsk_model.specs.declared.call.Mark.{Mark}
use Rattle.xsk_model.specs.declared.call.Mark.TheVariants.{NeedFill, NeedTx, Kick, RxDone, Gone, TxDone, Cell, Closing, Acked, Bounced}
use Rattle.xsk_model.specs.declared.call.Call.{Call}
use Rattle.xsk_model.specs.declared.call.Call.TheVariants.{Reserve, Submit, Peek, Release, Swap, Look}
use Rattle.xsk_model.specs.Config.{HasRing}
use Rattle.xsk_model.specs.Marks.{HasMark}
use Rattle.xsk_model.proofs.MarkPlaces.{cell_below}
use Rattle.xsk_audit.specs.Shelf.{HasItsFrame, descs_of}
use Rattle.xsk_audit.specs.Reading.{Said, line_at, read_items, read_call}
use Rattle.xsk_audit.specs.Telling.{Timed, entries, journal_line, NeverFalls, last_of}
use Rattle.xsk_audit.proofs.Numbers.{some-value}
use Rattle.xsk_audit.proofs.Alike.{bare_entry, bare_state, after-bare, replies-alike}
use Rattle.xsk_audit.proofs.Bodied.{with_items, calls-alike, its-frame}
use Rattle.xsk_audit.proofs.Again.{FitsRing, FitsMark, FitsItem, FitsCall, line-again}

-- ---- the numbers of a legal call fit a line

ring-fits : (c : Config) (r : Ring) → IsConfig c → HasRing c r → FitsRing r
ring-fits c (Fill d) config h = omega (arith, h, config.pairs_few)
ring-fits c (Comp d) config h = omega (arith, h, config.pairs_few)
ring-fits c (Rx s) config h = omega (arith, h.0, config.few)
ring-fits c (Tx s) config h = omega (arith, h.0, config.few)

ports-few : (c : Config) → IsConfig c → c.ports ≤ 4
ports-few c config = ⊎_elim (λ (e : c.ports ≡ 2). omega (arith, e)) (λ (e : c.ports ≡ 4). omega (arith, e)) config.ports

apps-few : (c : Config) → IsConfig c → (c.ports / 2) * c.queues ≤ 8
apps-few c config =
    let half : c.ports / 2 ≤ 2 = omega (arith, ports-few c config) in
    ⊎_elim (λ (e : c.queues ≡ 1). rw e (omega arith))
    (⊎_elim (λ (e : c.queues ≡ 2). rw e (omega arith)) (λ (e : c.queues ≡ 4). rw e (omega arith)))
    config.queues

mark-fits : (c : Config) (m : Mark) → IsConfig c → HasMark c m → FitsMark m
mark-fits c (NeedFill d) config h = omega (arith, h, config.pairs_few)
mark-fits c (NeedTx s) config h = omega (arith, h.0, config.few)
mark-fits c (Kick d) config h = omega (arith, h, config.pairs_few)
mark-fits c (RxDone d) config h = omega (arith, h, config.pairs_few)
mark-fits c (Gone d) config h = omega (arith, h, config.pairs_few)
mark-fits c (TxDone a) config h = omega (arith, h, apps-few c config)
mark-fits c (Cell port index) config h = (omega (arith, h.0, ports-few c config), omega (arith, cell_below c port index config h))
mark-fits c (Closing s) config h = omega (arith, h, config.few)
mark-fits c (Acked s) config h = omega (arith, h, config.few)
mark-fits c (Bounced d) config h = omega (arith, h, config.pairs_few)

items-fit : (g : Geometry) (r : Ring) (items : List Item) → All (IsItemOn g r) items → All FitsItem items
items-fit g r [] all = All-nil FitsItem
items-fit g r (item ∷ items) all =
    let one = All-head (IsItemOn g r) item items all in
    All-cons FitsItem item items (one.address, one.len, one.options) (items-fit g r items (All-tail (IsItemOn g r) item items all))

-- a mark is set to 0 or 1, or to a count of 64 bits
value-fits : (c : Config) (mine : List Told) (who : ℕ) (m : Mark) (value : ℕ) → IsLegal c mine who (Swap m value) → value < 2 ^ 64
value-fits c mine who (NeedFill d) value h = omega (arith, h.counted)
value-fits c mine who (NeedTx s) value h = omega (arith, h.counted)
value-fits c mine who (Kick d) value h = omega (arith, h.counted)
value-fits c mine who (RxDone d) value h = omega (arith, h.counted)
value-fits c mine who (Gone d) value h = omega (arith, h.counted)
value-fits c mine who (TxDone a) value h = omega (arith, h.counted)
value-fits c mine who (Cell port index) value h = omega (arith, h.role.1)
value-fits c mine who (Closing s) value h = omega (arith, h.counted)
value-fits c mine who (Acked s) value h = omega (arith, h.counted)
value-fits c mine who (Bounced d) value h = h.counted

call-fits : (c : Config) (mine : List Told) (who : ℕ) (call : Call) → IsConfig c → IsLegal c mine who call → FitsCall call
call-fits c mine who (Reserve r n) config h = (ring-fits c r config h.known, omega (arith, h.counted.1))
call-fits c mine who (Submit r items) config h = (ring-fits c r config h.known, items-fit c.geometry r items h.items, h.counted.1)
call-fits c mine who (Peek r n) config h = (ring-fits c r config h.known, omega (arith, h.counted.1))
call-fits c mine who (Release r n) config h = (ring-fits c r config h.known, omega (arith, h.counted.1))
call-fits c mine who (Swap m value) config h = (mark-fits c m config h.known, value-fits c mine who m value h)
call-fits c mine who (Look m) config h = mark-fits c m config h.known

who-fits : (c : Config) (mine : List Told) (who : ℕ) (call : Call) → IsConfig c → IsLegal c mine who call → who < 2 ^ 32
who-fits c mine who call config h = omega (arith, h.caller, apps-few c config, config.pairs_few)

-- so its line is read as it
pub reads : (c : Config) (mine : List Told) (t : Timed) → IsConfig c → t.round < 2 ^ 64 → IsLegal c mine t.entry.who t.entry.call
    → line_at (length c.pairs) (journal_line (length c.pairs) t) ≡ Some (record { round = t.round; who = t.entry.who; call = read_call t.entry.call })
reads c mine t config round h = line-again (length c.pairs) t round (who-fits c mine t.entry.who t.entry.call config h) (call-fits c mine t.entry.who t.entry.call config h)

-- ---- calls that are read alike

descs-read : (items : List Item) → descs_of (read_items items) ≡ descs_of items
descs-read [] = refl
descs-read (item ∷ items) = ap (λ (l : List XdpDesc). item.desc ∷ l) (descs-read items)

submitted-read : (call : Call) → descs_of (submitted (read_call call)) ≡ descs_of (submitted call)
submitted-read (Reserve r n) = refl
submitted-read (Submit r items) = descs-read items
submitted-read (Peek r n) = refl
submitted-read (Release r n) = refl
submitted-read (Swap m value) = refl
submitted-read (Look m) = refl

with-own : (call : Call) → with_items (read_call call) (submitted call) ≡ call
with-own (Reserve r n) = refl
with-own (Submit r items) = refl
with-own (Peek r n) = refl
with-own (Release r n) = refl
with-own (Swap m value) = refl
with-own (Look m) = refl

with-read : (call : Call) (xs : List Item) → with_items (read_call call) xs ≡ with_items call xs
with-read (Reserve r n) xs = refl
with-read (Submit r items) xs = refl
with-read (Peek r n) xs = refl
with-read (Release r n) xs = refl
with-read (Swap m value) xs = refl
with-read (Look m) xs = refl

-- a call that is read as another is that with items of its own
pub read-with : (call other : Call) → read_call call ≡ read_call other → call ≡ with_items other (submitted call)
read-with call other same = sym (with-own call) ∙ ap (λ (k : Call). with_items k (submitted call)) same ∙ with-read other (submitted call)

pub read-descs : (call other : Call) → read_call call ≡ read_call other → descs_of (submitted call) ≡ descs_of (submitted other)
read-descs call other same = sym (submitted-read call) ∙ ap (λ (k : Call). descs_of (submitted k)) same ∙ submitted-read other

its-frames : (g : Geometry) (call : Call) → AreItems g call → All (HasItsFrame g) (submitted call)
its-frames g (Reserve r n) h = All-nil (HasItsFrame g)
its-frames g (Submit r items) h = its-frame g r items h
its-frames g (Peek r n) h = All-nil (HasItsFrame g)
its-frames g (Release r n) h = All-nil (HasItsFrame g)
its-frames g (Swap m value) h = All-nil (HasItsFrame g)
its-frames g (Look m) h = All-nil (HasItsFrame g)

-- legal calls that are read alike are alike
pub read-alike : (c : Config) (mine past : List Told) (who : ℕ) (call other : Call) → read_call call ≡ read_call other → IsLegal c past who call → IsLegal c mine who other
    → bare_call call ≡ bare_call other
read-alike c mine past who call other same legal too =
    ap bare_call (read-with call other same) ∙ calls-alike c mine who other (submitted call) (read-descs call other same) (its-frames c.geometry call legal.items) too

-- ---- histories with the same lines

abbrev round_of : Option Said → ℕ
round_of None = 0
round_of (Some said) = said.round

pub record SameLines (least : ℕ) (timed other : List Timed) : Type 0 where
  pub alike : map bare_entry (entries timed) ≡ map bare_entry (entries other)
  pub last : last_of least timed ≡ last_of least other

pub same-lines : (c : Config) (s t : State) (past before : List Entry) (low least high : ℕ) (timed other : List Timed) → IsConfig c → bare_state s ≡ bare_state t
    → GoesOn c s past (entries timed) → GoesOn c t before (entries other) → NeverFalls low timed → NeverFalls high other
    → map (journal_line (length c.pairs)) timed ≡ map (journal_line (length c.pairs)) other → SameLines least timed other
unfolding last_of
same-lines c s t past before low least high [] [] config alike goes too falls rises same = record { alike = refl; last = refl }
same-lines c s t past before low least high [] (b ∷ other) config alike goes too falls rises same = absurd (cc)
same-lines c s t past before low least high (a ∷ timed) [] config alike goes too falls rises same = absurd (cc)
same-lines c s t past before low least high (a ∷ timed) (b ∷ other) config alike goes too falls rises same =
    let line : journal_line (length c.pairs) a ≡ journal_line (length c.pairs) b = cc in
    let more : map (journal_line (length c.pairs)) timed ≡ map (journal_line (length c.pairs)) other = cc in
    let here = some-value _ _ (sym (reads c (own a.entry.who past) a config falls.1 goes.0) ∙ ap (line_at (length c.pairs)) line ∙ reads c (own b.entry.who before) b config rises.1 too.0) in
    let round : a.round ≡ b.round = ap (λ (x : Said). x.round) here in
    let who : a.entry.who ≡ b.entry.who = ap (λ (x : Said). x.who) here in
    let call : bare_call a.entry.call ≡ bare_call b.entry.call =
    read-alike c (own b.entry.who before) (own a.entry.who past) b.entry.who a.entry.call b.entry.call (ap (λ (x : Said). x.call) here) (subst (λ (w : ℕ). IsLegal c (own a.entry.who past) w a.entry.call) who goes.0) too.0 in
    let reply : bare_reply a.entry.reply ≡ bare_reply b.entry.reply =
    ap bare_reply goes.1 ∙ replies-alike c s t a.entry.call b.entry.call alike call ∙ ap bare_reply (sym too.1) in
    let next : bare_state (after c s a.entry.who a.entry.call) ≡ bare_state (after c t b.entry.who b.entry.call) =
    after-bare c s a.entry.who a.entry.call ∙ (λ i. after c (alike i) (who i) (call i)) ∙ sym (after-bare c t b.entry.who b.entry.call) in
    let rest = same-lines c (after c s a.entry.who a.entry.call) (after c t b.entry.who b.entry.call) (past ++ a.entry ∷ []) (before ++ b.entry ∷ []) a.round a.round b.round timed other config next goes.2 too.2 falls.2 rises.2 more in
    record {
      alike = λ i. record { who = who i; call = call i; reply = reply i } ∷ rest.alike i;
      last = rest.last ∙ ap (λ (r : ℕ). last_of r other) round;
    }
