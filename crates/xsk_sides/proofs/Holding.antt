-- What a party's own calls tell of the frames that its callers have: the program has them, and the kernel has them from the rings from
-- which its drivers got them.
use Rattle.std.proofs.Common.{◌≡◌, ℕ, ◌+◌, ◌<◌, ◌≤◌, Bool, true, false, cond, nat_le, nat_lt, None, is_some, List, [], ◌∷◌, ◌++◌, refl, sym, ap, ◌∙◌, arith, ⊎_elim, inl, inr, lt-ltb, le-ltb}
use Rattle.std.proofs.lemmas.Bool.{cases_lt}
use Rattle.xsk_umem.specs.declared.batch.Item.{Item}
use Rattle.xsk_model.specs.Config.{Config, size_of}
use Rattle.xsk_model.specs.Numbers.{times, numbers}
use Rattle.xsk_model.specs.Object.{State, ring_at, free, submitted, taken, peek_reply, reply_at, call_ring}
use Rattle.xsk_model.specs.Entry.{Told}
use Rattle.xsk_model.specs.Own.{had_of}
use Rattle.xsk_model.specs.Legal.{IsLegal}
use Rattle.xsk_model.specs.History.{Fits}
use Rattle.xsk_model.specs.declared.call.Call.{Call}
use Rattle.xsk_model.specs.declared.call.Call.TheVariants.{Reserve, Submit, Peek, Release, Swap, Look}
use Rattle.xsk_model.specs.declared.call.Reply.{Reply}
use Rattle.xsk_model.specs.declared.call.Reply.TheVariants.{Granted, Full}
use Rattle.xsk_model.proofs.OwnRuns.{fits_taken}
use Rattle.xsk_model.proofs.Completions.{times-had_of-push}
use Rattle.xsk_side.specs.Entries.{times as times_of}
use Rattle.xsk_side.specs.Own.{has, has_frame, source_of}
use Rattle.xsk_side.specs.declared.call.Party.{Party}
use Rattle.xsk_side.specs.declared.call.Party.TheVariants.{Program, Kernel}
use Rattle.xsk_side.specs.declared.call.Call.{Call as SideCall}
use Rattle.xsk_sides.specs.Sides.{entries, setting_of, side_call}
use Rattle.xsk_sides.proofs.Items.{same_times}
use Rattle.xsk_sides.proofs.Parties.{behind}
use Rattle.xsk_sides.proofs.Sources.{got_on, got_new, got_old}

-- of a frame that the caller has
abbrev pub Holds : Config → Party → List SideCall → List Told → ℕ → Type 0
Holds c Program calls mine f = has_frame (setting_of c) f calls ≡ true
Holds c Kernel calls mine f = (source_of (setting_of c) calls f ≡ got_on f mine) × (is_some (source_of (setting_of c) calls f) ≡ true)

pub holds_has : (c : Config) (p : Party) (calls : List SideCall) (mine : List Told) (f : ℕ) → Holds c p calls mine f → has (setting_of c) p calls f ≡ true
holds_has c Program calls mine f h = h
holds_has c Kernel calls mine f h = h.1

-- ---- what a call makes of a frame

-- how often its entries name it
abbrev pub given : Config → ℕ → Call → ℕ
given c f call = times_of (setting_of c) f (entries (submitted call))

abbrev pub got : Config → ℕ → Reply → ℕ
got c f reply = times_of (setting_of c) f (entries (taken reply))

abbrev moved : {X : Type 0} → ℕ → ℕ → X → X → X → X
moved m n gone come stayed = cond (nat_lt 0 m) gone (cond (nat_lt 0 n) come stayed)

moved_in : {X : Type 0} (m n : ℕ) (x y z : X) → m ≤ 0 → 0 < n → moved m n x y z ≡ y
moved_in m n x y z none some = ap (λ b. cond b x (cond (nat_lt 0 n) y z)) (le-ltb 0 m none) ∙ ap (λ b. cond b y z) (lt-ltb 0 n some)

moved_not : {X : Type 0} (m n : ℕ) (x y z : X) → m ≤ 0 → n ≤ 0 → moved m n x y z ≡ z
moved_not m n x y z none few = ap (λ b. cond b x (cond (nat_lt 0 n) y z)) (le-ltb 0 m none) ∙ ap (λ b. cond b y z) (le-ltb 0 n few)

abbrev Programs : Config → ℕ → List SideCall → Call → Reply → Type 0
Programs c f calls call reply =
    has_frame (setting_of c) f (behind (side_call call reply) calls) ≡ moved (given c f call) (got c f reply) false true (has_frame (setting_of c) f calls)

programs : (c : Config) (s : State) (f : ℕ) (calls : List SideCall) (call : Call) → Programs c f calls call (reply_at c s call)
programs c s f calls (Reserve r n) = by (nat_le n (free (size_of c r) (ring_at c s r)))
  where
    by : (b : Bool) → Programs c f calls (Reserve r n) (cond b Granted (Full (free (size_of c r) (ring_at c s r))))
    by true = refl
    by false = refl
programs c s f calls (Submit r items) = refl
programs c s f calls (Peek r n) = by (ring_at c s r).out
  where
    by : (out : List Item) → Programs c f calls (Peek r n) (peek_reply n out)
    by [] = refl
    by (item ∷ out) = refl
programs c s f calls (Release r n) = refl
programs c s f calls (Swap m value) = refl
programs c s f calls (Look m) = refl

abbrev Kernels : Config → ℕ → List SideCall → Call → Reply → Type 0
Kernels c f calls call reply =
    source_of (setting_of c) (behind (side_call call reply) calls) f ≡ moved (given c f call) (got c f reply) None (call_ring call) (source_of (setting_of c) calls f)

kernels : (c : Config) (s : State) (f : ℕ) (calls : List SideCall) (call : Call) → Kernels c f calls call (reply_at c s call)
kernels c s f calls (Reserve r n) = by (nat_le n (free (size_of c r) (ring_at c s r)))
  where
    by : (b : Bool) → Kernels c f calls (Reserve r n) (cond b Granted (Full (free (size_of c r) (ring_at c s r))))
    by true = refl
    by false = refl
kernels c s f calls (Submit r items) = refl
kernels c s f calls (Peek r n) = by (ring_at c s r).out
  where
    by : (out : List Item) → Kernels c f calls (Peek r n) (peek_reply n out)
    by [] = refl
    by (item ∷ out) = refl
kernels c s f calls (Release r n) = refl
kernels c s f calls (Swap m value) = refl
kernels c s f calls (Look m) = refl

-- they name the frames of the items
pub same_given : (c : Config) (mine : List Told) (who f : ℕ) (call : Call) → IsLegal c mine who call
    → times_of (setting_of c) f (entries (submitted call)) ≡ times f (numbers (submitted call))
same_given c mine who f (Reserve r n) legal = refl
same_given c mine who f (Submit r items) legal = same_times c r f items legal.items
same_given c mine who f (Peek r n) legal = refl
same_given c mine who f (Release r n) legal = refl
same_given c mine who f (Swap m value) legal = refl
same_given c mine who f (Look m) legal = refl

pub same_got : (c : Config) (mine : List Told) (f : ℕ) (call : Call) (reply : Reply) → Fits c mine call reply → got c f reply ≡ times f (numbers (taken reply))
same_got c mine f call reply fits = elim (fits_taken c mine call reply fits) [
  | inl none ↦ ap (λ items. times_of (setting_of c) f (entries items)) none ∙ sym (ap (λ items. times f (numbers items)) none)
  | inr peeked ↦ same_times c peeked.0 f (taken reply) peeked.3.lawful
]

-- only a Peek brings frames, and none that the caller has
pub got_few : (c : Config) (mine : List Told) (f : ℕ) (call : Call) (reply : Reply) → Fits c mine call reply → times f (had_of mine) ≤ 1
    → times f (numbers (taken reply)) + times f (had_of mine) ≤ 1
got_few c mine f call reply fits once = elim (fits_taken c mine call reply fits) [
  | inl none ↦ omega (arith, once, ap (λ items. times f (numbers items)) none)
  | inr peeked ↦ peeked.3.fresh f
]

got_ring : (c : Config) (mine : List Told) (f : ℕ) (call : Call) (reply : Reply) → Fits c mine call reply → 0 < times f (numbers (taken reply)) → is_some (call_ring call) ≡ true
got_ring c mine f call reply fits some = elim (fits_taken c mine call reply fits) [
  | inl none ↦ absurd (omega (arith, some, ap (λ items. times f (numbers items)) none))
  | inr peeked ↦ ap (λ (x : Call). is_some (call_ring x)) peeked.2
]

-- ---- one call

module _ (c : Config) (s : State) (f who : ℕ) (call : Call) where
  -- a frame that doesn't move
  pub holds_old : (p : Party) (calls : List SideCall) (mine after : List Told) → given c f call ≤ 0 → got c f (reply_at c s call) ≤ 0
      → got_on f after ≡ got_on f mine
      → Holds c p calls mine f → Holds c p (behind (side_call call (reply_at c s call)) calls) after f
  holds_old Program calls mine after none old is h =
      programs c s f calls call ∙ moved_not (given c f call) (got c f (reply_at c s call)) false true (has_frame (setting_of c) f calls) none old ∙ h
  holds_old Kernel calls mine after none old is h =
      let from = kernels c s f calls call ∙ moved_not (given c f call) (got c f (reply_at c s call)) None (call_ring call) (source_of (setting_of c) calls f) none old in
      (from ∙ h.0 ∙ sym is, ap is_some from ∙ h.1)

  -- those of its caller
  pub holds_here : (p : Party) (calls : List SideCall) (mine : List Told) → IsLegal c mine who call → Fits c mine call (reply_at c s call) → times f (had_of mine) ≤ 1
      → (1 ≤ times f (had_of mine) → Holds c p calls mine f)
      → 1 ≤ times f (had_of (mine ++ (record { call = call; reply = reply_at c s call }) ∷ []))
      → Holds c p (behind (side_call call (reply_at c s call)) calls) (mine ++ (record { call = call; reply = reply_at c s call }) ∷ []) f
  holds_here p calls mine legal fits once h some =
      let reply : Reply = reply_at c s call in
      let t : Told = record { call = call; reply = reply } in
      let out : given c f call ≡ times f (numbers (submitted call)) = same_given c mine who f call legal in
      let into : got c f reply ≡ times f (numbers (taken reply)) = same_got c mine f call reply fits in
      let push = times-had_of-push f mine t in
      let none : given c f call ≤ 0 = omega (arith, out, push, some, legal.frames f, got_few c mine f call reply fits once) in
      ⊎_elim
      (λ (new : 0 < times f (numbers (taken reply))). holds_new p none (omega (arith, into, new)) (got_ring c mine f call reply fits new) (got_new f mine t new))
      (λ (old : times f (numbers (taken reply)) ≤ 0).
      holds_old p calls mine (mine ++ t ∷ []) none (omega (arith, into, old)) (got_old f mine t old) (h (omega (arith, out, push, some, old, none))))
      (cases_lt 0 (times f (numbers (taken reply))))
    where
      holds_new : (q : Party) → given c f call ≤ 0 → 0 < got c f (reply_at c s call) → is_some (call_ring call) ≡ true
          → got_on f (mine ++ (record { call = call; reply = reply_at c s call }) ∷ []) ≡ call_ring call
          → Holds c q (behind (side_call call (reply_at c s call)) calls) (mine ++ (record { call = call; reply = reply_at c s call }) ∷ []) f
      holds_new Program none new ring is =
          programs c s f calls call ∙ moved_in (given c f call) (got c f (reply_at c s call)) false true (has_frame (setting_of c) f calls) none new
      holds_new Kernel none new ring is =
          let from = kernels c s f calls call ∙ moved_in (given c f call) (got c f (reply_at c s call)) None (call_ring call) (source_of (setting_of c) calls f) none new in
          (from ∙ sym is, ap is_some from ∙ ring)
