-- What a call on the table tells its caller: the call and its reply at the end of a legal history, and of that what stands
-- in the ring, and at the mark, at this point.
use Rattle.std.specs.Prelude.{◌≡◌, ◌↔◌, ℕ, ◌-◌, ◌<◌, true, if◌then◌else◌, List, [], ◌∷◌, ◌++◌, length}
use Rattle.xsk_umem.specs.declared.batch.Item.{Item}
use Rattle.xsk_model.specs.Config.{size_of}
use Rattle.xsk_model.specs.Rings.{producer}
use Rattle.xsk_model.specs.Object.{State, ring_at, mark_at, free, taken}
use Rattle.xsk_model.specs.Entry.{Entry, own, with_told}
use Rattle.xsk_model.specs.Own.{peeked_of, submitted_of}
use Rattle.xsk_model.specs.Opening.{opening}
use Rattle.xsk_model.specs.History.{state_after, MayGive}
use Rattle.xsk_model.specs.Legal.{IsLegal}
use Rattle.xsk_model.specs.declared.call.Ring.{Ring}
use Rattle.xsk_model.specs.declared.call.Call.{Call}
use Rattle.xsk_model.specs.declared.call.Call.TheVariants.{Reserve, Submit, Peek, Release, Swap, Look}
use Rattle.xsk_model.specs.declared.call.Reply.{Reply}
use Rattle.xsk_model.specs.declared.call.Reply.TheVariants.{Granted, Full, Empty, Old}
use Rattle.xsk_table.specs.View.{idle, View}
use Rattle.xsk_table.specs.Plays.{Extends}
use Rattle.xsk_table.specs.Known.{free_after, out_after}
use Rattle.xsk_table.specs.Held.{Board, Holder, Belongs, known_on, with_known, is_covered}

-- ---- before a call

-- a pass of this table that has no call in flight, whose caller may make the call after its own earlier ones
pub record MayAsk (b : Board) (p : Holder) (call : Call) : Type 0 where
  pub belongs : Belongs b p
  pub rests : p.view.flight ≡ idle
  pub legal : IsLegal p.view.setup.config (own p.who p.view.seen) p.who call

-- ---- after a call

-- it is the same caller of the same table, again with no call in flight, and what it has seen ends with the call
pub record Served (p q : Holder) (call : Call) (reply : Reply) : Type 0 where
  pub table : q.table ≡ p.table
  pub who : q.who ≡ p.who
  pub rests : q.view.flight ≡ idle
  pub history : Extends p.view.setup p.who call reply p.view q.view

-- a history without its last entry
abbrev pub before_last : List Entry → List Entry
before_last [] = []
before_last (e ∷ []) = []
before_last (e ∷ f ∷ es) = e ∷ before_last (f ∷ es)

-- the object at the point where the last call of a view's history was made
abbrev pub point_of : View → State
point_of v = state_after v.setup.config v.setup.frames (before_last v.seen)

-- a Reserve is Full exactly where fewer places than it asks for are free at its point, and tells how many they are
abbrev pub TellsFree : View → Call → Reply → Type 0
TellsFree v (Reserve r n) reply = (places : ℕ) → (reply ≡ Full places) ↔ ((places ≡ free (size_of v.setup.config r) (ring_at v.setup.config (point_of v) r)) × (places < n))
TellsFree v (Submit r items) reply = Unit {0}
TellsFree v (Peek r n) reply = Unit {0}
TellsFree v (Release r n) reply = Unit {0}
TellsFree v (Swap m value) reply = Unit {0}
TellsFree v (Look m) reply = Unit {0}

-- a Peek is Empty exactly where no item is out at its point
abbrev pub TellsEmpty : View → Call → Reply → Type 0
TellsEmpty v (Reserve r n) reply = Unit {0}
TellsEmpty v (Submit r items) reply = Unit {0}
TellsEmpty v (Peek r n) reply = (reply ≡ Empty) ↔ ((ring_at v.setup.config (point_of v) r).out ≡ [])
TellsEmpty v (Release r n) reply = Unit {0}
TellsEmpty v (Swap m value) reply = Unit {0}
TellsEmpty v (Look m) reply = Unit {0}

-- a Swap and a Look tell what the mark is at their point
abbrev pub TellsMark : View → Call → Reply → Type 0
TellsMark v (Reserve r n) reply = Unit {0}
TellsMark v (Submit r items) reply = Unit {0}
TellsMark v (Peek r n) reply = Unit {0}
TellsMark v (Release r n) reply = Unit {0}
TellsMark v (Swap m value) reply = reply ≡ Old (mark_at v.setup.config (point_of v) m)
TellsMark v (Look m) reply = reply ≡ Old (mark_at v.setup.config (point_of v) m)

-- all items that came into a ring, whole: those of the opening, and those that its producer submitted
abbrev pub brought : View → Ring → List Item
brought v r = (ring_at v.setup.config (opening v.setup.config v.setup.frames) r).out ++ submitted_of r (own (producer v.setup.config r) v.seen)

-- a Peek gives the items that follow those peeked before, as they were submitted: descriptors, frames and all their
-- bytes; behind them are those that are out afterwards
abbrev pub GivesSubmitted : Holder → View → Call → Reply → Type 0
GivesSubmitted p v (Reserve r n) reply = Unit {0}
GivesSubmitted p v (Submit r items) reply = Unit {0}
GivesSubmitted p v (Peek r n) reply =
    brought v r ≡ (peeked_of r (own p.who p.view.seen) ++ taken reply) ++ (ring_at v.setup.config (state_after v.setup.config v.setup.frames v.seen) r).out
GivesSubmitted p v (Release r n) reply = Unit {0}
GivesSubmitted p v (Swap m value) reply = Unit {0}
GivesSubmitted p v (Look m) reply = Unit {0}

-- ---- what is known, and looks at the other side

-- What is known of the rings after a call: where it is covered, a Reserve lowers it by its places and a Peek by its items;
-- else their look finds out what is left free, or out. No other call changes it.
abbrev pub known_after : Holder → View → Call → List ℕ
known_after p v (Reserve r n) = with_known p r (if is_covered p (Reserve r n) then known_on p r - n else free_after p.view.setup v.seen r)
known_after p v (Submit r items) = p.known
known_after p v (Peek r n) = with_known p r (if is_covered p (Peek r n) then known_on p r - n else out_after p.view.setup v.seen r)
known_after p v (Release r n) = p.known
known_after p v (Swap m value) = p.known
known_after p v (Look m) = p.known

-- a call that is covered gets all that it asks for, so Full and Empty come from a look of the call alone
abbrev pub GetsCovered : Holder → Call → Reply → Type 0
GetsCovered p (Reserve r n) reply = is_covered p (Reserve r n) ≡ true → reply ≡ Granted
GetsCovered p (Submit r items) reply = Unit {0}
GetsCovered p (Peek r n) reply = is_covered p (Peek r n) ≡ true → length (taken reply) ≡ n
GetsCovered p (Release r n) reply = Unit {0}
GetsCovered p (Swap m value) reply = Unit {0}
GetsCovered p (Look m) reply = Unit {0}

-- the looks at the other side's count that a call takes
abbrev pub looks_of : Holder → Call → ℕ
looks_of p (Reserve r n) = if is_covered p (Reserve r n) then 0 else 1
looks_of p (Submit r items) = 0
looks_of p (Peek r n) = if is_covered p (Peek r n) then 0 else 1
looks_of p (Release r n) = 0
looks_of p (Swap m value) = 0
looks_of p (Look m) = 0

-- ---- all that a call tells

pub record Tells (p q : Holder) (call : Call) (reply : Reply) : Type 0 where
  pub served : Served p q call reply
  pub free : TellsFree q.view call reply
  pub empty : TellsEmpty q.view call reply
  pub mark : TellsMark q.view call reply
  pub submitted : GivesSubmitted p q.view call reply
  pub covered : GetsCovered p call reply
  pub known : q.known ≡ known_after p q.view call

-- ---- a law

-- the reply of a call is one that the object may give to the caller, which has then made this call and no other
abbrev pub MayGiveServed : Type 0
MayGiveServed = (p q : Holder) (call : Call) (reply : Reply) → Served p q call reply
    → MayGive p.view.setup.config (own p.who p.view.seen) p.who call reply × (own q.who q.view.seen ≡ with_told (own p.who p.view.seen) call reply)
