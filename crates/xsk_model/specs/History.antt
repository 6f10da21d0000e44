-- Histories: calls of all callers in one order, each legal for its caller after that caller's own earlier ones, and each
-- with the object's reply at that place.
use Rattle.std.specs.Prelude.{◌≡◌, ℕ, ◌+◌, ◌<◌, ◌≤◌, List, [], ◌∷◌, ◌++◌, length, All}
use Rattle.xsk_umem.specs.Frame.{Frame}
use Rattle.xsk_umem.specs.declared.batch.Item.{Item}
use Rattle.xsk_model.specs.Config.{Config}
use Rattle.xsk_model.specs.Numbers.{times, numbers}
use Rattle.xsk_model.specs.Marks.{IsMarkNumber}
use Rattle.xsk_model.specs.Object.{State, reply_at, after}
use Rattle.xsk_model.specs.Entry.{Told, Entry, own}
use Rattle.xsk_model.specs.Own.{had_of}
use Rattle.xsk_model.specs.Legal.{IsLegal, IsItemOn}
use Rattle.xsk_model.specs.Opening.{IsOpened, opening}
use Rattle.xsk_model.specs.Starts.{IsStart}
use Rattle.xsk_model.specs.declared.call.Ring.{Ring}
use Rattle.xsk_model.specs.declared.call.Call.{Call}
use Rattle.xsk_model.specs.declared.call.Call.TheVariants.{Reserve, Submit, Peek, Release, Swap, Look}
use Rattle.xsk_model.specs.declared.call.Reply.{Reply}
use Rattle.xsk_model.specs.declared.call.Reply.TheVariants.{Granted, Full, Submitted, Items, Empty, Released, Old}

-- the entries go on from a state that past entries left
abbrev pub GoesOn : Config → State → List Entry → List Entry → Type 0
GoesOn c s past [] = Unit {0}
GoesOn c s past (e ∷ es) = IsLegal c (own e.who past) e.who e.call × (e.reply ≡ reply_at c s e.call) × GoesOn c (after c s e.who e.call) (past ++ e ∷ []) es

-- the state that entries leave
abbrev pub after_all : Config → State → List Entry → State
after_all c s [] = s
after_all c s (e ∷ es) = after_all c (after c s e.who e.call) es

-- a history of the configuration from its opening, with these frames handed in
pub record IsHistory (c : Config) (frames : List Frame) (h : List Entry) : Type 0 where
  pub opened : IsOpened c frames
  pub legal : GoesOn c (opening c frames) [] h

-- the state that a history leaves
abbrev pub state_after : Config → List Frame → List Entry → State
state_after c frames h = after_all c (opening c frames) h

-- a history of the configuration from any start; it leaves what `after_all` says
pub record IsHistoryFrom (c : Config) (start : State) (h : List Entry) : Type 0 where
  pub begins : IsStart c start
  pub legal : GoesOn c start [] h

-- A reply that the object may give to a caller's call: in some history, with some bodies handed in, the caller's own
-- entries are those that it made so far and then this call with this reply.
pub record MayGive (c : Config) (mine : List Told) (who : ℕ) (call : Call) (reply : Reply) : Type 0 where
  pub frames : List Frame
  pub history : List Entry
  pub legal : IsHistory c frames history
  pub entries : own who history ≡ mine ++ (record { call = call; reply = reply }) ∷ []

-- the items that a Peek gives: 1 to as many as it asked for, each one that may stand in the ring, with frames that are
-- distinct and that the caller hasn't
pub record AreFresh (c : Config) (mine : List Told) (r : Ring) (n : ℕ) (items : List Item) : Type 0 where
  pub some : 1 ≤ length items
  pub few : length items ≤ n
  pub lawful : All (IsItemOn c.geometry r) items
  pub fresh : (k : ℕ) → times k (numbers items) + times k (had_of mine) ≤ 1

-- a reply that fits a call
abbrev pub Fits : Config → List Told → Call → Reply → Type 0
Fits c mine (Reserve r n) Granted = Unit {0}
Fits c mine (Reserve r n) (Full places) = places < n
Fits c mine (Submit r items) Submitted = Unit {0}
Fits c mine (Peek r n) Empty = Unit {0}
Fits c mine (Peek r n) (Items items) = AreFresh c mine r n items
Fits c mine (Release r n) Released = Unit {0}
Fits c mine (Swap m value) (Old old) = IsMarkNumber c m old
Fits c mine (Look m) (Old old) = IsMarkNumber c m old
Fits c mine call reply = ⊥

-- A caller's own calls and replies that go on from earlier ones: each call legal after those before it, each reply one
-- that fits. This is all that a caller knows of a history.
abbrev pub OwnGoesOn : Config → ℕ → List Told → List Told → Type 0
OwnGoesOn c who past [] = Unit {0}
OwnGoesOn c who past (t ∷ mine) = IsLegal c past who t.call × Fits c past t.call t.reply × OwnGoesOn c who (past ++ t ∷ []) mine
