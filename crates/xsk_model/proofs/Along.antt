-- What each entry keeps holds after each history.
use Rattle.std.proofs.Common.{◌≡◌, List, [], ◌∷◌, ◌++◌, sym, subst, append_assoc, append-nil}
use Rattle.xsk_umem.specs.Frame.{Frame}
use Rattle.xsk_model.specs.Config.{Config, IsConfig}
use Rattle.xsk_model.specs.Object.{State, reply_at, after}
use Rattle.xsk_model.specs.Entry.{Entry, own}
use Rattle.xsk_model.specs.Legal.{IsLegal}
use Rattle.xsk_model.specs.Opening.{opening}
use Rattle.xsk_model.specs.History.{GoesOn, after_all, IsHistory, IsHistoryFrom, state_after}
use Rattle.xsk_model.proofs.Histories.{IsSoundFrom, step_from, opening_sound, start_sound}

-- what a legal entry with the object's reply keeps, of a sound state and the entries that left it
abbrev pub KeepsFrom : Config → State → (State → List Entry → Type 0) → Type 0
KeepsFrom c start P = (s : State) (past : List Entry) (e : Entry) → IsSoundFrom c start s past → IsLegal c (own e.who past) e.who e.call
    → e.reply ≡ reply_at c s e.call → P s past → P (after c s e.who e.call) (past ++ e ∷ [])

abbrev pub Keeps : Config → List Frame → (State → List Entry → Type 0) → Type 0
Keeps c frames P = KeepsFrom c (opening c frames) P

along_all : (P : State → List Entry → Type 0) (c : Config) (start s : State) (past h : List Entry) → IsConfig c → KeepsFrom c start P
    → IsSoundFrom c start s past → GoesOn c s past h → P s past → P (after_all c s h) (past ++ h)
along_all P c start s past [] config keeps sound goes holds = subst (P s) (sym (append-nil past)) holds
along_all P c start s past (e ∷ es) config keeps sound goes holds =
    subst (P (after_all c (after c s e.who e.call) es)) (append_assoc past (e ∷ []) es)
    (along_all P c start (after c s e.who e.call) (past ++ e ∷ []) es config keeps (step_from c start s past e config sound goes.0 goes.1) goes.2
    (keeps s past e sound goes.0 goes.1 holds))

pub along : (P : State → List Entry → Type 0) (c : Config) (frames : List Frame) (h : List Entry) → IsHistory c frames h → Keeps c frames P
    → P (opening c frames) [] → P (state_after c frames h) h
along P c frames h history keeps holds =
    along_all P c (opening c frames) (opening c frames) [] h history.opened.config keeps (opening_sound c frames history.opened) history.legal holds

pub along_from : (P : State → List Entry → Type 0) (c : Config) (start : State) (h : List Entry) → IsHistoryFrom c start h → KeepsFrom c start P
    → P start [] → P (after_all c start h) h
along_from P c start h history keeps holds =
    along_all P c start start [] h history.begins.config keeps (start_sound c start history.begins) history.legal holds
