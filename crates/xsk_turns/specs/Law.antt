-- What holds of every run of a driver, and what of every whole one, by its turns and by what every history gives: that the
-- replies fit.
use Rattle.std.specs.Prelude.{◌≡◌, ℕ, ◌<◌, ◌≤◌, All, Bool, true, false, List, [], ◌∷◌, length, map, flat_map, None}
use Rattle.xsk_umem.specs.Geometry.{Geometry}
use Rattle.xsk_umem.specs.declared.batch.Item.{Item}
use Rattle.xsk_model.specs.Config.{Config, classes_of}
use Rattle.xsk_model.specs.Packets.{IsLayout, packets, whole_packets}
use Rattle.xsk_model.specs.History.{OwnGoesOn}
use Rattle.xsk_model.specs.Entry.{Told}
use Rattle.xsk_model.specs.Own.{submitted_of, peeked_of, tx_work_of}
use Rattle.xsk_model.specs.Ends.{draining_of, telling_of}
use Rattle.xsk_model.specs.Steering.{packet_limit}
use Rattle.xsk_model.specs.declared.call.Ring.TheVariants.{Rx, Tx}
use Rattle.xsk_model.specs.declared.call.Mark.TheVariants.{RxDone, TxDone}
use Rattle.xsk_turns.specs.Owned.{IsSeat, AllFit, socket_at_class}
use Rattle.xsk_turns.specs.Turns.{Judged, seat_of, application_of, IsDriverRun, IsWholeDriverRun}
use Rattle.xsk_turns.specs.Disposals.{attempts_of, disposals_of, with_disposal, disposal_in, delivered_to, bytes_in}
use Rattle.xsk_turns.specs.declared.wire.Wire.{Wire}
use Rattle.xsk_turns.specs.declared.wire.Wire.TheVariants.{Wait}

-- ---- what is received

-- in a whole run the input's packets have their disposals by the attempts: one for each, in order
abbrev pub EachDisposedOnce : Type 0
EachDisposedOnce = (wire : Wire) (c : Config) (d : ℕ) (input : List Judged) (l : List Told) → IsWholeDriverRun wire c d input l
    → length (disposals_of (seat_of wire c d) input (attempts_of l)) ≡ length input

-- where the wire waits and no socket is closed they are those that the configuration and the verdicts say
abbrev pub DisposedAsSaid : Type 0
DisposedAsSaid = (wire : Wire) (c : Config) (d : ℕ) (input : List Judged) (l : List Told) → wire ≡ Wait → c.closing ≡ None → AllFit c [] l → IsWholeDriverRun wire c d input l
    → disposals_of (seat_of wire c d) input (attempts_of l) ≡ map (disposal_in (seat_of wire c d)) input

-- items are layouts of packets, one after the other
abbrev pub AreLayouts : Geometry → Bool → List (List ℕ) → List (List Item) → Type 0
AreLayouts g sg [] [] = Unit {0}
AreLayouts g sg [] (layout ∷ layouts) = ⊥
AreLayouts g sg (packet ∷ packets) [] = ⊥
AreLayouts g sg (packet ∷ packets) (layout ∷ layouts) = IsLayout g sg packet layout × AreLayouts g sg packets layouts

abbrev pub IsLaidOut : Geometry → Bool → List (List ℕ) → List Item → Type 0
IsLaidOut g sg packets items = (layouts : List (List Item)) × (items ≡ flat_map (λ (layout : List Item). layout) layouts) × AreLayouts g sg packets layouts

-- in a whole run the items that were submitted on a socket's RX ring are the layouts of the packets that the attempts
-- delivered to it, in order
abbrev pub DeliversInOrder : Type 0
DeliversInOrder = (wire : Wire) (c : Config) (d s : ℕ) (input : List Judged) (l : List Told) → IsSeat c d → AllFit c [] l → IsWholeDriverRun wire c d input l
    → IsLaidOut c.geometry c.sg (with_disposal s input (disposals_of (seat_of wire c d) input (attempts_of l))) (submitted_of (Rx s) l)

-- a packet of 14 bytes up to the limit
pub record IsSized (c : Config) (packet : List ℕ) : Type 0 where
  pub long : 14 ≤ length packet
  pub few : length packet ≤ packet_limit c

-- each packet that the attempts delivered has such a length
abbrev pub DeliversSized : Type 0
DeliversSized = (wire : Wire) (c : Config) (d s : ℕ) (input : List Judged) (l : List Told) → IsSeat c d → AllFit c [] l → IsWholeDriverRun wire c d input l
    → All (IsSized c) (with_disposal s input (disposals_of (seat_of wire c d) input (attempts_of l)))

-- where the wire waits and no socket is closed these are the packets that are to be delivered to it by the configuration and the verdicts
abbrev pub DeliversAsSaid : Type 0
DeliversAsSaid = (wire : Wire) (c : Config) (d s : ℕ) (input : List Judged) (l : List Told) → wire ≡ Wait → c.closing ≡ None → IsSeat c d → AllFit c [] l → IsWholeDriverRun wire c d input l
    → IsLaidOut c.geometry c.sg (bytes_in (delivered_to (seat_of wire c d) s input)) (submitted_of (Rx s) l)

-- nothing is submitted on RX behind the Swap that tells that no further packet comes
abbrev pub NothingReceivedLate : Type 0
NothingReceivedLate = (wire : Wire) (c : Config) (d s : ℕ) (input : List Judged) (l : List Told) → IsDriverRun wire c d input l → (telling_of (RxDone d) (Rx s) l).late ≡ false

-- in a whole run the driver told so
abbrev pub TellsRxDone : Type 0
TellsRxDone = (wire : Wire) (c : Config) (d s : ℕ) (input : List Judged) (l : List Told) → IsWholeDriverRun wire c d input l → (telling_of (RxDone d) (Rx s) l).told ≡ true

-- ---- what is sent

-- in a whole run each TX ring was found empty at the end, after the application had told that it sends no more
abbrev pub DrainsTx : Type 0
DrainsTx = (wire : Wire) (c : Config) (d class : ℕ) (input : List Judged) (l : List Told) → IsWholeDriverRun wire c d input l → class < classes_of c
    → (draining_of (TxDone (application_of (seat_of wire c d)) ∷ []) (Tx (socket_at_class c d class)) l).empty ≡ true

-- in a whole run all packets that were peeked on a TX ring whole are completed
abbrev pub CompletesAll : Type 0
CompletesAll = (wire : Wire) (c : Config) (d class : ℕ) (input : List Judged) (l : List Told) → IsSeat c d → OwnGoesOn c d [] l → IsWholeDriverRun wire c d input l
    → class < classes_of c
    → (tx_work_of c (socket_at_class c d class) l).completed
    ≡ length (whole_packets (packets c.geometry c.sg (peeked_of (Tx (socket_at_class c d class)) l)))
