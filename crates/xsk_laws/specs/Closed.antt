-- A socket that is closed while traffic flows: laws of every legal history, whatever object and whatever order of the workers made
-- it. How a socket is closed is this project's own.
use Rattle.std.specs.Prelude.{sum_by, ◌≡◌, ℕ, ◌+◌, ◌<◌, ◌==◌, if◌then◌else◌, false, Some, None, List, [], length, take}
use Rattle.xsk_umem.specs.Frame.{Frame}
use Rattle.xsk_umem.specs.PacketList.{PacketList}
use Rattle.xsk_model.specs.Config.{Config, IsRegular}
use Rattle.xsk_model.specs.Rings.{caller_of, producer}
use Rattle.xsk_model.specs.Marks.{apps_of}
use Rattle.xsk_model.specs.Numbers.{times, numbers}
use Rattle.xsk_model.specs.Homes.{home_pair}
use Rattle.xsk_model.specs.Object.{ring_at, taken}
use Rattle.xsk_model.specs.Entry.{Told, Entry, own}
use Rattle.xsk_model.specs.History.{IsHistory, state_after}
use Rattle.xsk_model.specs.Ends.{telling_of}
use Rattle.xsk_model.specs.Own.{submitted_of}
use Rattle.xsk_model.specs.Packets.{packets, whole_packets}
use Rattle.xsk_model.specs.Sent.{sent_by}
use Rattle.xsk_model.specs.Steering.{driver_on, socket_on}
use Rattle.xsk_prog.specs.declared.rule.Verdict.{Verdict}
use Rattle.xsk_model.specs.Swaps.{last_set}
use Rattle.xsk_model.specs.declared.call.Mark.TheVariants.{Closing, Acked}
use Rattle.xsk_model.specs.declared.call.Ring.TheVariants.{Fill, Rx, Tx}
use Rattle.xsk_model.specs.declared.call.Call.{Call}
use Rattle.xsk_model.specs.declared.call.Call.TheVariants.{Submit}
use Rattle.xsk_turns.specs.AppTurns.{IsWholeAppRunBy}
use Rattle.xsk_turns.specs.declared.manner.Manner.{Manner}
use Rattle.xsk_turns.specs.declared.wire.Wire.{Wire}
use Rattle.xsk_laws.specs.Forwarded.{forwarded}
use Rattle.xsk_laws.specs.Laws.{AreEndedRunsBy, IsPlace}

-- nothing is submitted on its RX ring behind the acknowledgement, and nothing on its TX ring behind the closing
abbrev pub NothingBehindClosing : Type 0
NothingBehindClosing = (c : Config) (frames : List Frame) (h : List Entry) (s who : ℕ) → IsHistory c frames h
    → ((telling_of (Acked s) (Rx s) (own who h)).late ≡ false) × ((telling_of (Closing s) (Tx s) (own who h)).late ≡ false)

-- a history in which the calls and replies of an application are a whole run
pub record HasWholeApp (m : Manner) (c : Config) (a : ℕ) (frames : List Frame) (h : List Entry) : Type 0 where
  pub regular : IsRegular c
  pub history : IsHistory c frames h
  pub known : a < apps_of c
  pub whole : IsWholeAppRunBy m c a (own (caller_of c a) h)

-- where it closed a socket, nothing stands in the socket's RX ring at the end, and nothing is held of it
abbrev pub ClosedIsEmpty : Type 0
ClosedIsEmpty = (m : Manner) (c : Config) (a s : ℕ) (frames : List Frame) (h : List Entry) → HasWholeApp m c a frames h → last_set (Closing s) (own (caller_of c a) h) ≡ Some 1
    → ((ring_at c (state_after c frames h) (Rx s)).out ≡ []) × ((ring_at c (state_after c frames h) (Rx s)).held ≡ [])

-- how many whole packets were submitted on a TX ring
abbrev pub passed_count : Config → List Entry → ℕ → ℕ
passed_count c h t = length (whole_packets (packets c.geometry c.sg (submitted_of (Tx t) (own (producer c (Tx t)) h))))

-- Whatever socket is closed, what a driver sent by the socket of a class is the first of what was delivered to the paired socket: as many
-- packets as the application passed on whole.
abbrev pub FirstAreSent : Type 0
FirstAreSent = (m : Manner) (wire : Wire) (c : Config) (lists : List PacketList) (verdicts : List (List Verdict)) (frames : List Frame) (h : List Entry) (port queue class : ℕ)
    → m.mangle ≡ None → AreEndedRunsBy 1 m wire c lists verdicts frames h → IsPlace c port queue class
    → sent_by c h (driver_on c port queue) (socket_on c port queue class)
    ≡ take (passed_count c h (socket_on c port queue class)) (forwarded wire c h lists verdicts port queue class)

-- how often a call submits a frame on a TX ring, and on its home FILL ring, that of the pair in whose pool it was at the opening
abbrev pub on_tx : ℕ → Call → ℕ
on_tx n (Submit (Tx t) items) = times n (numbers items)
on_tx n call = 0

abbrev pub on_home : Config → ℕ → Call → ℕ
on_home c n (Submit (Fill d) items) = if d == home_pair c n then times n (numbers items) else 0
on_home c n call = 0

-- how often calls and their replies take a frame, submit it on TX, and submit it on its home FILL ring
abbrev pub times_taken : ℕ → List Told → ℕ
times_taken n l = sum_by (λ (t : Told). times n (numbers (taken t.reply))) l

abbrev pub times_on_tx : ℕ → List Told → ℕ
times_on_tx n l = sum_by (λ (t : Told). on_tx n t.call) l

abbrev pub times_home : Config → ℕ → List Told → ℕ
times_home c n l = sum_by (λ (t : Told). on_home c n t.call) l

-- At its end an application has passed on each frame as often as it took it, on TX or home. So each that it took on a lane of the
-- socket that it closed, and didn't submit on TX, it submitted on its home FILL ring.
abbrev pub AllComeHome : Type 0
AllComeHome = (m : Manner) (c : Config) (a n : ℕ) (frames : List Frame) (h : List Entry) → HasWholeApp m c a frames h
    → times_taken n (own (caller_of c a) h) ≡ times_on_tx n (own (caller_of c a) h) + times_home c n (own (caller_of c a) h)
