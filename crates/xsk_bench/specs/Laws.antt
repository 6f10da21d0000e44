-- Laws of histories with a bench. Each is the contract of a function of its own.
use Rattle.std.specs.Prelude.{◌≡◌, ℕ, ◌<◌, Bool, ◌||◌, false, List, length}
use Rattle.xsk_umem.specs.Frame.{Frame}
use Rattle.xsk_model.specs.Config.{Config}
use Rattle.xsk_model.specs.Entry.{Entry, own}
use Rattle.xsk_model.specs.Sent.{all_sent}
use Rattle.xsk_model.specs.declared.call.Act.{Act}
use Rattle.xsk_model.specs.declared.call.Act.TheVariants.{Call as Gave, Ended}
use Rattle.xsk_turns.specs.SentWith.{is_completing, is_bouncing, bouncing, sent_by_act}
use Rattle.xsk_turns.specs.Turns.{Judged}
use Rattle.xsk_turns.specs.Workers.{Setting, IsWorkerRun}
use Rattle.xsk_bench.specs.Played.{HasPlayed}
use Rattle.xsk_bench.specs.declared.play.Play.{Play}

-- each driver's own calls and replies are a run of its turns over its packets
abbrev pub DriversRun : Type 0
DriversRun = (s : Setting) (frames : List Frame) (h : List Entry) (p : Play) (who : ℕ) → HasPlayed s frames h p → who < length s.config.pairs → IsWorkerRun s who (own who h)

-- an act that sends a packet as it is given: it gives back the frames of one, or counts one as bounced
abbrev pub sends_one : Act → Bool
sends_one (Gave call) = is_completing call || is_bouncing call
sends_one Ended = false

-- where a driver's next act isn't one, what it sent with this act counted as made is what it sent in the history
abbrev pub SentSoFar : Type 0
SentSoFar = (c : Config) (input : List Judged) (h : List Entry) (pair : ℕ) (act : Act) → sends_one act ≡ false
    → sent_by_act c pair input (own pair h) act ≡ all_sent c (bouncing input) h pair
