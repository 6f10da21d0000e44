-- Lists that show what each driver sent in a history of whole runs, by the laws of these.
use Rattle.std.proofs.Common.{◌≡◌, ℕ, ◌<◌, None, List, [], length, sym, subst, ap, ◌∙◌, arith}
use Rattle.std.specs.List.{slice_index_or}
use Rattle.xsk_umem.specs.Frame.{Frame}
use Rattle.xsk_model.specs.Config.{IsRegular, callers_of, classes_of}
use Rattle.xsk_model.specs.Entry.{Entry, own}
use Rattle.xsk_model.specs.History.{IsHistory}
use Rattle.xsk_model.specs.Sent.{all_sent}
use Rattle.xsk_model.specs.Steering.{driver_on, socket_on}
use Rattle.xsk_model.proofs.Seats.{IsAt, is_at}
use Rattle.xsk_laws.specs.Expected.{bounced_on}
use Rattle.xsk_laws.specs.Laws.{AreEndedRunsBy}
use Rattle.xsk_laws.proofs.Joined.{input_is}
use Rattle.xsk_machine.specs.Acts.{sent_of}
use Rattle.xsk_turns.specs.Hands.{IsWholeRunOf}
use Rattle.xsk_turns.specs.SentWith.{bouncing}
use Rattle.xsk_turns.specs.Turns.{Judged}
use Rattle.xsk_turns.specs.Workers.{Setting}
use Rattle.xsk_turns.specs.declared.wire.Wire.TheVariants.{Wait}
use Rattle.xsk_ended.specs.Until.{AreForwardedUntil, AreExpectedUntil}
use Rattle.xsk_ended.proofs.Until.{ended_are_forwarded, ended_are_expected}
use Rattle.xsk_ended.proofs.Within.{ended_runs_by}

module _ (hands : ℕ) (s : Setting) (frames : List Frame) (h : List Entry) (sent : List (List (List ℕ))) (port queue : ℕ) (regular : IsRegular s.config) (legal : IsHistory s.config frames h)
    (whole : (who : ℕ) → who < callers_of s.config → IsWholeRunOf hands s who (own who h))
    (is : (pair : ℕ) → pair < length s.config.pairs → slice_index_or sent pair [] ≡ sent_of s h pair) (in_ports : port < s.config.ports) (in_queues : queue < s.config.queues) where
  are_ended : AreEndedRunsBy hands s.manner s.wire s.config s.packets s.verdicts frames h
  are_ended = ended_runs_by hands s frames h regular legal whole

  -- what is shown of the driver there
  shown : slice_index_or sent (driver_on s.config port queue) [] ≡ all_sent s.config (bounced_on s.config s.packets s.verdicts port queue) h (driver_on s.config port queue)
  shown =
      let d = driver_on s.config port queue in
      let some : 0 < classes_of s.config = let classes = regular.classes in omega (arith, classes) in
      let at : IsAt s.config port queue 0 d (socket_on s.config port queue 0) = is_at s.config port queue 0 legal.opened.config regular in_ports in_queues some in
      is d at.pair_known ∙ ap (λ (l : List Judged). all_sent s.config (bouncing l) h d) (input_is s.config s.packets s.verdicts port queue 0 d (socket_on s.config port queue 0) at)

  pub shown_forwarded : s.manner.mangle ≡ None → AreForwardedUntil s.wire s.config h s.packets s.verdicts port queue (slice_index_or sent (driver_on s.config port queue) [])
  shown_forwarded none =
      subst (AreForwardedUntil s.wire s.config h s.packets s.verdicts port queue) (sym shown)
      (ended_are_forwarded hands s.manner s.wire s.config s.packets s.verdicts frames h port queue none are_ended in_ports in_queues)

  pub shown_expected : s.manner.mangle ≡ None → s.wire ≡ Wait → AreExpectedUntil s.config h s.packets s.verdicts port queue (slice_index_or sent (driver_on s.config port queue) [])
  shown_expected none waits =
      subst (AreExpectedUntil s.config h s.packets s.verdicts port queue) (sym shown)
      (ended_are_expected hands s.manner s.wire s.config s.packets s.verdicts frames h port queue none waits are_ended in_ports in_queues)
