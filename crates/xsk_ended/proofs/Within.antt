-- No driver sends more than what is to bounce of what its port received on its queue, and what the paired port received there, whether
-- or not a socket is closed.
use Rattle.std.proofs.Common.{◌≡◌, ℕ, ◌+◌, ◌*◌, ◌/◌, ◌<◌, List, [], length, length-append, refl, sym, ap, subst, ◌∙◌, arith}
use Rattle.std.specs.List.{concat, slice_index_or}
use Rattle.std.proofs.lemmas.List.Folds.{concat-append}
use Rattle.std.proofs.lemmas.Nat.{div-add-mod', div_below, mod_below}
use Rattle.xsk_umem.specs.Frame.{Frame}
use Rattle.xsk_model.specs.Config.{IsRegular, callers_of, pair_at}
use Rattle.xsk_model.specs.Rings.{caller_of}
use Rattle.xsk_model.specs.Entry.{Entry, own}
use Rattle.xsk_model.specs.History.{IsHistory}
use Rattle.xsk_model.specs.Sent.{all_sent}
use Rattle.xsk_model.specs.Steering.{paired_port, driver_on}
use Rattle.xsk_laws.specs.Expected.{received}
use Rattle.xsk_laws.specs.Laws.{AreEndedRunsBy}
use Rattle.xsk_turns.specs.Hands.{IsWholeRunOf}
use Rattle.xsk_turns.specs.SentWith.{bouncing}
use Rattle.xsk_turns.specs.Verdicts.{judged}
use Rattle.xsk_turns.specs.Workers.{Setting, IsWholeRun}
use Rattle.xsk_machine.proofs.Acts.{IsWithin}
use Rattle.xsk_machine.proofs.Within.{AreWithin, each_within, by_one}
use Rattle.xsk_ended.proofs.Ended.{ended_leaves_within}

-- by any number of hands
module _ (hands : ℕ) (s : Setting) (frames : List Frame) (h : List Entry) (regular : IsRegular s.config) (legal : IsHistory s.config frames h)
    (whole : (who : ℕ) → who < callers_of s.config → IsWholeRunOf hands s who (own who h)) where
  pub ended_runs_by : AreEndedRunsBy hands s.manner s.wire s.config s.packets s.verdicts frames h
  ended_runs_by = record {
    regular = regular;
    history = legal;
    drivers = λ d below. (whole d (omega (arith, below))).driver below;
    apps = λ a below. (whole (caller_of s.config a) (omega (arith, below))).app a refl;
  }

  pub are_within_by : AreWithin s h
  are_within_by =
      each_within s frames h regular legal
      (λ p q port queue. ended_leaves_within hands s.manner s.wire s.config s.packets s.verdicts frames h p q ended_runs_by port queue)

-- and by one
module _ (s : Setting) (frames : List Frame) (h : List Entry) (regular : IsRegular s.config) (legal : IsHistory s.config frames h)
    (whole : (who : ℕ) → who < callers_of s.config → IsWholeRun s who (own who h)) where
  pub ended_runs : AreEndedRunsBy 1 s.manner s.wire s.config s.packets s.verdicts frames h
  ended_runs = ended_runs_by 1 s frames h regular legal (λ who below. by_one s who (own who h) (whole who below))

  pub are_within : AreWithin s h
  are_within = are_within_by 1 s frames h regular legal (λ who below. by_one s who (own who h) (whole who below))
