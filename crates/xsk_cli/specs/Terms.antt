-- What a run comes to by the terms that its work lends.
use Rattle.std.specs.Prelude.{◌≡◌, ℕ, Option, List}
use Rattle.xsk_turns.specs.Workers.{Setting}
use Rattle.xsk_workers.specs.Forwarded.{OutcomeShown, HasForwarded}
use Rattle.xsk_cli.specs.Forward.{unmangled}
use Rattle.xsk_cli.specs.Outcome.{AreTextsIn, AreTextsOf, Written, frames_of, report_of, setting_of}
use Rattle.xsk_cli.specs.Steps.{FailsRunning}
use Rattle.xsk_cli.specs.declared.failure.RunFailure.{RunFailure}
use Rattle.xsk_cli.specs.declared.terms.Terms.{Terms}
use Rattle.xsk_cli.specs.declared.words.Work.{Work}
use Rattle.xsk_cli.specs.declared.words.Work.TheVariants.{Simulate}

-- terms are those of work that is a run
abbrev pub AreTermsOf : Work → Terms → Type 0
AreTermsOf work terms =
    (number : Option ℕ) × (work ≡ Simulate terms.layout.now terms.programs.now terms.wire terms.manner terms.order number terms.telling terms.format)

module _ (terms : Terms) (lists : List (List (List ℕ))) where
  -- the setting of a run in rounds, the texts of it, and why there are none
  abbrev pub setting_in : Setting
  setting_in = setting_of terms.layout.now terms.programs.now terms.wire terms.manner lists

  abbrev pub AreTextsUnder : Written → Type 0
  AreTextsUnder texts = AreTextsOf terms.format terms.layout.now terms.programs.now terms.wire terms.manner terms.order lists terms.telling.journal texts

  abbrev pub FailsUnder : RunFailure → Type 0
  FailsUnder failure = FailsRunning terms.layout.now terms.programs.now terms.wire terms.manner terms.order terms.telling lists failure

  -- what a run on threads shows, and the texts of that
  abbrev pub HasShownUnder : OutcomeShown → Type 0
  HasShownUnder o = HasForwarded terms.layout.now.hands (setting_of terms.layout.now terms.programs.now terms.wire (unmangled terms.manner) lists) (frames_of terms.layout.now) o

  abbrev pub AreTextsOfShown : OutcomeShown → Written → Type 0
  AreTextsOfShown o texts = AreTextsIn terms.format terms.layout.now terms.programs.now terms.wire (unmangled terms.manner) lists o.history
      (report_of terms.layout.now terms.programs.now terms.wire (unmangled terms.manner) lists o.history) texts
