-- The journals of runs are legal, as `audit` reads them.
use Rattle.std.specs.Prelude.{ℕ, ◌≤◌, Bool, true, List, [], ◌∷◌, length}
use Rattle.xsk_umem.specs.Frame.{Frame}
use Rattle.xsk_turns.specs.Workers.{Setting}
use Rattle.xsk_sim.specs.Journal.{journal_of}
use Rattle.xsk_sim.specs.Runs.{HasEnded}
use Rattle.xsk_sim.specs.Shown.{Shown}
use Rattle.xsk_args.specs.declared.program.Program.{Program}
use Rattle.xsk_turns.specs.declared.wire.Wire.{Wire}
use Rattle.xsk_socket.specs.declared.layout.Layout.{Layout}
use Rattle.xsk_audit.specs.Telling.{IsVerdict}
use Rattle.xsk_audit.specs.declared.auditing.Verdicts.TheVariants.{Legal}
use Rattle.xsk_turns.specs.declared.manner.Manner.{Manner}
use Rattle.xsk_cli.specs.Outcome.{Written, AreTextsOf, IsOutcome, legal_text, made}
use Rattle.xsk_cli.specs.Words.{without_files}
use Rattle.xsk_cli.specs.declared.format.Format.{Format}
use Rattle.xsk_cli.specs.declared.words.Work.TheVariants.{Audit}

-- that of a run that has ended, whatever its configuration, has an entry for each call of its log
abbrev pub RunsAreLegal : Type 0
RunsAreLegal = (s : Setting) (frames : List Frame) (order : ℕ) (run : Shown) → HasEnded s frames order run
    → IsVerdict s.config (journal_of (length s.config.pairs) run.log) (Legal (length run.log))

-- What `simulate --journal` tells, with the report in front, is told by `audit` to be legal, where its layout is the same and the
-- text isn't too long.
abbrev pub ReportsAreLegal : Type 0
ReportsAreLegal = (format : Format) (layout : Layout) (programs : List Program) (wire : Wire) (manner : Manner) (order : ℕ) (lists : List (List (List ℕ))) (texts : Written) (why : Bool)
    → (are : AreTextsOf format layout programs wire manner order lists true texts) → length texts.report ≤ 67108864
    → IsOutcome (Audit (without_files layout) why) (texts.report ∷ []) (made (record { outputs = []; report = legal_text (length are.ended.history) }))
