-- Rules that leave one verdict for each packet.
use Rattle.std.proofs.Common.{◌≡◌, ℕ, true, List, subst}
use Rattle.std.specs.Fn.{Shared}
use denote.Ref.{Bor}
use Rattle.xsk_umem.specs.Frame.{Frame}
use Rattle.xsk_prog.specs.Chain.{rules_of}
use Rattle.xsk_prog.specs.Rules.{are_exact}
use Rattle.xsk_prog.specs.Program.{XdpProgram}
use Rattle.xsk_prog.specs.declared.rule.Verdict.{Verdict}
use Rattle.xsk_turns.proofs.Verdicts.{one_setting}
use Rattle.xsk_turns.specs.Workers.{Setting, AreGiven, ruled_by}
use Rattle.xsk_driver.specs.Asking.{IsAnswer}
use Rattle.xsk_machine.proofs.Ruling.{asked_ruled}
use Rattle.xsk_workers.specs.Forwarded.{HasForwarded, OutcomeShown}

pub forwards_as_ruled : {F : Type 0} (hands : ℕ) (g : Shared F (Bor (List ℕ) × (ℕ × Unit {0})) Verdict) (programs : List (XdpProgram F)) (s : Setting) (frames : List Frame) (o : OutcomeShown)
    → are_exact (rules_of programs) ≡ true → AreGiven (IsAnswer g programs) s → HasForwarded hands s frames o → HasForwarded hands (ruled_by (rules_of programs) s.wire s.manner s.config s.packets) frames o
forwards_as_ruled hands g programs s frames o exact asked h = subst (λ t. HasForwarded hands t frames o) (one_setting (rules_of programs) s exact (asked_ruled g programs s asked)) h
