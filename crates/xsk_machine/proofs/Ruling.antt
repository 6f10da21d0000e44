-- Answers of a chain that meet its programs' rules meet them.
use Rattle.std.proofs.Common.{ℕ, List, [], get_or}
use Rattle.std.specs.Fn.{Shared}
use denote.Ref.{Bor}
use Rattle.xsk_model.specs.Config.{pair_at}
use Rattle.xsk_prog.specs.Chain.{rules_of}
use Rattle.xsk_prog.specs.Program.{XdpProgram}
use Rattle.xsk_prog.specs.declared.rule.Verdict.{Verdict}
use Rattle.xsk_turns.specs.Workers.{Setting, packets_to, AreGiven, IsRuled}
use Rattle.xsk_driver.specs.Asking.{IsAnswer}
use Rattle.xsk_driver.proofs.Asking.{all_meet}

pub asked_ruled : {F : Type 0} (g : Shared F (Bor (List ℕ) × (ℕ × Unit {0})) Verdict) (programs : List (XdpProgram F)) (s : Setting) → AreGiven (IsAnswer g programs) s → IsRuled (rules_of programs) s
asked_ruled g programs s asked = record {
  count = asked.count;
  each = λ pair known. all_meet g programs (pair_at s.config.pairs pair).queue (packets_to s.config s.packets (pair_at s.config.pairs pair)) (get_or s.verdicts pair []) (asked.each pair known);
}
