-- What a closure answers, and what it must do to be attached as a program under a rule.
use Rattle.std.specs.Prelude.{◌≡◌, ℕ, ◌+◌, ◌%◌, ◌^◌, List}
use Rattle.std.specs.Fn.{Shared}
use denote.Ref.{Bor}
use Rattle.xsk_prog.specs.declared.rule.Rule.{Rule}
use Rattle.xsk_prog.specs.declared.rule.Verdict.{Verdict}
use Rattle.xsk_prog.specs.Rules.{IsRuled, Meets}

-- what a closure may answer of a packet on a queue
pub record Answers {F : Type 0} (g : Shared F (Bor (List ℕ) × (ℕ × Unit {0})) Verdict) (f : F) (packet : List ℕ) (queue : ℕ) (verdict : Verdict) : Type 0 where
  pub shown : Bor (List ℕ)
  pub shows : shown.now ≡ packet
  pub met : g.post f (shown, (queue, tt)) verdict

-- on every packet that it may be asked about it may be called, and each of its answers meets the rule
pub record Obeys {F : Type 0} (g : Shared F (Bor (List ℕ) × (ℕ × Unit {0})) Verdict) (rule : Rule) (f : F) : Type 0 where
  pub takes : (packet : Bor (List ℕ)) (queue : ℕ) → IsRuled packet.now queue → g.pre f (packet, (queue, tt))
  pub meets : (packet : Bor (List ℕ)) (queue : ℕ) (verdict : Verdict) → IsRuled packet.now queue → g.post f (packet, (queue, tt)) verdict → Meets rule packet.now queue verdict

-- an attached program: a closure beside the rule that its answers meet, and how often it was asked
pub record XdpProgram (F : Type 0) : Type 0 where
  pub rule : Rule
  pub decide : F
  pub asked : ℕ

-- a program that was asked once more
abbrev pub once_more : {F : Type 0} → XdpProgram F → XdpProgram F
once_more program = record { rule = program.rule; decide = program.decide; asked = (program.asked + 1) % 2 ^ 64 }

-- and however often it was
abbrev pub unasked : {F : Type 0} → XdpProgram F → XdpProgram F
unasked program = record { rule = program.rule; decide = program.decide; asked = 0 }
