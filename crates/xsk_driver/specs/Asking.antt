-- What a driver asks its port's programs.
use Rattle.std.specs.Prelude.{◌≡◌, ◌<◌, ◌≤◌, ℕ, List, [], ◌∷◌, length, map}
use Rattle.std.specs.Fn.{Shared}
use denote.Ref.{Bor}
use Rattle.xsk_umem.specs.PacketList.{PacketList}
use Rattle.xsk_prog.specs.Chain.{AskedOnce, ChainAnswers, rules_of}
use Rattle.xsk_prog.specs.Rules.{MeetsChain}
use Rattle.xsk_prog.specs.Program.{XdpProgram}
use Rattle.xsk_prog.specs.declared.rule.Verdict.{Verdict}
use Rattle.xsk_turns.specs.Turns.{Judged, Kept}
use Rattle.xsk_driver.specs.Stands.{packet_at}

-- the packets of a list that have these numbers
abbrev pub packets_by : PacketList → List ℕ → List (List ℕ)
packets_by list numbers = map (packet_at list) numbers

-- the verdicts of the packets that still come, which are all of a new driver
abbrev pub verdicts_in : Kept → List Verdict
verdicts_in kept = map (λ (packet : Judged). packet.verdict) kept.coming

-- a verdict on a packet is an answer of the chain, the first of its programs' that isn't Pass, and it meets their rules
pub record IsAnswer {F : Type 0} (g : Shared F (Bor (List ℕ) × (ℕ × Unit {0})) Verdict) (programs : List (XdpProgram F)) (queue : ℕ) (packet : List ℕ) (verdict : Verdict) : Type 0 where
  pub answers : ChainAnswers g programs packet queue verdict
  pub meets : MeetsChain (rules_of programs) packet queue verdict

-- a packet on a queue, of which a chain may be asked
pub record Question : Type 0 where
  pub queue : ℕ
  pub packet : List ℕ

abbrev pub questions_on : ℕ → List (List ℕ) → List Question
questions_on queue packets = map (λ packet. record { queue = queue; packet = packet }) packets

-- a chain before and after a packet's verdict is had: it was asked once if the packet has an Ethernet header, and else not
pub record IsAsked {F : Type 0} (g : Shared F (Bor (List ℕ) × (ℕ × Unit {0})) Verdict) (question : Question) (verdict : Verdict) (before after : List (XdpProgram F)) : Type 0 where
  pub once : 14 ≤ length question.packet → AskedOnce g question.packet question.queue verdict before after
  pub runt : length question.packet < 14 → after ≡ before

-- a chain before and after it was so asked of packets one after the other, and of nothing else
abbrev pub AreAsked : {F : Type 0} → Shared F (Bor (List ℕ) × (ℕ × Unit {0})) Verdict → List Question → List Verdict → List (XdpProgram F) → List (XdpProgram F) → Type 0
AreAsked g [] [] before after = after ≡ before
AreAsked g [] (verdict ∷ verdicts) before after = ⊥
AreAsked g (question ∷ questions) [] before after = ⊥
AreAsked {F} g (question ∷ questions) (verdict ∷ verdicts) before after =
    (between : List (XdpProgram F)) × IsAsked g question verdict before between × AreAsked g questions verdicts between after
