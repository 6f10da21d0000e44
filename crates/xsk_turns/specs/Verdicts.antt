-- The verdicts of a driver's packets: one for each, in order, which the chain of programs gives once (af_xdp.rst, "Overview"). A packet
-- without a whole Ethernet header isn't asked about; that `Drop` stands in its place is this project's own.
use Rattle.std.specs.Prelude.{◌≡◌, ℕ, ◌<◌, ◌≤◌, nat_lt, true, if◌then◌else◌, List, [], ◌∷◌, length, map}
use Rattle.xsk_prog.specs.Rules.{MeetsChain, chain_verdict_of, are_exact}
use Rattle.xsk_prog.specs.declared.rule.Rule.{Rule}
use Rattle.xsk_prog.specs.declared.rule.Verdict.{Verdict}
use Rattle.xsk_prog.specs.declared.rule.Verdict.TheVariants.{Drop}
use Rattle.xsk_turns.specs.Turns.{Judged}

-- packets with their verdicts
abbrev pub judged : List (List ℕ) → List Verdict → List Judged
judged [] verdicts = []
judged (packet ∷ packets) [] = []
judged (packet ∷ packets) (verdict ∷ verdicts) = record { bytes = packet; verdict = verdict } ∷ judged packets verdicts

-- there is one verdict for each packet, of which this holds
abbrev pub EachHas : (List ℕ → Verdict → Type 0) → List (List ℕ) → List Verdict → Type 0
EachHas P [] [] = Unit {0}
EachHas P [] (verdict ∷ verdicts) = ⊥
EachHas P (packet ∷ packets) [] = ⊥
EachHas P (packet ∷ packets) (verdict ∷ verdicts) = P packet verdict × EachHas P packets verdicts

-- of a packet that is asked about the verdict is given so, and of any other it is Drop
pub record IsGiven (By : List ℕ → Verdict → Type 0) (packet : List ℕ) (verdict : Verdict) : Type 0 where
  pub asked : 14 ≤ length packet → By packet verdict
  pub runt : length packet < 14 → verdict ≡ Drop

-- the verdicts of packets on a queue meet the rules of a chain
abbrev pub MeetRules : List Rule → ℕ → List (List ℕ) → List Verdict → Type 0
MeetRules rules queue packets verdicts = EachHas (IsGiven (λ packet verdict. MeetsChain rules packet queue verdict)) packets verdicts

-- ---- rules with one verdict

-- the verdicts that rules give themselves
abbrev pub own_verdict : List Rule → ℕ → List ℕ → Verdict
own_verdict rules queue packet = if nat_lt (length packet) 14 then Drop else chain_verdict_of rules packet queue

abbrev pub own_verdicts : List Rule → ℕ → List (List ℕ) → List Verdict
own_verdicts rules queue packets = map (own_verdict rules queue) packets

-- rules with one verdict for each packet leave one list of them
abbrev pub OneVerdicts : Type 0
OneVerdicts = (rules : List Rule) (queue : ℕ) (packets : List (List ℕ)) (verdicts : List Verdict) → are_exact rules ≡ true → MeetRules rules queue packets verdicts
    → verdicts ≡ own_verdicts rules queue packets
