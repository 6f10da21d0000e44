-- Programs in a chain: the first answer that isn't Pass decides, as in the dispatcher of libxdp.
use Rattle.std.specs.Prelude.{◌≡◌, ◌≢◌, ◌⊎◌, ℕ, List, [], ◌∷◌, map, All}
use Rattle.std.specs.Fn.{Shared}
use denote.Ref.{Bor}
use Rattle.xsk_prog.specs.declared.rule.Rule.{Rule}
use Rattle.xsk_prog.specs.declared.rule.Verdict.{Verdict}
use Rattle.xsk_prog.specs.declared.rule.Verdict.TheVariants.{Pass}
use Rattle.xsk_prog.specs.Program.{XdpProgram, Answers, Obeys, once_more, unasked}

abbrev pub rules_of : {F : Type 0} → List (XdpProgram F) → List Rule
rules_of programs = map (λ program. program.rule) programs

-- each program keeps its rule
abbrev pub AllObey : {F : Type 0} → Shared F (Bor (List ℕ) × (ℕ × Unit {0})) Verdict → List (XdpProgram F) → Type 0
AllObey g programs = All (λ program. Obeys g program.rule program.decide) programs

-- what a chain may answer of a packet on a queue
abbrev pub ChainAnswers : {F : Type 0} → Shared F (Bor (List ℕ) × (ℕ × Unit {0})) Verdict → List (XdpProgram F) → List ℕ → ℕ → Verdict → Type 0
ChainAnswers g [] packet queue verdict = verdict ≡ Pass
ChainAnswers g (program ∷ later) packet queue verdict =
    (Answers g program.decide packet queue verdict × (verdict ≢ Pass))
    ⊎ (Answers g program.decide packet queue Pass × ChainAnswers g later packet queue verdict)

-- a chain before and after it was asked about a packet: each program down to the one that decides was asked once more, and none
-- behind that one
abbrev pub AskedOnce : {F : Type 0} → Shared F (Bor (List ℕ) × (ℕ × Unit {0})) Verdict → List ℕ → ℕ → Verdict → List (XdpProgram F) → List (XdpProgram F) → Type 0
AskedOnce g packet queue verdict [] after = (verdict ≡ Pass) × (after ≡ [])
AskedOnce g packet queue verdict (program ∷ later) [] = ⊥
AskedOnce g packet queue verdict (program ∷ later) (first ∷ rest) =
    (first ≡ once_more program)
    × ((Answers g program.decide packet queue verdict × (verdict ≢ Pass) × (rest ≡ later))
    ⊎ (Answers g program.decide packet queue Pass × AskedOnce g packet queue verdict later rest))

-- the same programs, however often each was asked
abbrev pub SamePrograms : {F : Type 0} → List (XdpProgram F) → List (XdpProgram F) → Type 0
SamePrograms before after = map unasked after ≡ map unasked before
