-- The verdicts of a driver's packets: one more, and what they are of a new driver's packets.
use Rattle.std.proofs.Common.{◌≡◌, ℕ, ◌+◌, ◌<◌, Bool, true, false, nat_lt, List, [], ◌∷◌, ◌++◌, length, take, drop, map, get_or, slice_get, Some, refl, sym, ap, ◌∙◌, subst, append-nil, length-append}
use Rattle.std.proofs.lemmas.Bool.{ltb-true, ltb-false}
use Rattle.std.proofs.lemmas.List.{take_more, map-append}
use Rattle.std.proofs.lemmas.List.Folds.{concat-append}
use Rattle.std.specs.List.{concat}
use Rattle.std.proofs.lemmas.Option.{get_or_from_slice_get}
use Rattle.std.specs.Fn.{Shared}
use denote.Ref.{Bor}
use Rattle.xsk_umem.specs.PacketList.{PacketList}
use Rattle.xsk_prog.specs.Chain.{SamePrograms, rules_of}
use Rattle.xsk_prog.specs.Rules.{MeetsChain}
use Rattle.xsk_prog.proofs.Same.{same_once, same_answers, same_rules}
use Rattle.xsk_prog.specs.Program.{XdpProgram, unasked}
use Rattle.xsk_prog.specs.declared.rule.Verdict.{Verdict}
use Rattle.xsk_turns.specs.Turns.{Judged}
use Rattle.xsk_turns.specs.declared.disposal.Disposal.{Disposal}
use Rattle.xsk_turns.specs.Verdicts.{judged, EachHas, IsGiven}
use Rattle.xsk_driver.specs.Asking.{packets_by, AreAsked, IsAnswer, IsAsked, Question, questions_on}
use Rattle.xsk_driver.specs.Stands.{packet_at}

each-push : (P : List ℕ → Verdict → Type 0) (packets : List (List ℕ)) (verdicts : List Verdict) (packet : List ℕ) (verdict : Verdict) → EachHas P packets verdicts → P packet verdict
    → EachHas P (packets ++ packet ∷ []) (verdicts ++ verdict ∷ [])
each-push P [] [] packet verdict h k = (k, tt)
each-push P [] (v ∷ verdicts) packet verdict h k = absurd h
each-push P (p ∷ packets) [] packet verdict h k = absurd h
each-push P (p ∷ packets) (v ∷ verdicts) packet verdict h k = (h.0, each-push P packets verdicts packet verdict h.1 k)

-- one more number
pub packets-taken : (list : PacketList) (numbers : List ℕ) (i : ℕ) (packet : List ℕ) → i < length numbers → slice_get list.packets (get_or numbers i 0) ≡ Some packet
    → packets_by list (take (i + 1) numbers) ≡ packets_by list (take i numbers) ++ packet ∷ []
packets-taken list numbers i packet within got =
    let here : packet_at list (get_or numbers i 0) ≡ packet = get_or_from_slice_get list.packets (get_or numbers i 0) packet [] got in
    ap (packets_by list) (take_more numbers i 0 within) ∙ map-append (packet_at list) (take i numbers) (get_or numbers i 0 ∷ [])
    ∙ ap (λ p. packets_by list (take i numbers) ++ p ∷ []) here

-- the bytes of its packet, and its verdict
pub bytes-taken : (list : PacketList) (numbers : List ℕ) (i : ℕ) (packet : List ℕ) → i < length numbers → slice_get list.packets (get_or numbers i 0) ≡ Some packet
    → length (concat (packets_by list (take (i + 1) numbers))) ≡ length (concat (packets_by list (take i numbers))) + length packet
bytes-taken list numbers i packet within got =
    let before = packets_by list (take i numbers) in
    let all : concat (packets_by list (take (i + 1) numbers)) ≡ concat before ++ packet =
    ap concat (packets-taken list numbers i packet within got) ∙ concat-append before (packet ∷ []) ∙ ap (λ bytes. concat before ++ bytes) (append-nil packet) in
    ap length all ∙ length-append (concat before) packet

pub each-taken : (P : List ℕ → Verdict → Type 0) (list : PacketList) (numbers : List ℕ) (verdicts : List Verdict) (i : ℕ) (packet : List ℕ) (verdict : Verdict) → i < length numbers
    → slice_get list.packets (get_or numbers i 0) ≡ Some packet → EachHas P (packets_by list (take i numbers)) verdicts → P packet verdict
    → EachHas P (packets_by list (take (i + 1) numbers)) (verdicts ++ verdict ∷ [])
each-taken P list numbers verdicts i packet verdict within got h k =
    subst (λ ps. EachHas P ps (verdicts ++ verdict ∷ [])) (sym (packets-taken list numbers i packet within got)) (each-push P (packets_by list (take i numbers)) verdicts packet verdict h k)

pub each-weaker : (P Q : List ℕ → Verdict → Type 0) → ((packet : List ℕ) (verdict : Verdict) → P packet verdict → Q packet verdict) → (packets : List (List ℕ)) (verdicts : List Verdict)
    → EachHas P packets verdicts → EachHas Q packets verdicts
each-weaker P Q w [] [] h = tt
each-weaker P Q w [] (v ∷ verdicts) h = absurd h
each-weaker P Q w (p ∷ packets) [] h = absurd h
each-weaker P Q w (p ∷ packets) (v ∷ verdicts) h = (w p v h.0, each-weaker P Q w packets verdicts h.1)

-- answers that meet the rules meet them
pub all_meet : {F : Type 0} (g : Shared F (Bor (List ℕ) × (ℕ × Unit {0})) Verdict) (programs : List (XdpProgram F)) (queue : ℕ) (packets : List (List ℕ)) (verdicts : List Verdict)
    → EachHas (IsGiven (IsAnswer g programs queue)) packets verdicts → EachHas (IsGiven (λ packet verdict. MeetsChain (rules_of programs) packet queue verdict)) packets verdicts
all_meet g programs queue packets verdicts h =
    each-weaker (IsGiven (IsAnswer g programs queue)) (IsGiven (λ packet verdict. MeetsChain (rules_of programs) packet queue verdict))
    (λ packet verdict k. record { asked = λ long. (k.asked long).meets; runt = k.runt }) packets verdicts h

pub verdicts-judged : (P : List ℕ → Verdict → Type 0) (packets : List (List ℕ)) (verdicts : List Verdict) → EachHas P packets verdicts
    → map (λ (p : Judged). p.verdict) (judged packets verdicts) ≡ verdicts
verdicts-judged P [] [] h = refl
verdicts-judged P [] (v ∷ verdicts) h = absurd h
verdicts-judged P (p ∷ packets) [] h = absurd h
verdicts-judged P (p ∷ packets) (v ∷ verdicts) h = ap (λ vs. v ∷ vs) (verdicts-judged P packets verdicts h.1)

-- a driver without disposals
pub new_verdicts : (P : List ℕ → Verdict → Type 0) (packets : List (List ℕ)) (verdicts : List Verdict) (disposals : List Disposal) → disposals ≡ [] → EachHas P packets verdicts
    → map (λ (p : Judged). p.verdict) (drop (length disposals) (judged packets verdicts)) ≡ verdicts
new_verdicts P packets verdicts disposals none h =
    ap (λ (ds : List Disposal). map (λ (p : Judged). p.verdict) (drop (length ds) (judged packets verdicts))) none ∙ verdicts-judged P packets verdicts h

-- ---- the programs, as they are asked

module _ {F : Type 0} (g : Shared F (Bor (List ℕ) × (ℕ × Unit {0})) Verdict) where
  -- they stay the same but for how often they were asked
  pub same_asked : (question : Question) (verdict : Verdict) (before after : List (XdpProgram F)) → IsAsked g question verdict before after → SamePrograms before after
  same_asked question verdict before after h = by (nat_lt (length question.packet) 14) refl
    where
      by : (short : Bool) → nat_lt (length question.packet) 14 ≡ short → SamePrograms before after
      by true e = ap (map unasked) (h.runt (ltb-true (length question.packet) 14 e))
      by false e = same_once g question.packet question.queue verdict before after (h.once (ltb-false (length question.packet) 14 e))

  -- so an answer of theirs is one of those that they were
  pub given_before : (queue : ℕ) (packet : List ℕ) (verdict : Verdict) (before after : List (XdpProgram F)) → SamePrograms before after
      → IsGiven (IsAnswer g after queue) packet verdict → IsGiven (IsAnswer g before queue) packet verdict
  given_before queue packet verdict before after same h = record {
    asked = λ long.
        let a : IsAnswer g after queue packet verdict = h.asked long in record {
          answers = same_answers g packet queue verdict before after same a.answers;
          meets = subst (λ rules. MeetsChain rules packet queue verdict) (same_rules before after same) a.meets;
        };
    runt = h.runt;
  }

  -- further questions
  pub asked-append : (questions more : List Question) (verdicts given : List Verdict) (before between after : List (XdpProgram F)) → AreAsked g questions verdicts before between
      → AreAsked g more given between after → AreAsked g (questions ++ more) (verdicts ++ given) before after
  asked-append [] more [] given before between after h k = subst (λ ps. AreAsked g more given ps after) h k
  asked-append [] more (v ∷ verdicts) given before between after h k = absurd h
  asked-append (q ∷ questions) more [] given before between after h k = absurd h
  asked-append (q ∷ questions) more (v ∷ verdicts) given before between after (next, asked, h) k =
      (next, asked, asked-append questions more verdicts given next between after h k)

  pub asked-taken : (queue : ℕ) (list : PacketList) (numbers : List ℕ) (verdicts : List Verdict) (i : ℕ) (packet : List ℕ) (verdict : Verdict) (before between after : List (XdpProgram F))
      → i < length numbers → slice_get list.packets (get_or numbers i 0) ≡ Some packet → AreAsked g (questions_on queue (packets_by list (take i numbers))) verdicts before between
      → IsAsked g (record { queue = queue; packet = packet }) verdict between after
      → AreAsked g (questions_on queue (packets_by list (take (i + 1) numbers))) (verdicts ++ verdict ∷ []) before after
  asked-taken queue list numbers verdicts i packet verdict before between after within got h k =
      let question : Question = record { queue = queue; packet = packet } in
      let more : questions_on queue (packets_by list (take (i + 1) numbers)) ≡ questions_on queue (packets_by list (take i numbers)) ++ question ∷ [] =
      ap (questions_on queue) (packets-taken list numbers i packet within got) ∙ map-append (λ (p : List ℕ). let q : Question = record { queue = queue; packet = p } in q) (packets_by list (take i numbers)) (packet ∷ []) in
      subst (λ qs. AreAsked g qs (verdicts ++ verdict ∷ []) before after) (sym more)
      (asked-append (questions_on queue (packets_by list (take i numbers))) (question ∷ []) verdicts (verdict ∷ []) before between after h (after, k, refl))

  pub asked_none : (verdicts : List Verdict) (before after : List (XdpProgram F)) → AreAsked g [] verdicts before after → after ≡ before
  asked_none [] before after h = h
  asked_none (v ∷ verdicts) before after h = absurd h

  pub same_all : (questions : List Question) (verdicts : List Verdict) (before after : List (XdpProgram F)) → AreAsked g questions verdicts before after → SamePrograms before after
  same_all [] [] before after h = ap (map unasked) h
  same_all [] (v ∷ verdicts) before after h = absurd h
  same_all (q ∷ questions) [] before after h = absurd h
  same_all (q ∷ questions) (v ∷ verdicts) before after (next, asked, h) = same_all questions verdicts next after h ∙ same_asked q v before next asked

  pub all_given_before : (queue : ℕ) (packets : List (List ℕ)) (verdicts : List Verdict) (before after : List (XdpProgram F)) → SamePrograms before after
      → EachHas (IsGiven (IsAnswer g after queue)) packets verdicts → EachHas (IsGiven (IsAnswer g before queue)) packets verdicts
  all_given_before queue packets verdicts before after same h =
      each-weaker (IsGiven (IsAnswer g after queue)) (IsGiven (IsAnswer g before queue)) (λ packet verdict. given_before queue packet verdict before after same) packets verdicts h
