-- Rules of which each has one verdict leave one list of verdicts, and so one setting.
use Rattle.std.proofs.Common.{◌≡◌, ℕ, Bool, true, false, cond, nat_lt, List, [], ◌∷◌, length, map, refl, sym, ap, ◌∙◌, subst, arith, ext_get_or, lt-ltb, le-ltb}
use Rattle.std.proofs.lemmas.Bool.{ltb-true, ltb-false}
use Rattle.std.proofs.lemmas.List.{length-map, get_or-map}
use Rattle.xsk_model.specs.Config.{pair_at}
use Rattle.xsk_model.specs.declared.config.PairInfo.{PairInfo}
use Rattle.xsk_prog.specs.Rules.{MeetsChain, chain_verdict_of, are_exact}
use Rattle.xsk_prog.specs.declared.rule.Rule.{Rule}
use Rattle.xsk_prog.specs.declared.rule.Verdict.{Verdict}
use Rattle.xsk_prog.proofs.Chains.{meets_own_chain, one_chain_verdict}
use Rattle.xsk_prog.specs.declared.rule.Verdict.TheVariants.{Drop}
use Rattle.xsk_turns.specs.Turns.{Judged}
use Rattle.xsk_turns.specs.Verdicts.{judged, IsGiven, EachHas, MeetRules, own_verdict, own_verdicts, OneVerdicts}
use Rattle.xsk_turns.specs.Workers.{Setting, packets_to, verdicts_to, OneSetting, OwnSetting}

one_given : (rules : List Rule) (queue : ℕ) (packet : List ℕ) (verdict : Verdict) → are_exact rules ≡ true → IsGiven (λ p v. MeetsChain rules p queue v) packet verdict → verdict ≡ own_verdict rules queue packet
one_given rules queue packet verdict exact is = by (nat_lt (length packet) 14) refl
  where
    by : (short : Bool) → nat_lt (length packet) 14 ≡ short → verdict ≡ own_verdict rules queue packet
    by true e = is.runt (ltb-true (length packet) 14 e) ∙ sym (ap (λ b. cond b Drop (chain_verdict_of rules packet queue)) e)
    by false e = one_chain_verdict rules packet queue verdict exact (is.asked (ltb-false (length packet) 14 e)) ∙ sym (ap (λ b. cond b Drop (chain_verdict_of rules packet queue)) e)

pub one_verdicts : OneVerdicts
one_verdicts rules queue [] [] exact is = refl
one_verdicts rules queue [] (verdict ∷ verdicts) exact is = absurd is
one_verdicts rules queue (packet ∷ packets) [] exact is = absurd is
one_verdicts rules queue (packet ∷ packets) (verdict ∷ verdicts) exact is =
    ap (λ v. v ∷ verdicts) (one_given rules queue packet verdict exact is.0)
    ∙ ap (λ vs. own_verdict rules queue packet ∷ vs) (one_verdicts rules queue packets verdicts exact is.1)

pub one_setting : OneSetting
one_setting rules s exact is =
    let none : PairInfo = record { port = 0; queue = 0; fill = 0; comp = 0 } in
    let own : PairInfo → List Verdict = verdicts_to rules s.config s.packets in
    ap (λ vs. let t : Setting = record s { verdicts = vs } in t)
    (ext_get_or [] s.verdicts (map own s.config.pairs) (is.count ∙ sym (length-map s.config.pairs own))
    (λ i within. one_verdicts rules (pair_at s.config.pairs i).queue _ _ exact (is.each i (omega (arith, within, is.count))) ∙ sym (get_or-map own s.config.pairs i none [] (omega (arith, within, is.count)))))

-- ---- packets with their verdicts

pub bytes-judged : (P : List ℕ → Verdict → Type 0) (packets : List (List ℕ)) (verdicts : List Verdict) → EachHas P packets verdicts
    → map (λ (p : Judged). p.bytes) (judged packets verdicts) ≡ packets
bytes-judged P [] [] h = refl
bytes-judged P [] (v ∷ verdicts) h = absurd h
bytes-judged P (p ∷ packets) [] h = absurd h
bytes-judged P (p ∷ packets) (v ∷ verdicts) h = ap (λ ps. p ∷ ps) (bytes-judged P packets verdicts h.1)

pub length-verdicts : (P : List ℕ → Verdict → Type 0) (packets : List (List ℕ)) (verdicts : List Verdict) → EachHas P packets verdicts → length verdicts ≡ length packets
length-verdicts P [] [] h = refl
length-verdicts P [] (v ∷ verdicts) h = absurd h
length-verdicts P (p ∷ packets) [] h = absurd h
length-verdicts P (p ∷ packets) (v ∷ verdicts) h = omega (arith, length-verdicts P packets verdicts h.1)

-- ---- the verdicts that rules give themselves meet them

own_given : (rules : List Rule) (queue : ℕ) (packet : List ℕ) → IsGiven (λ p v. MeetsChain rules p queue v) packet (own_verdict rules queue packet)
own_given rules queue packet = record {
  asked = λ long. subst (MeetsChain rules packet queue) (sym (ap (λ b. cond b Drop (chain_verdict_of rules packet queue)) (le-ltb (length packet) 14 long))) (meets_own_chain rules packet queue);
  runt = λ short. ap (λ b. cond b Drop (chain_verdict_of rules packet queue)) (lt-ltb (length packet) 14 short);
}

own_meet : (rules : List Rule) (queue : ℕ) (packets : List (List ℕ)) → MeetRules rules queue packets (own_verdicts rules queue packets)
own_meet rules queue [] = tt
own_meet rules queue (packet ∷ packets) = (own_given rules queue packet, own_meet rules queue packets)

pub own_setting : OwnSetting
own_setting rules wire manner c lists =
    let none : PairInfo = record { port = 0; queue = 0; fill = 0; comp = 0 } in
    let own : PairInfo → List Verdict = verdicts_to rules c lists in
    record {
      count = length-map c.pairs own;
      each = λ pair known. subst (MeetRules rules (pair_at c.pairs pair).queue (packets_to c lists (pair_at c.pairs pair))) (sym (get_or-map own c.pairs pair none [] known))
          (own_meet rules (pair_at c.pairs pair).queue (packets_to c lists (pair_at c.pairs pair)));
    }
