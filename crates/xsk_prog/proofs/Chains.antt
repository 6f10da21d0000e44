-- Chains: what the programs from a place on answer, the chain answers where all before it passed the packet on.
use Rattle.std.proofs.Common.{◌≡◌, ◌≢◌, ◌<◌, ◌≤◌, inl, inr, ℕ, ◌+◌, suc, true, List, [], ◌∷◌, ◌++◌, length, take, drop, set, get_or, refl, sym, ap, subst, ◌∙◌, arith, append-nil, append_assoc}
use Rattle.std.specs.Prelude.{slice_index_or}
use Rattle.std.specs.Fn.{Shared}
use denote.Ref.{Bor}
use Rattle.std.proofs.lemmas.Bool.{and_parts}
use Rattle.std.proofs.lemmas.List.{drop_all, drop-set-lt, length-set, set_split, take_all, take_more_set}
use Rattle.std.proofs.lemmas.List.Elements.{All-set}
use Rattle.std.proofs.Math.Seq.{drop-cons}
use Rattle.xsk_prog.specs.declared.rule.Rule.{Rule}
use Rattle.xsk_prog.specs.declared.rule.Rule.TheVariants.{Redirect as ByClass, Drop as DropAll, Pass as PassAll, EtherType, Fixed, AtMost, Bounce as BounceAll, BounceType}
use Rattle.xsk_prog.specs.declared.rule.Verdict.{Verdict}
use Rattle.xsk_prog.specs.declared.rule.Verdict.TheVariants.{Drop, Pass, Redirect, Bounce}
use Rattle.xsk_prog.specs.Program.{XdpProgram, Answers, Obeys, once_more}
use Rattle.xsk_prog.specs.Rules.{Meets, MeetsChain, verdict_of, or_next, chain_verdict_of, is_exact, are_exact, MeetsOwnChain, OneChainVerdict}
use Rattle.xsk_prog.specs.Chain.{AllObey, AskedOnce, ChainAnswers, rules_of}

module _ {F : Type 0} (g : Shared F (Bor (List ℕ) × (ℕ × Unit {0})) Verdict) (programs : List (XdpProgram F)) (packet : List ℕ) (queue : ℕ) where
  abbrev LeadsFrom : ℕ → Type 0
  LeadsFrom k =
      ((verdict : Verdict) → ChainAnswers g (drop k programs) packet queue verdict → ChainAnswers g programs packet queue verdict)
      × ((verdict : Verdict) → MeetsChain (rules_of (drop k programs)) packet queue verdict → MeetsChain (rules_of programs) packet queue verdict)

  next : (k : ℕ) (program : XdpProgram F) → k < length programs → program ≡ slice_index_or programs k program → drop k programs ≡ program ∷ drop (k + 1) programs
  next k program below is =
      let up : suc k ≡ k + 1 = omega arith in
      drop-cons programs k program below ∙ ap (λ n. slice_index_or programs k program ∷ drop n programs) up ∙ ap (λ p. p ∷ drop (k + 1) programs) (sym is)

  passes_on : (k : ℕ) (program : XdpProgram F) → k < length programs → program ≡ slice_index_or programs k program
      → Answers g program.decide packet queue Pass → Meets program.rule packet queue Pass → LeadsFrom k → LeadsFrom (k + 1)
  passes_on k program below is answers meets leads = (
    λ verdict later. leads.0 verdict (subst (λ ps. ChainAnswers g ps packet queue verdict) (sym (next k program below is)) (inr (answers, later))),
    λ verdict later. leads.1 verdict (subst (λ ps. MeetsChain (rules_of ps) packet queue verdict) (sym (next k program below is)) (inr (meets, later))),
  )

  decides : (k : ℕ) (program : XdpProgram F) (verdict : Verdict) → k < length programs → program ≡ slice_index_or programs k program → verdict ≢ Pass
      → Answers g program.decide packet queue verdict → Meets program.rule packet queue verdict → LeadsFrom k
      → ChainAnswers g programs packet queue verdict × MeetsChain (rules_of programs) packet queue verdict
  decides k program verdict below is other answers meets leads = (
    leads.0 verdict (subst (λ ps. ChainAnswers g ps packet queue verdict) (sym (next k program below is)) (inl (answers, other))),
    leads.1 verdict (subst (λ ps. MeetsChain (rules_of ps) packet queue verdict) (sym (next k program below is)) (inl (meets, other))),
  )

  all_passed : (k : ℕ) → length programs ≤ k → LeadsFrom k → ChainAnswers g programs packet queue Pass × MeetsChain (rules_of programs) packet queue Pass
  all_passed k none leads =
      let end : drop k programs ≡ [] = drop_all k programs none in (
        leads.0 Pass (subst (λ ps. ChainAnswers g ps packet queue Pass) (sym end) refl),
        leads.1 Pass (subst (λ ps. MeetsChain (rules_of ps) packet queue Pass) (sym end) refl),
      )

  -- those before a place were asked once, and from there on the programs stand as they did
  pub record AskedTo (k : ℕ) (now : List (XdpProgram F)) : Type 0 where
    pub leads : LeadsFrom k
    pub obey : AllObey g now
    pub count : length now ≡ length programs
    pub behind : drop k now ≡ drop k programs
    pub once : (verdict : Verdict) (rest : List (XdpProgram F)) → AskedOnce g packet queue verdict (drop k programs) rest → AskedOnce g packet queue verdict programs (take k now ++ rest)

  pub begins : AllObey g programs → AskedTo 0 programs
  begins obey = record {
    leads = (λ verdict answers. answers, λ verdict meets. meets);
    obey = obey;
    count = refl;
    behind = refl;
    once = λ verdict rest asked. asked;
  }

  both : (k : ℕ) (now : List (XdpProgram F)) (program : XdpProgram F) → k < length programs → length now ≡ length programs → drop k now ≡ drop k programs
      → get_or now k program ∷ drop (suc k) now ≡ get_or programs k program ∷ drop (suc k) programs
  both k now program below count behind =
      let inside : k < length now = omega (arith, below, count) in
      sym (drop-cons now k program inside) ∙ behind ∙ drop-cons programs k program below

  same_here : (k : ℕ) (now : List (XdpProgram F)) (program : XdpProgram F) → k < length programs → AskedTo k now → program ≡ slice_index_or now k program → program ≡ slice_index_or programs k program
  same_here k now program below h is = is ∙ ap (λ (ps : List (XdpProgram F)). get_or ps 0 program) (both k now program below h.count h.behind)

  pub obeys_here : (k : ℕ) (now : List (XdpProgram F)) (program : XdpProgram F) → k < length programs → AskedTo k now → program ≡ slice_index_or now k program → Obeys g program.rule program.decide
  obeys_here k now program below h is = subst (λ p. Obeys g p.rule p.decide) (sym is) (h.obey k program (omega (arith, below, h.count)))

  same_behind : (k : ℕ) (now : List (XdpProgram F)) (program : XdpProgram F) → k < length programs → AskedTo k now → drop (suc k) now ≡ drop (suc k) programs
  same_behind k now program below h = ap (λ (ps : List (XdpProgram F)). drop 1 ps) (both k now program below h.count h.behind)

  still_obey : (now : List (XdpProgram F)) (k : ℕ) (program after : XdpProgram F) → after ≡ once_more program → Obeys g program.rule program.decide → AllObey g now → AllObey g (set now k after)
  still_obey now k program after counted obeys all = All-set (λ p. Obeys g p.rule p.decide) now k after (subst (λ p. Obeys g p.rule p.decide) (sym counted) obeys) all

  pub goes_on : (k : ℕ) (now : List (XdpProgram F)) (program after : XdpProgram F) → k < length programs → program ≡ slice_index_or now k program → after ≡ once_more program
      → Answers g program.decide packet queue Pass → Meets program.rule packet queue Pass → AskedTo k now → AskedTo (k + 1) (set now k after)
  goes_on k now program after below at counted answers meets h =
      let inside : k < length now = omega (arith, below, h.count) in
      let up : suc k ≡ k + 1 = omega arith in
      let is : program ≡ slice_index_or programs k program = same_here k now program below h at in record {
        leads = passes_on k program below is answers meets h.leads;
        obey = still_obey now k program after counted (obeys_here k now program below h at) h.obey;
        count = length-set now k after ∙ h.count;
        behind = drop-set-lt (k + 1) now k after (omega arith) ∙ subst (λ n. drop n now ≡ drop n programs) up (same_behind k now program below h);
        once = λ verdict rest later.
            let here : AskedOnce g packet queue verdict (drop k programs) (after ∷ rest) = subst (λ ps. AskedOnce g packet queue verdict ps (after ∷ rest)) (sym (next k program below is)) (counted, inr (answers, later)) in
            subst (AskedOnce g packet queue verdict programs) (sym (ap (λ ps. ps ++ rest) (take_more_set now k after inside) ∙ append_assoc (take k now) (after ∷ []) rest)) (h.once verdict (after ∷ rest) here);
      }

  -- what the chain answers, and how it stands then
  pub record AskedAt (verdict : Verdict) (now : List (XdpProgram F)) : Type 0 where
    pub asked : ChainAnswers g programs packet queue verdict
    pub meets : MeetsChain (rules_of programs) packet queue verdict
    pub once : AskedOnce g packet queue verdict programs now
    pub obeys : AllObey g now

  pub stops : (k : ℕ) (now : List (XdpProgram F)) (program after : XdpProgram F) (verdict : Verdict) → k < length programs → program ≡ slice_index_or now k program → after ≡ once_more program
      → verdict ≢ Pass → Answers g program.decide packet queue verdict → Meets program.rule packet queue verdict → AskedTo k now → AskedAt verdict (set now k after)
  stops k now program after verdict below at counted other answers meets h =
      let inside : k < length now = omega (arith, below, h.count) in
      let up : suc k ≡ k + 1 = omega arith in
      let is : program ≡ slice_index_or programs k program = same_here k now program below h at in
      let behind : drop (suc k) now ≡ drop (k + 1) programs = subst (λ n. drop (suc k) now ≡ drop n programs) up (same_behind k now program below h) in
      let here : AskedOnce g packet queue verdict (drop k programs) (after ∷ drop (suc k) now) =
      subst (λ ps. AskedOnce g packet queue verdict ps (after ∷ drop (suc k) now)) (sym (next k program below is)) (counted, inl (answers, other, behind)) in
      let decided = decides k program verdict below is other answers meets h.leads in record {
        asked = decided.0;
        meets = decided.1;
        once = subst (AskedOnce g packet queue verdict programs) (sym (set_split now k after inside)) (h.once verdict (after ∷ drop (suc k) now) here);
        obeys = still_obey now k program after counted (obeys_here k now program below h at) h.obey;
      }

  pub ends : (k : ℕ) (now : List (XdpProgram F)) → length programs ≤ k → AskedTo k now → AskedAt Pass now
  ends k now none h =
      let end : drop k programs ≡ [] = drop_all k programs none in
      let all : take k now ≡ now = take_all k now (omega (arith, none, h.count)) in
      let passed = all_passed k none h.leads in record {
        asked = passed.0;
        meets = passed.1;
        once = subst (AskedOnce g packet queue Pass programs) (append-nil (take k now) ∙ all)
            (h.once Pass [] (subst (λ ps. AskedOnce g packet queue Pass ps []) (sym end) (refl, refl)));
        obeys = h.obey;
      }

-- ---- laws

own_meets : (rule : Rule) (packet : List ℕ) (queue : ℕ) → Meets rule packet queue (verdict_of rule packet queue)
own_meets (ByClass sockets) packet queue = refl
own_meets DropAll packet queue = refl
own_meets PassAll packet queue = refl
own_meets (EtherType kind sockets) packet queue = refl
own_meets (Fixed cell) packet queue = refl
own_meets (AtMost cells) packet queue = tt
own_meets BounceAll packet queue = refl
own_meets (BounceType kind) packet queue = refl

only_own : (rule : Rule) (packet : List ℕ) (queue : ℕ) (verdict : Verdict) → is_exact rule ≡ true → Meets rule packet queue verdict → verdict ≡ verdict_of rule packet queue
only_own (ByClass sockets) packet queue verdict exact meets = meets
only_own DropAll packet queue verdict exact meets = meets
only_own PassAll packet queue verdict exact meets = meets
only_own (EtherType kind sockets) packet queue verdict exact meets = meets
only_own (Fixed cell) packet queue verdict exact meets = meets
only_own (AtMost cells) packet queue verdict exact meets = absurd (cc)
only_own BounceAll packet queue verdict exact meets = meets
only_own (BounceType kind) packet queue verdict exact meets = meets

pub meets_own_chain : MeetsOwnChain
meets_own_chain [] packet queue = refl
meets_own_chain (rule ∷ rules) packet queue = by (verdict_of rule packet queue) (own_meets rule packet queue) (meets_own_chain rules packet queue)
  where
    by : (v : Verdict) → Meets rule packet queue v → MeetsChain rules packet queue (chain_verdict_of rules packet queue)
        → MeetsChain (rule ∷ rules) packet queue (or_next v (chain_verdict_of rules packet queue))
    by Drop meets later = inl (meets, λ e. absurd (cc))
    by Pass meets later = inr (meets, later)
    by (Redirect cell) meets later = inl (meets, λ e. absurd (cc))
    by Bounce meets later = inl (meets, λ e. absurd (cc))

pub one_chain_verdict : OneChainVerdict
one_chain_verdict [] packet queue verdict exact meets = meets
one_chain_verdict (rule ∷ rules) packet queue verdict exact (inl (meets, other)) = by verdict other (only_own rule packet queue verdict (and_parts (is_exact rule) (are_exact rules) exact).0 meets)
  where
    by : (v : Verdict) → v ≢ Pass → v ≡ verdict_of rule packet queue → v ≡ or_next (verdict_of rule packet queue) (chain_verdict_of rules packet queue)
    by Drop differs is = ap (λ w. or_next w (chain_verdict_of rules packet queue)) is
    by Pass differs is = absurd (differs refl)
    by (Redirect cell) differs is = ap (λ w. or_next w (chain_verdict_of rules packet queue)) is
    by Bounce differs is = ap (λ w. or_next w (chain_verdict_of rules packet queue)) is
one_chain_verdict (rule ∷ rules) packet queue verdict exact (inr (passes, later)) =
    let both = and_parts (is_exact rule) (are_exact rules) exact in
    one_chain_verdict rules packet queue verdict both.1 later
    ∙ ap (λ w. or_next w (chain_verdict_of rules packet queue)) (only_own rule packet queue Pass both.0 passes)
