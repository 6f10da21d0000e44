-- Programs that differ only in how often they were asked answer the same.
use Rattle.std.proofs.Common.{◌≡◌, inl, inr, ℕ, List, [], ◌∷◌, map, refl, sym, ap, subst, ◌∙◌}
use Rattle.std.specs.Fn.{Shared}
use denote.Ref.{Bor}
use Rattle.xsk_prog.specs.declared.rule.Rule.{Rule}
use Rattle.xsk_prog.specs.declared.rule.Verdict.{Verdict}
use Rattle.xsk_prog.specs.Program.{XdpProgram, unasked}
use Rattle.xsk_prog.specs.Chain.{AskedOnce, ChainAnswers, SamePrograms, rules_of}

module _ {F : Type 0} (g : Shared F (Bor (List ℕ) × (ℕ × Unit {0})) Verdict) (packet : List ℕ) (queue : ℕ) (verdict : Verdict) where
  -- a chain that was asked has the same programs
  pub same_once : (before after : List (XdpProgram F)) → AskedOnce g packet queue verdict before after → SamePrograms before after
  same_once [] after (_, none) = ap (map unasked) none
  same_once (program ∷ later) [] h = absurd h
  same_once (program ∷ later) (first ∷ rest) (counted, inl (_, _, stays)) = ap (λ p. unasked p ∷ map unasked rest) counted ∙ ap (λ ps. unasked program ∷ map unasked ps) stays
  same_once (program ∷ later) (first ∷ rest) (counted, inr (_, asked)) =
      ap (λ p. unasked p ∷ map unasked rest) counted ∙ ap (λ ps. unasked program ∷ ps) (same_once later rest asked)

  answers_unasked : (programs : List (XdpProgram F)) → ChainAnswers g programs packet queue verdict → ChainAnswers g (map unasked programs) packet queue verdict
  answers_unasked [] h = h
  answers_unasked (program ∷ later) (inl h) = inl h
  answers_unasked (program ∷ later) (inr (passes, h)) = inr (passes, answers_unasked later h)

  unasked_answers : (programs : List (XdpProgram F)) → ChainAnswers g (map unasked programs) packet queue verdict → ChainAnswers g programs packet queue verdict
  unasked_answers [] h = h
  unasked_answers (program ∷ later) (inl h) = inl h
  unasked_answers (program ∷ later) (inr (passes, h)) = inr (passes, unasked_answers later h)

  pub same_answers : (before after : List (XdpProgram F)) → SamePrograms before after → ChainAnswers g after packet queue verdict → ChainAnswers g before packet queue verdict
  same_answers before after same h = unasked_answers before (subst (λ ps. ChainAnswers g ps packet queue verdict) same (answers_unasked after h))

rules_unasked : {F : Type 0} (programs : List (XdpProgram F)) → rules_of (map unasked programs) ≡ rules_of programs
rules_unasked [] = refl
rules_unasked (program ∷ later) = ap (λ (rules : List Rule). program.rule ∷ rules) (rules_unasked later)

pub same_rules : {F : Type 0} (before after : List (XdpProgram F)) → SamePrograms before after → rules_of after ≡ rules_of before
same_rules before after same = sym (rules_unasked after) ∙ ap rules_of same ∙ rules_unasked before
