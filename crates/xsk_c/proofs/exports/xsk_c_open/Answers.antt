use Rattle.std.proofs.Common.{inl, refl, sym, ap, subst, ◌∙◌, arith}
use Rattle.xsk_c.specs.Opened.{IsOpened}
use Rattle.xsk_c.specs.declared.handle.Handle.{Handle}
use Rattle.xsk_c.specs.declared.opening.Refusal.TheVariants as refusal
use Rattle.xsk_c.specs.declared.state.State.{State}
use Rattle.xsk_c.proofs.exports.xsk_c_open.Goals as goal

pub returns-in_default-new : goal.returns-in_default-new
returns-in_default-new c = record {
  live = λ yes.
      let no : ⊥ = cc (yes, c.in_default.ensures.1) in
      absurd no;
  fault = λ shut why is.
      let no : ⊥ = cc (c.in-Ok.ensures.fault why is) in
      absurd no;
  why = λ shut none. (refusal.OutOfMemory, refl, inl (inl (inl refl)));
  opened = λ done. absurd (omega (arith, done));
  refused = λ none. record { live = ap (λ (h : Handle). h.live) c.in_default.ensures.0; state = ap (λ (h : Handle). h.state) c.in_default.ensures.0 };
}

pub returns : goal.returns
returns c = record {
  live = λ yes.
      let no : ⊥ = cc (yes, c.in_default.ensures.1) in
      absurd no;
  fault = λ shut why is.
      let no : ⊥ = cc (c.in-Ok.ensures.fault why is) in
      absurd no;
  why = λ shut none. absurd (none refl);
  opened = λ done. (
    c.in_default.ensures.1,
    c.put-2.ensures.0,
    subst (λ (x : State). IsOpened c.args.wanted.now c.args.text.now c.args.ends.now x) (sym (c.put-2.ensures.1 ∙ c.in-Ok-new.ensures.ok)) c.in-Ok.ensures.opened,
  );
  refused = λ none. absurd (none refl);
}
