use Rattle.std.proofs.Common.{ℕ, Some, None, length, get_or, ap, ◌∙◌, arith, length-take, get_or-set_other}
use Rattle.std.proofs.lemmas.List.{length-set, length-map, take_all}
use Rattle.xsk_umem.specs.Frame.{Frame}
use Rattle.xsk_umem.specs.Frames.{Frames}
use Rattle.xsk_table.proofs.Rows.{any_default}
use Rattle.xsk_table.proofs.Deals.{back_more}
use Rattle.xsk_table.proofs.shared.move_back.Goals as goal

pub put_back-requires : goal.put_back-requires
put_back-requires c = let f = c.requires in
    omega (arith, ap length (c.loop-place.invariant.frames f.0 f.1), length-take c.loop-place.place f.0, c.loop-place.invariant.limit, f.3, c.loop-place-test.true, c.len-place-end.ensures, ap length f.1, length-map f.0 (λ (g : Frame). Some g))

pub loop-place-preserved : goal.loop-place-preserved
loop-place-preserved c =
    let inv = c.loop-place.invariant in
    let p : ℕ = c.loop-place.place in
    record {
      limit = ap (λ (q : Frames). q.limit) c.put_back.ensures ∙ inv.limit;
      frames = λ fs is. back_more fs _ _ _ p (omega (arith, c.loop-place-test.true, c.len-place-end.ensures, ap length is, length-map fs (λ (g : Frame). Some g))) (inv.frames fs is)
          (c.take.ensures.value ∙ c.index_mut.ensures.value ∙ any_default c.loop-place.slots.items p _ None (omega (arith, c.loop-place-test.true, c.len-place-end.ensures, inv.len)) ∙ inv.slots p (omega arith) ∙ ap (λ l. get_or l p None) is) (ap (λ (q : Frames). q.items) c.put_back.ensures);
      len = length-set c.loop-place.slots.items p _ ∙ inv.len;
      slots = λ w le. get_or-set_other c.loop-place.slots.items p w _ None (λ e. omega arith) ∙ inv.slots w (omega arith);
    }

pub returns : goal.returns
returns c fs is =
    let inv = c.loop-place.invariant in
    let items = inv.frames fs is ∙ take_all c.loop-place.place fs (omega (arith, c.loop-place-test.false, c.len-place-end.ensures, ap length is, length-map fs (λ (g : Frame). Some g))) in
    λ i. record { items = items i; limit = inv.limit i }
