use Rattle.std.proofs.Common.{◌≡◌, ℕ, List, length, ap, subst, sym, ◌∙◌}
use Rattle.xsk_umem.specs.Frame.{Frame}
use Rattle.xsk_umem.specs.Frames.{Frames}
use Rattle.xsk_model.specs.Opening.{AreFrames}
use Rattle.xsk_socket.specs.InPlace.{AreInPlace}
use Rattle.xsk_socket.proofs.AllFrames.{are_all, not_true}
use Rattle.xsk_socket.proofs.frames.all_frames.Goals as goal

pub returns-then-len-frames-clause-all : goal.returns-then-len-frames-clause-all
returns-then-len-frames-clause-all c = (
  λ yes. absurd (not_true yes),
  λ all. absurd (c.if-len-frames.true (c.len.ensures.value ∙ ((are_all c.args.geometry.now c.sort.new.self.items).1 all).1 ∙ sym c.frames.ensures.value)),
)

pub returns-clause-all : goal.returns-clause-all
returns-clause-all c =
    let geometry = c.args.geometry.now in
    let sorted : List Frame = c.sort.new.self.items in
    let same : c.are_in_place.new.frames.items ≡ sorted = ap (λ (q : Frames). q.items) c.are_in_place.ensures.same in
    let many : length sorted ≡ geometry.frames = sym c.len.ensures.value ∙ c.if-len-frames.false ∙ c.frames.ensures.value in (
      λ yes.
          let placed : AreInPlace geometry.chunk 0 sorted = subst (λ (n : ℕ). AreInPlace n 0 sorted) c.chunk.ensures.value (c.are_in_place.ensures.in_place.0 yes) in
          subst (AreFrames geometry) (sym same) ((are_all geometry sorted).0 (placed, many)),
      λ all.
          let placed : AreInPlace geometry.chunk 0 sorted = ((are_all geometry sorted).1 (subst (AreFrames geometry) same all)).0 in
          c.are_in_place.ensures.in_place.1 (subst (λ (n : ℕ). AreInPlace n 0 sorted) (sym c.chunk.ensures.value) placed),
    )
