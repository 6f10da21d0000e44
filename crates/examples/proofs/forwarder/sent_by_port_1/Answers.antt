use Rattle.std.proofs.Common.{◌≡◌, ◌∙◌, ap, sym, arith, refl, inl, inr, Option, None, Some, IsSome, MatchOption}
use Rattle.std.proofs.lemmas.Option.{slice_get_within, get_or_from_slice_get}
use Rattle.xsk_sim.proofs.Seating.{each_at}
use Rattle.xsk_bench.specs.Played.{IsSeated}
use Rattle.examples.proofs.forwarder.sent_by_port_1.Goals as goal

there : {A : Type 0} (o : Option A) (X : Type 0) (Y : A → Type 0) → MatchOption o X Y → (X → ⊥) → IsSome o
there None X Y h never = absurd (never h)
there (Some x) X Y h never = refl

pub returns : goal.returns
returns c = record {
  there = λ s frames h seat played at few small.
      let items = c.args.bench.now.seats.items in
      let here : IsSeated s c.args.bench.now.room h 1 seat =
      each_at items 0 1 1 _ seat played.seats (slice_get_within items 1 seat at) (omega arith) (sym (get_or_from_slice_get items 1 seat seat at)) in
      let packets : seat.driver.sent.most_packets ≡ 16 = here.packets ∙ ap (λ r. r.packets) c.requires.room in
      let bytes : seat.driver.sent.most_bytes ≡ 4096 = here.bytes ∙ ap (λ r. r.bytes) c.requires.room in
      there c.sent.result _ _ (c.sent.ensures.sent s frames h seat played at) (λ over. elim over [ inl x ↦ omega (arith, x, packets, few) | inr x ↦ omega (arith, x, bytes, small) ]);
}
