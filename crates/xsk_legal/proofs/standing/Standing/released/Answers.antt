use Rattle.std.proofs.Common.{◌≡◌, ℕ, ◌-◌}
use Rattle.xsk_model.specs.Rings.{place}
use Rattle.xsk_model.specs.Entry.{with_told}
use Rattle.xsk_model.specs.declared.call.Call.TheVariants.{Release}
use Rattle.xsk_model.specs.declared.call.Reply.TheVariants.{Released}
use Rattle.xsk_legal.specs.Standing.{StandsFor}
use Rattle.std.proofs.Common.{sym, ap, subst, ◌∙◌}
use Rattle.xsk_legal.specs.declared.standing.Places.{Places}
use Rattle.xsk_legal.specs.Noted.{Noted}
use Rattle.xsk_legal.specs.Standing.{places_at, with_places}
use Rattle.xsk_legal.proofs.Rooms.{released_stands}
use Rattle.xsk_legal.proofs.standing.Standing.released.Goals as goal

pub returns-clause-stands : goal.returns-clause-stands
returns-clause-stands c = λ mine h legal.
    let config = c.args.config.now in
    let kept = c.args.self.now in
    let at : c.places_at-room.result ≡ places_at kept (place config c.args.ring) = c.places_at-room.ensures ∙ ap (places_at kept) c.ring_place-place.ensures.value in
    let p : Places = record { room = c.places_at-room.result.room; held = c.places_at-room.result.held - c.args.n } in
    let now : c.put_places.new.self ≡ with_places kept (place config c.args.ring) p =
    c.put_places.ensures ∙ ap (λ (i : ℕ). with_places kept i p) c.ring_place-place.ensures.value in
    subst (λ (k : Noted). StandsFor config k (with_told mine (Release c.args.ring c.args.n) Released)) (sym now)
    (released_stands config kept mine c.args.ring c.args.n p h legal (ap (λ (q : Places). q.room) at) (ap (λ (q : Places). q.held - c.args.n) at))
