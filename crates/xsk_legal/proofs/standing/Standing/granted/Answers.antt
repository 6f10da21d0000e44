use Rattle.std.proofs.Common.{rules, ◌≡◌, ◌+◌, ◌^◌, ◌<◌, ℕ}
use Rattle.xsk_model.specs.Rings.{place}
use Rattle.xsk_model.specs.Entry.{with_told}
use Rattle.xsk_model.specs.declared.call.Call.TheVariants.{Reserve}
use Rattle.xsk_model.specs.declared.call.Reply.TheVariants.{Granted}
use Rattle.xsk_legal.specs.Standing.{StandsFor}
use Rattle.std.proofs.Common.{sym, ap, subst, ◌∙◌, arith}
use Rattle.xsk_legal.specs.declared.standing.Places.{Places}
use Rattle.xsk_legal.specs.Noted.{Noted}
use Rattle.xsk_legal.specs.Standing.{places_at, with_places}
use Rattle.xsk_legal.proofs.Rooms.{granted_stands}
use Rattle.xsk_legal.proofs.standing.Standing.granted.Goals as goal

pub overflow_add-room : goal.overflow_add-room
overflow_add-room c =
    let at : c.places_at-room.result ≡ places_at c.args.self.now (place c.args.config.now c.args.ring) = c.places_at-room.ensures ∙ ap (places_at c.args.self.now) c.ring_place-place.ensures.value in
    let few : c.places_at-room.result.room + c.args.n < 2 ^ 32 = omega (arith, c.requires.few, ap (λ (p : Places). p.room) at) in
    search rules

pub returns-clause-stands : goal.returns-clause-stands
returns-clause-stands c = λ mine h gift.
    let config = c.args.config.now in
    let kept = c.args.self.now in
    let at : c.places_at-room.result ≡ places_at kept (place config c.args.ring) = c.places_at-room.ensures ∙ ap (places_at kept) c.ring_place-place.ensures.value in
    let p : Places = record { room = c.places_at-room.result.room + c.args.n; held = c.places_at-room.result.held } in
    let now : c.put_places.new.self ≡ with_places kept (place config c.args.ring) p =
    c.put_places.ensures ∙ ap (λ (i : ℕ). with_places kept i p) c.ring_place-place.ensures.value in
    subst (λ (k : Noted). StandsFor config k (with_told mine (Reserve c.args.ring c.args.n) Granted)) (sym now)
    (granted_stands config kept mine c.args.ring c.args.n p h gift (ap (λ (q : Places). q.room + c.args.n) at) (ap (λ (q : Places). q.held) at))
