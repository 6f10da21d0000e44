-- What a standing keeps after a Reserve that was granted, and after a Release.
use Rattle.std.proofs.Common.{◌≡◌, ℕ, ◌+◌, ◌-◌, ◌<◌, ◌≤◌, Bool, true, false, cond, List, [], ◌∷◌, ◌++◌, length, get_or, set, nat_lt, None, map, refl, sym, ap, ◌∙◌, arith, length-set}
use Rattle.xsk_model.specs.Config.{Config, HasRing}
use Rattle.xsk_model.specs.Packets.{rest}
use Rattle.xsk_model.specs.Numbers.{times, numbers}
use Rattle.xsk_model.specs.Rings.{is_ring, place}
use Rattle.xsk_model.specs.Object.{call_ring, submitted, taken}
use Rattle.xsk_model.specs.Entry.{Told, with_told}
use Rattle.xsk_model.specs.Own.{is_on, room_of, held_of, room_step, held_step, tx_work_of, tx_work_after}
use Rattle.xsk_model.specs.Legal.{IsLegal}
use Rattle.xsk_model.specs.History.{MayGive}
use Rattle.xsk_model.specs.declared.call.Ring.{Ring}
use Rattle.xsk_model.specs.declared.call.Call.TheVariants.{Reserve, Release}
use Rattle.xsk_model.specs.declared.call.Reply.TheVariants.{Granted, Released}
use Rattle.xsk_model.proofs.Places.{get_or-set-place, place_below, is_ring-true, is_ring-self}
use Rattle.xsk_model.proofs.Folds.{part_of-push, part_of-push_same}
use Rattle.xsk_model.proofs.Sendings.{tx_work_of-push}
use Rattle.xsk_legal.specs.declared.standing.Places.{Places}
use Rattle.xsk_legal.specs.Noted.{Noted}
use Rattle.xsk_legal.specs.Standing.{with_places, StandsFor, Keeps, places_at, source_of, uncompleted, desc_of, none_back}
use Rattle.xsk_legal.proofs.Sources.{source_of-push}
use Rattle.xsk_legal.proofs.Marks.{SameMarks, same_told, marks_same}
use Rattle.xsk_legal.proofs.Going.{gift_goes, gift_legal, room_few}
use Rattle.xsk_model.proofs.OwnRuns.{own_push}

-- a call that moves no frame
module _ (c : Config) (kept : Noted) (mine : List Told) (t : Told) (r : Ring) (p : Places) where
  pub keeps_quiet : HasRing c r → submitted t.call ≡ [] → taken t.reply ≡ [] → ((u : Ring) → is_on u t.call ≡ is_ring u r)
      → ((s : ℕ) → tx_work_after c s (tx_work_of c s mine) t.call t.reply ≡ tx_work_of c s mine)
      → SameMarks mine (mine ++ t ∷ [])
      → Keeps c kept mine mine none_back
      → p.room ≡ room_step (places_at kept (place c r)).room t
      → p.held ≡ held_step (places_at kept (place c r)).held t
      → Keeps c (with_places kept (place c r) p) (mine ++ t ∷ []) (mine ++ t ∷ []) none_back
  keeps_quiet has given got on still same h room held =
      let within : place c r < length kept.places = omega (arith, h.rings, place_below c r has) in
      let none : Places = record { room = 0; held = 0 } in
      let at : (u : Ring) → HasRing c u → get_or (set kept.places (place c r) p) (place c u) none ≡ cond (is_ring u r) p (get_or kept.places (place c u) none) =
      λ u k. get_or-set-place c kept.places u r p none k has (same_length u k) in
      record {
        rings = length-set kept.places (place c r) p ∙ h.rings;
        frames = h.frames;
        sockets = h.sockets;
        limits = h.limits;
        room = λ u k.
            ap (λ (q : Places). q.room) (at u k)
            ∙ both_room u (is_ring u r) refl (h.room u k)
            ∙ ap (λ b. cond b (room_step (room_of u mine) t) (room_of u mine)) (sym (on u))
            ∙ sym (part_of-push room_step u 0 mine t);
        held = λ u k.
            ap (λ (q : Places). q.held) (at u k)
            ∙ both_held u (is_ring u r) refl (h.held u k)
            ∙ ap (λ b. cond b (held_step (held_of u mine) t) (held_of u mine)) (sym (on u))
            ∙ sym (part_of-push held_step u 0 mine t);
        sources = λ n k. h.sources n k ∙ sym (same_source n);
        descs = λ s k. h.descs s k ∙ ap (λ u. map desc_of (uncompleted c u)) (sym (tx_work_of-push c s mine t ∙ still s));
        begun = λ s k. h.begun s k ∙ ap (λ u. length (rest c.geometry c.sg u.peeked)) (sym (tx_work_of-push c s mine t ∙ still s));
        marked = marks_same c kept.who kept.marked mine (mine ++ t ∷ []) same h.marked;
      }
    where
      same_source : (n : ℕ) → source_of n (mine ++ t ∷ []) ≡ source_of n mine
      same_source n =
          source_of-push n mine t
          ∙ ap (λ items. cond (nat_lt 0 (times n (numbers items))) (call_ring t.call) (cond (nat_lt 0 (times n (numbers (submitted t.call)))) None (source_of n mine))) got
          ∙ ap (λ items. cond (nat_lt 0 (times n (numbers items))) None (source_of n mine)) given

      same_length : (u : Ring) → HasRing c u → place c u < length kept.places
      same_length u k = omega (arith, h.rings, place_below c u k)

      both_room : (u : Ring) (b : Bool) → is_ring u r ≡ b → (places_at kept (place c u)).room ≡ room_of u mine
          → (cond b p (places_at kept (place c u))).room ≡ cond b (room_step (room_of u mine) t) (room_of u mine)
      both_room u true e now =
          let one : u ≡ r = is_ring-true u r e in
          room ∙ ap (λ (q : Ring). room_step (places_at kept (place c q)).room t) (sym one) ∙ ap (λ n. room_step n t) now
      both_room u false e now = now

      both_held : (u : Ring) (b : Bool) → is_ring u r ≡ b → (places_at kept (place c u)).held ≡ held_of u mine
          → (cond b p (places_at kept (place c u))).held ≡ cond b (held_step (held_of u mine) t) (held_of u mine)
      both_held u true e now =
          let one : u ≡ r = is_ring-true u r e in
          held ∙ ap (λ (q : Ring). held_step (places_at kept (place c q)).held t) (sym one) ∙ ap (λ n. held_step n t) now
      both_held u false e now = now

-- ---- a Reserve that was granted

module _ (c : Config) (kept : Noted) (mine : List Told) (r : Ring) (n : ℕ) where
  pub granted_stands : (p : Places) → StandsFor c kept mine → MayGive c mine kept.who (Reserve r n) Granted
      → p.room ≡ (places_at kept (place c r)).room + n → p.held ≡ (places_at kept (place c r)).held
      → StandsFor c (with_places kept (place c r) p) (with_told mine (Reserve r n) Granted)
  granted_stands p h gift room held = record {
    caller = h.caller;
    own = gift_goes c mine kept.who (Reserve r n) Granted gift;
    keeps = keeps_quiet c kept mine (record { call = Reserve r n; reply = Granted }) r p (gift_legal c mine kept.who (Reserve r n) Granted gift).known refl refl (λ u. refl) (λ s. refl)
        (same_told mine (record { call = Reserve r n; reply = Granted }) (λ m b. refl) (λ m b. refl)) h.keeps
        (omega (arith, room)) (omega (arith, held));
  }

  pub granted_ring : MayGive c mine kept.who (Reserve r n) Granted → HasRing c r
  granted_ring gift = (gift_legal c mine kept.who (Reserve r n) Granted gift).known

  pub granted_few : StandsFor c kept mine → MayGive c mine kept.who (Reserve r n) Granted → (places_at kept (place c r)).room + n ≤ 2048
  granted_few h gift =
      let legal = gift_legal c mine kept.who (Reserve r n) Granted gift in
      let now : room_of r (with_told mine (Reserve r n) Granted) ≡ room_of r mine + n - 0 =
      part_of-push_same room_step r 0 mine (record { call = Reserve r n; reply = Granted }) (is_ring-self r) in
      omega (arith, now, h.keeps.room r legal.known, room_few c mine kept.who (Reserve r n) Granted gift r legal.known legal.role)

-- ---- a Release

module _ (c : Config) (kept : Noted) (mine : List Told) (r : Ring) (n : ℕ) where
  pub released_stands : (p : Places) → StandsFor c kept mine → IsLegal c mine kept.who (Release r n)
      → p.room ≡ (places_at kept (place c r)).room → p.held ≡ (places_at kept (place c r)).held - n
      → StandsFor c (with_places kept (place c r) p) (with_told mine (Release r n) Released)
  released_stands p h legal room held = record {
    caller = h.caller;
    own = own_push c kept.who [] mine (record { call = Release r n; reply = Released }) h.own legal tt;
    keeps = keeps_quiet c kept mine (record { call = Release r n; reply = Released }) r p legal.known refl refl (λ u. refl) (λ s. refl)
        (same_told mine (record { call = Release r n; reply = Released }) (λ m b. refl) (λ m b. refl)) h.keeps
        (omega (arith, room)) (omega (arith, held));
  }

  pub released_held : StandsFor c kept mine → IsLegal c mine kept.who (Release r n) → n ≤ (places_at kept (place c r)).held
  released_held h legal = omega (arith, legal.counted.2, h.keeps.held r legal.known)
