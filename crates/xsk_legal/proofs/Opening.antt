-- A new standing stands for no calls.
use Rattle.std.proofs.Common.{◌≡◌, ℕ, ◌<◌, ◌≤◌, false, List, [], ◌∷◌, ◌++◌, length, get_or, replicate, None, refl, sym, ap, subst, ◌∙◌, ⊎_elim, arith, length-append}
use Rattle.std.proofs.lemmas.Bool.{cases_lt, cases_eq}
use Rattle.std.proofs.lemmas.List.{get_or_push, get_or_past, get_or_append_left, get_or-replicate, length-replicate}
use Rattle.xsk_model.specs.Config.{Config, HasRing, callers_of}
use Rattle.xsk_model.specs.Rings.{place, places_of}
use Rattle.xsk_model.specs.declared.call.Ring.{Ring}
use Rattle.xsk_model.proofs.Places.{place_below}
use Rattle.xsk_legal.specs.declared.standing.Places.{Places}
use Rattle.xsk_legal.specs.declared.marked.Marked.{Marked}
use Rattle.xsk_legal.specs.Noted.{Queue, Noted}
use Rattle.xsk_legal.specs.Marked.{IsMarked}
use Rattle.xsk_legal.specs.Standing.{StandsFor, IsFresh, no_queue}
use Rattle.xsk_legal.proofs.Marks.{marks_none}

-- the queues that were made
abbrev pub AllFresh : Config → ℕ → List Queue → Type 0
AllFresh c who queues = (s : ℕ) → s < length queues → IsFresh c who s (get_or queues s no_queue)

pub fresh_push : (c : Config) (who socket : ℕ) (queues : List Queue) (queue : Queue) → length queues ≡ socket → IsFresh c who socket queue → AllFresh c who queues → AllFresh c who (queues ++ queue ∷ [])
fresh_push c who socket queues queue len now h s within = ⊎_elim
    (λ (e : s ≡ socket).
    subst (λ i. IsFresh c who i (get_or (queues ++ queue ∷ []) i no_queue)) (sym e) (subst (λ q. IsFresh c who socket q) (sym (get_or_push queues queue no_queue socket len)) now))
    (λ (e : s ≡ socket → ⊥).
    let before : s < length queues = omega (arith, within, e, len, length-append queues (queue ∷ [])) in
    subst (λ q. IsFresh c who s q) (sym (get_or_append_left queues (queue ∷ []) no_queue s before)) (h s before))
    (cases_eq s socket)

pub fresh_all : (c : Config) (who : ℕ) (queues : List Queue) → length queues ≡ length c.sockets → AllFresh c who queues → (s : ℕ) → IsFresh c who s (get_or queues s no_queue)
fresh_all c who queues len h s = ⊎_elim
    (λ (within : s < length queues). h s within)
    (λ (beyond : length queues ≤ s).
    subst (λ q. IsFresh c who s q) (sym (get_or_past queues s no_queue beyond)) (record { descs = refl; begun = refl; limit = λ has is. absurd (omega (arith, beyond, len, has.0)) }))
    (cases_lt s (length queues))

pub opened : (c : Config) (kept : Noted) (none : Places) → kept.marked ≡ record { lowered = replicate 64 false; closed = false; acked = false; seen = false; bounced = 0 } → none ≡ record { room = 0; held = 0 } → kept.who < callers_of c
    → kept.places ≡ replicate (places_of c) none → kept.sources ≡ replicate c.geometry.frames None → length kept.queues ≡ length c.sockets
    → ((s : ℕ) → IsFresh c kept.who s (get_or kept.queues s no_queue)) → StandsFor c kept []
opened c kept none marked zero who places sources len each =
    let at : (r : Ring) → HasRing c r → get_or kept.places (place c r) none ≡ none =
    λ r has. ap (λ ps. get_or ps (place c r) none) places ∙ get_or-replicate (places_of c) (place c r) none none (place_below c r has) in
    record {
      caller = who;
      own = tt;
      keeps = record {
        rings = ap length places ∙ length-replicate (places_of c) none;
        frames = ap length sources ∙ length-replicate c.geometry.frames None;
        sockets = len;
        limits = λ s has is. (each s).limit has is;
        room = λ r has. ap (λ (d : Places). (get_or kept.places (place c r) d).room) (sym zero) ∙ ap (λ (p : Places). p.room) (at r has) ∙ ap (λ (p : Places). p.room) zero;
        held = λ r has. ap (λ (d : Places). (get_or kept.places (place c r) d).held) (sym zero) ∙ ap (λ (p : Places). p.held) (at r has) ∙ ap (λ (p : Places). p.held) zero;
        sources = λ n below. ap (λ ss. get_or ss n None) sources ∙ get_or-replicate c.geometry.frames n None None below;
        descs = λ s has. (each s).descs;
        begun = λ s has. (each s).begun;
        marked = subst (λ (m : Marked). IsMarked c kept.who m []) (sym marked) (marks_none c kept.who);
      };
    }
