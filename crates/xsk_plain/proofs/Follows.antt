-- The steps on what the engine keeps are those of the object in each state that it shows.
use Rattle.std.proofs.Common.{◌≡◌, ℕ, ◌+◌, ◌-◌, ◌≤◌, Bool, true, false, cond, nat_le, Option, Some, None, List, [], ◌∷◌, length, get_or, set, take, drop, map, refl, sym, ap, ◌∙◌, arith, length-append, length-drop, suc, zero}
use Rattle.std.proofs.lemmas.List.{map-set}
use Rattle.xsk_umem.specs.declared.batch.Item.{Item}
use Rattle.xsk_model.specs.Config.{Config, size_of}
use Rattle.xsk_model.specs.Rings.{place}
use Rattle.xsk_model.specs.Object.{RingState, State, after, empty_ring, ring_at, free, reserve_reply, peek_reply, reply_at, call_ring, ring_after, rings_after, marks_after}
use Rattle.xsk_model.specs.declared.call.Ring.{Ring}
use Rattle.xsk_model.specs.declared.call.Call.{Call}
use Rattle.xsk_model.specs.declared.call.Call.TheVariants.{Reserve, Submit, Peek, Release, Swap, Look}
use Rattle.xsk_model.specs.declared.call.Reply.{Reply}
use Rattle.xsk_model.specs.declared.call.Reply.TheVariants.{Granted, Full, Items, Empty}
use Rattle.xsk_plain.specs.Engine.{Part, Engine, no_part, seen, Shows, part_in}
use Rattle.xsk_plain.specs.Steps.{part_after, parts_after, reply_to, FollowsObject}
use Rattle.xsk_plain.proofs.Openings.{seen_at}
use Rattle.xsk_plain.proofs.StoreSteps.{reserve_yes, reserve_no}

seen-cond : (b : Bool) (x y : RingState) → seen (cond b x y) ≡ cond b (seen x) (seen y)
seen-cond true x y = refl
seen-cond false x y = refl

-- what is kept of a ring after a call
seen_after : (size : ℕ) (ring : RingState) (call : Call) → seen (ring_after size ring call) ≡ part_after size (seen ring) call
seen_after size ring (Reserve r n) = seen-cond (nat_le n (free size ring)) (record ring { room = ring.room + n }) ring
seen_after size ring (Submit r items) = refl
seen_after size ring (Peek r n) =
    ap (λ k. record { out = drop n ring.out; held = k; room = ring.room }) (length-append ring.held (take n ring.out))
seen_after size ring (Release r n) = ap (λ k. record { out = ring.out; held = k; room = ring.room }) (length-drop n ring.held)
seen_after size ring (Swap m value) = refl
seen_after size ring (Look m) = refl

rings_shown : (c : Config) (rings : List RingState) (parts : List Part) (r : Option Ring) (call : Call) → map seen rings ≡ parts → map seen (rings_after c rings r call) ≡ parts_after c parts r call
rings_shown c rings parts None call is = is
rings_shown c rings parts (Some r) call is =
    map-set seen rings (place c r) (ring_after (size_of c r) (get_or rings (place c r) empty_ring) call)
    ∙ ap (set (map seen rings) (place c r)) (seen_after (size_of c r) (get_or rings (place c r) empty_ring) call)
    ∙ ap (λ (p : Part). set (map seen rings) (place c r) (part_after (size_of c r) p call)) (sym (seen_at rings (place c r)))
    ∙ ap (λ (ps : List Part). set ps (place c r) (part_after (size_of c r) (get_or ps (place c r) no_part) call)) is

pub part_shown : (c : Config) (s : State) (parts : List Part) (r : Ring) → map seen s.rings ≡ parts → part_in c parts r ≡ seen (ring_at c s r)
part_shown c s parts r is = ap (λ (ps : List Part). get_or ps (place c r) no_part) (sym is) ∙ seen_at s.rings (place c r)

reply_shown : (c : Config) (s : State) (engine : Engine) (call : Call) → Shows engine s → reply_to c engine.rings engine.marks call ≡ reply_at c s call
reply_shown c s engine (Reserve r n) shows =
    ap (λ (p : Part). reserve_reply n (size_of c r - length p.out - p.held - p.room)) (part_shown c s engine.rings r shows.rings)
reply_shown c s engine (Submit r items) shows = refl
reply_shown c s engine (Peek r n) shows = ap (λ (p : Part). peek_reply n p.out) (part_shown c s engine.rings r shows.rings)
reply_shown c s engine (Release r n) shows = refl
reply_shown c s engine (Swap m value) shows = ap (λ (marks : List ℕ). reply_to c engine.rings marks (Swap m value)) (sym shows.marks)
reply_shown c s engine (Look m) shows = ap (λ (marks : List ℕ). reply_to c engine.rings marks (Look m)) (sym shows.marks)

pub follows : (old new : Engine) (who : ℕ) (call : Call) (answer : Reply)
    → new.rings ≡ parts_after old.config old.rings (call_ring call) call → new.marks ≡ marks_after old.config old.marks call
    → answer ≡ reply_to old.config old.rings old.marks call
    → FollowsObject old new who call answer
follows old new who call answer rings marks reply = record {
  reply = λ s shows. reply ∙ reply_shown old.config s old call shows;
  state = λ s shows. record {
    rings = rings_shown old.config s.rings old.rings (call_ring call) call shows.rings ∙ sym rings;
    marks = ap (λ (ms : List ℕ). marks_after old.config ms call) shows.marks ∙ sym marks;
  };
}

-- ---- replies

pub reply_granted : (n places : ℕ) → n ≤ places → Granted ≡ reserve_reply n places
reply_granted n places h = sym (reserve_yes n places Granted (Full places) h)

pub reply_full : (n places told : ℕ) → (n ≤ places → ⊥) → told ≡ places → Full told ≡ reserve_reply n places
reply_full n places told few is = ap Full is ∙ sym (reserve_no n places Granted (Full places) few)

pub reply_empty : (n : ℕ) (out items : List Item) → 1 ≤ n → items ≡ take n out → items ≡ [] → Empty ≡ peek_reply n out
reply_empty n [] items some is none = refl
reply_empty zero (item ∷ out) items some is none = absurd (omega arith)
reply_empty (suc n) (item ∷ out) items some is none = absurd (cc)

pub reply_items : (n : ℕ) (out items : List Item) → items ≡ take n out → (items ≡ [] → ⊥) → Items items ≡ peek_reply n out
reply_items zero [] items is some = absurd (some is)
reply_items (suc n) [] items is some = absurd (some is)
reply_items n (item ∷ out) items is some = ap Items is

-- ---- a call that is counted before it is made

counted : (old new : Engine) (n who : ℕ) (call : Call) (answer : Reply) → FollowsObject (record old { calls = n }) new who call answer → FollowsObject old new who call answer
counted old new n who call answer made = record {
  reply = λ s shows. made.reply s (record { rings = shows.rings; marks = shows.marks });
  state = λ s shows. made.state s (record { rings = shows.rings; marks = shows.marks });
}

-- `old` is told in other words: as what is seen of it, with what was asked and given in place of the call and its answer
module _ (old seen new : Engine) (n : ℕ) (call asked : Call) (answer given : Reply) (is : old ≡ seen) (asks : asked ≡ call) (gives : given ≡ answer)
    (made : (who : ℕ) → FollowsObject (record old { calls = n }) new who call answer) where
  told : (who : ℕ) → FollowsObject seen new who asked given
  told who = rw (← is, asks, gives) (counted old new n who call answer (made who))

  pub counted_reply : (s : State) → Shows seen s → given ≡ reply_at seen.config s asked
  counted_reply s shows = (told 0).reply s shows

  pub counted_state : (s : State) (who : ℕ) → Shows seen s → Shows new (after seen.config s who asked)
  counted_state s who shows = (told who).state s shows
