-- Histories that are alike but for the bytes of frames: they leave states that are alike, and their calls get replies that
-- are alike.
use Rattle.std.proofs.Common.{◌≡◌, ℕ, zero, suc, ◌+◌, ◌-◌, ◌*◌, ◌==◌, nat_le, Bool, true, false, cond, List, [], ◌∷◌, ◌++◌, length, take, drop, map, replicate, set, get_or, Option, Some, None, refl, sym, ap, ◌∙◌}
use Rattle.std.proofs.lemmas.List.{length-map, map-append, take-map, drop-map, map-set}
use Rattle.std.proofs.Math.ListN.{get_or-map}
use Rattle.xsk_umem.specs.Frame.{Frame}
use Rattle.xsk_umem.specs.Geometry.{Geometry}
use Rattle.xsk_umem.specs.declared.batch.Item.{Item}
use Rattle.xsk_model.specs.Config.{Config, size_of, pool_of}
use Rattle.xsk_model.specs.Rings.{place}
use Rattle.xsk_model.specs.Numbers.{numbers, without}
use Rattle.xsk_model.specs.Object.{RingState, State, empty_ring, ring_at, had_by, had_after, free, reserve_reply, peek_reply, reply_at, call_ring, ring_after, rings_after, marks_after, after, submitted, taken}
use Rattle.xsk_model.specs.Entry.{Told, Entry, told, own}
use Rattle.xsk_model.specs.History.{after_all, IsHistory, state_after}
use Rattle.xsk_model.specs.Opening.{AreFrames, IsOpened, home_item, home_ring, home_rings, opening}
use Rattle.xsk_model.specs.OtherWords.{bare_frame, bare_item, bare_call, bare_reply, bare}
use Rattle.xsk_model.specs.declared.call.Ring.{Ring}
use Rattle.xsk_model.specs.declared.call.Call.{Call}
use Rattle.xsk_model.specs.declared.call.Call.TheVariants.{Reserve, Submit, Peek, Release, Swap, Look}
use Rattle.xsk_model.specs.declared.call.Reply.{Reply}
use Rattle.xsk_model.specs.declared.call.Reply.TheVariants.{Granted, Full, Items}
use Rattle.xsk_model.proofs.Bodies.{bare_items, numbers-bare, submitted-bare, taken-bare}

abbrev pub bare_entry : Entry → Entry
bare_entry e = record { who = e.who; call = bare_call e.call; reply = bare_reply e.reply }

abbrev pub bare_ring : RingState → RingState
bare_ring ring = record { out = bare_items ring.out; held = bare_items ring.held; room = ring.room }

abbrev pub bare_state : State → State
bare_state s = record { rings = map bare_ring s.rings; marks = s.marks; had = s.had }

-- ---- own entries

own-cond : (b : Bool) (e : Entry) (mine other : List Told) → map bare mine ≡ other
    → map bare (cond b (told e ∷ mine) mine) ≡ cond b (told (bare_entry e) ∷ other) other
own-cond true e mine other h = ap (λ l. bare (told e) ∷ l) h
own-cond false e mine other h = h

own-bare : (who : ℕ) (h : List Entry) → map bare (own who h) ≡ own who (map bare_entry h)
own-bare who [] = refl
own-bare who (e ∷ es) = own-cond (e.who == who) e (own who es) (own who (map bare_entry es)) (own-bare who es)

pub own-alike : (who : ℕ) (h other : List Entry) → map bare_entry h ≡ map bare_entry other → map bare (own who h) ≡ map bare (own who other)
own-alike who h other same = own-bare who h ∙ ap (own who) same ∙ sym (own-bare who other)

-- ---- replies

ring-bare : (c : Config) (s : State) (r : Ring) → ring_at c (bare_state s) r ≡ bare_ring (ring_at c s r)
ring-bare c s r = get_or-map bare_ring s.rings (place c r) empty_ring

free-bare : (size : ℕ) (ring : RingState) → free size (bare_ring ring) ≡ free size ring
free-bare size ring =
    ap (λ n. size - n - length (bare_items ring.held) - ring.room) (length-map ring.out bare_item)
    ∙ ap (λ n. size - length ring.out - n - ring.room) (length-map ring.held bare_item)

reserve-bare : (n places : ℕ) → bare_reply (reserve_reply n places) ≡ reserve_reply n places
reserve-bare n places = by (nat_le n places)
  where
    by : (b : Bool) → bare_reply (cond b Granted (Full places)) ≡ cond b Granted (Full places)
    by true = refl
    by false = refl

peek-bare : (n : ℕ) (out : List Item) → bare_reply (peek_reply n out) ≡ peek_reply n (bare_items out)
peek-bare n [] = refl
peek-bare n (item ∷ out) = ap Items (sym (take-map bare_item n (item ∷ out)))

pub reply-bare : (c : Config) (s : State) (call : Call) → bare_reply (reply_at c s call) ≡ reply_at c (bare_state s) (bare_call call)
reply-bare c s (Reserve r n) =
    reserve-bare n (free (size_of c r) (ring_at c s r))
    ∙ ap (reserve_reply n) (sym (free-bare (size_of c r) (ring_at c s r)) ∙ ap (free (size_of c r)) (sym (ring-bare c s r)))
reply-bare c s (Submit r items) = refl
reply-bare c s (Peek r n) = peek-bare n (ring_at c s r).out ∙ ap (λ (ring : RingState). peek_reply n ring.out) (sym (ring-bare c s r))
reply-bare c s (Release r n) = refl
reply-bare c s (Swap m value) = refl
reply-bare c s (Look m) = refl

-- ---- states

room-cond : (b : Bool) (ring : RingState) (n : ℕ)
    → bare_ring (cond b (record ring { room = ring.room + n }) ring) ≡ cond b (record (bare_ring ring) { room = ring.room + n }) (bare_ring ring)
room-cond true ring n = refl
room-cond false ring n = refl

ring_after-bare : (size : ℕ) (ring : RingState) (call : Call) → bare_ring (ring_after size ring call) ≡ ring_after size (bare_ring ring) (bare_call call)
ring_after-bare size ring (Reserve r n) =
    room-cond (nat_le n (free size ring)) ring n
    ∙ ap (λ k. cond (nat_le n k) (record (bare_ring ring) { room = ring.room + n }) (bare_ring ring)) (sym (free-bare size ring))
ring_after-bare size ring (Submit r items) =
    ap (λ (out : List Item). record { out = out; held = bare_items ring.held; room = ring.room - length items }) (map-append bare_item ring.out items)
    ∙ ap (λ (n : ℕ). record { out = bare_items ring.out ++ bare_items items; held = bare_items ring.held; room = ring.room - n }) (sym (length-map items bare_item))
ring_after-bare size ring (Peek r n) =
    ap (λ (held : List Item). record { out = bare_items (drop n ring.out); held = held; room = ring.room }) (map-append bare_item ring.held (take n ring.out))
    ∙ ap (λ (out : List Item). record { out = out; held = bare_items ring.held ++ bare_items (take n ring.out); room = ring.room }) (sym (drop-map bare_item n ring.out))
    ∙ ap (λ (more : List Item). record { out = drop n (bare_items ring.out); held = bare_items ring.held ++ more; room = ring.room }) (sym (take-map bare_item n ring.out))
ring_after-bare size ring (Release r n) =
    ap (λ (held : List Item). record { out = bare_items ring.out; held = held; room = ring.room }) (sym (drop-map bare_item n ring.held))
ring_after-bare size ring (Swap m value) = refl
ring_after-bare size ring (Look m) = refl

rings-bare : (c : Config) (rings : List RingState) (on : Option Ring) (call : Call)
    → map bare_ring (rings_after c rings on call) ≡ rings_after c (map bare_ring rings) on (bare_call call)
rings-bare c rings None call = refl
rings-bare c rings (Some r) call =
    map-set bare_ring rings (place c r) (ring_after (size_of c r) (get_or rings (place c r) empty_ring) call)
    ∙ ap (set (map bare_ring rings) (place c r))
    (ring_after-bare (size_of c r) (get_or rings (place c r) empty_ring) call
    ∙ ap (λ (ring : RingState). ring_after (size_of c r) ring (bare_call call)) (sym (get_or-map bare_ring rings (place c r) empty_ring)))

call_ring-bare : (call : Call) → call_ring (bare_call call) ≡ call_ring call
call_ring-bare (Reserve r n) = refl
call_ring-bare (Submit r items) = refl
call_ring-bare (Peek r n) = refl
call_ring-bare (Release r n) = refl
call_ring-bare (Swap m value) = refl
call_ring-bare (Look m) = refl

marks-bare : (c : Config) (marks : List ℕ) (call : Call) → marks_after c marks (bare_call call) ≡ marks_after c marks call
marks-bare c marks (Reserve r n) = refl
marks-bare c marks (Submit r items) = refl
marks-bare c marks (Peek r n) = refl
marks-bare c marks (Release r n) = refl
marks-bare c marks (Swap m value) = refl
marks-bare c marks (Look m) = refl

had-bare : (had : List ℕ) (call : Call) (reply : Reply) → had_after had (bare_call call) (bare_reply reply) ≡ had_after had call reply
had-bare had call reply =
    ap (λ items. without (numbers items) had ++ numbers (taken (bare_reply reply))) (submitted-bare call)
    ∙ ap (λ ns. without ns had ++ numbers (taken (bare_reply reply))) (numbers-bare (submitted call))
    ∙ ap (λ items. without (numbers (submitted call)) had ++ numbers items) (taken-bare reply)
    ∙ ap (λ ns. without (numbers (submitted call)) had ++ ns) (numbers-bare (taken reply))

pub after-bare : (c : Config) (s : State) (who : ℕ) (call : Call) → bare_state (after c s who call) ≡ after c (bare_state s) who (bare_call call)
after-bare c s who call =
    let rings : map bare_ring (rings_after c s.rings (call_ring call) call) ≡ rings_after c (map bare_ring s.rings) (call_ring (bare_call call)) (bare_call call) =
    rings-bare c s.rings (call_ring call) call ∙ ap (λ on. rings_after c (map bare_ring s.rings) on (bare_call call)) (sym (call_ring-bare call)) in
    let marks = sym (marks-bare c s.marks call) in
    let had : had_after (had_by s who) call (reply_at c s call) ≡ had_after (had_by s who) (bare_call call) (reply_at c (bare_state s) (bare_call call)) =
    sym (had-bare (had_by s who) call (reply_at c s call)) ∙ ap (had_after (had_by s who) (bare_call call)) (reply-bare c s call) in
    λ i. record { rings = rings i; marks = marks i; had = set s.had who (had i) }

after_all-bare : (c : Config) (s : State) (h : List Entry) → bare_state (after_all c s h) ≡ after_all c (bare_state s) (map bare_entry h)
after_all-bare c s [] = refl
after_all-bare c s (e ∷ es) =
    after_all-bare c (after c s e.who e.call) es ∙ ap (λ (t : State). after_all c t (map bare_entry es)) (after-bare c s e.who e.call)

-- ---- the opening

items-home : (g : Geometry) (frames : List Frame) → bare_items (map (home_item g) frames) ≡ map (home_item g) (map bare_frame frames)
items-home g [] = refl
items-home g (f ∷ frames) = ap (λ (l : List Item). home_item g (bare_frame f) ∷ l) (items-home g frames)

home-bare : (g : Geometry) (pool pairs : ℕ) (frames : List Frame) → map bare_ring (home_rings g pool pairs frames) ≡ home_rings g pool pairs (map bare_frame frames)
home-bare g pool zero frames = refl
home-bare g pool (suc pairs) frames =
    ap (λ (out : List Item). record { out = out; held = []; room = 0 } ∷ map bare_ring (home_rings g pool pairs (drop pool frames))) (items-home g (take pool frames))
    ∙ ap (λ (fs : List Frame). home_ring g fs ∷ map bare_ring (home_rings g pool pairs (drop pool frames))) (sym (take-map bare_frame pool frames))
    ∙ ap (λ (rings : List RingState). home_ring g (take pool (map bare_frame frames)) ∷ rings) (home-bare g pool pairs (drop pool frames))
    ∙ ap (λ (fs : List Frame). home_ring g (take pool (map bare_frame frames)) ∷ home_rings g pool pairs fs) (sym (drop-map bare_frame pool frames))

empty-bare : (n : ℕ) → map bare_ring (replicate n empty_ring) ≡ replicate n empty_ring
empty-bare zero = refl
empty-bare (suc n) = ap (λ (rings : List RingState). empty_ring ∷ rings) (empty-bare n)

opening-bare : (c : Config) (frames : List Frame) → bare_state (opening c frames) ≡ opening c (map bare_frame frames)
opening-bare c frames =
    ap (λ (rings : List RingState). record { rings = rings; marks = (opening c frames).marks; had = (opening c frames).had })
    (map-append bare_ring (home_rings c.geometry (pool_of c) (length c.pairs) frames) (replicate (length c.pairs + 2 * length c.sockets) empty_ring)
    ∙ ap (λ rings. rings ++ map bare_ring (replicate (length c.pairs + 2 * length c.sockets) empty_ring)) (home-bare c.geometry (pool_of c) (length c.pairs) frames)
    ∙ ap (λ rings. home_rings c.geometry (pool_of c) (length c.pairs) (map bare_frame frames) ++ rings) (empty-bare (length c.pairs + 2 * length c.sockets)))

of_numbers : (frames : List Frame) → map bare_frame frames ≡ map (λ (n : ℕ). record { number = n; bytes = [] }) (map (λ (f : Frame). f.number) frames)
of_numbers [] = refl
of_numbers (f ∷ frames) = ap (λ l. bare_frame f ∷ l) (of_numbers frames)

frames-alike : (g : Geometry) (frames other : List Frame) → AreFrames g frames → AreFrames g other → map bare_frame frames ≡ map bare_frame other
frames-alike g frames other are too =
    of_numbers frames ∙ ap (map (λ (n : ℕ). record { number = n; bytes = [] })) (are.numbers ∙ sym too.numbers) ∙ sym (of_numbers other)

pub openings-alike : (c : Config) (frames fresh : List Frame) → IsOpened c frames → IsOpened c fresh → bare_state (opening c frames) ≡ bare_state (opening c fresh)
openings-alike c frames fresh opened too =
    opening-bare c frames ∙ ap (opening c) (frames-alike c.geometry frames fresh opened.umem too.umem) ∙ sym (opening-bare c fresh)

-- ---- histories

pub states-alike : (c : Config) (frames fresh : List Frame) (h other : List Entry) → IsHistory c frames h → IsHistory c fresh other
    → map bare_entry h ≡ map bare_entry other → bare_state (state_after c frames h) ≡ bare_state (state_after c fresh other)
states-alike c frames fresh h other legal too same =
    after_all-bare c (opening c frames) h
    ∙ ap (λ (l : List Entry). after_all c (bare_state (opening c frames)) l) same
    ∙ ap (λ (s : State). after_all c s (map bare_entry other)) (openings-alike c frames fresh legal.opened too.opened)
    ∙ sym (after_all-bare c (opening c fresh) other)

-- the replies to calls that are alike
pub replies-alike : (c : Config) (s t : State) (call other : Call) → bare_state s ≡ bare_state t → bare_call call ≡ bare_call other
    → bare_reply (reply_at c s call) ≡ bare_reply (reply_at c t other)
replies-alike c s t call other same alike =
    reply-bare c s call ∙ (λ i. reply_at c (same i) (alike i)) ∙ sym (reply-bare c t other)
