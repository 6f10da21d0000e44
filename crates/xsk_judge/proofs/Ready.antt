-- A judge that stands for some calls is ready for the next.
use Rattle.std.proofs.Common.{◌≡◌, ℕ, ◌+◌, ◌-◌, ◌<◌, ◌≤◌, ◌^◌, Bool, true, false, cond, Option, Some, None, List, [], ◌∷◌, length, take, drop, map, get_or, set, refl, sym, ap, ◌∙◌, subst, arith, ⊎_elim, length-append, length-set}
use Rattle.std.specs.Prelude.{IfSome, unwrap_or}
use Rattle.std.proofs.lemmas.List.{length-map, get_or_past}
use Rattle.std.proofs.lemmas.Bool.{cases_Bool, cases_lt}
use Rattle.xsk_umem.specs.declared.batch.XdpDesc.{XdpDesc}
use Rattle.xsk_model.specs.declared.call.Ring.{Ring}
use Rattle.xsk_model.specs.declared.call.Ring.TheVariants.{Fill, Comp, Rx, Tx}
use Rattle.xsk_model.specs.Rings.{is_ring}
use Rattle.xsk_side.specs.Setting.{Setting, IsSetting, IsRingSize, HasRing, size_of, pair_of, socket_at}
use Rattle.xsk_side.specs.Entries.{stands, strays_in}
use Rattle.xsk_side.specs.Object.{Entry, is_made, ring_at}
use Rattle.xsk_side.specs.Own.{entry_of, held_of, room_of}
use Rattle.xsk_side.specs.Possible.{IsHistory, Possible, own}
use Rattle.xsk_side.specs.Local.{AllFit, back_of, given_of, new_of, sure_of}
use Rattle.xsk_side.specs.declared.call.Call.{Call}
use Rattle.xsk_side.specs.declared.call.Call.TheVariants.{Reserve, Free, Submit, Peek, Release, Cancel}
use Rattle.xsk_side.specs.declared.call.Party.TheVariants.{Program}
use Rattle.xsk_side.proofs.Lists.{length-front}
use Rattle.xsk_side.proofs.Rings.{rings_sound}
use Rattle.xsk_side.proofs.Bounds.{sure_sound}
use Rattle.xsk_side.proofs.Given.{given_sound}
use Rattle.xsk_side.proofs.Fits.{is_producer, room_is, held_is, possible_fits}
use Rattle.xsk_judge.specs.declared.known.Known.{Known}
use Rattle.xsk_judge.specs.declared.known.End.{End}
use Rattle.xsk_judge.specs.declared.why.Why.{Why}
use Rattle.xsk_judge.specs.declared.why.Why.TheVariants.{Rule, Kernel as Denied, TooMany}
use Rattle.xsk_judge.specs.Kept.{Queue, Kept, given_by, known_in, place, end_at, queue_at, standing, strays_at}
use Rattle.xsk_judge.specs.Judging.{IsFor, IsSized, MayCall, MayAnswer, after, again, given, given_in, last_held, marked, peeked, released, reserved, shown_frames, shown_queue, strays_after, told_free}
use Rattle.xsk_judge.specs.Refusing.{IsReason}
use Rattle.xsk_judge.specs.Stands.{Line, StandsFor, calls_of, IsReady, IsWhy}
use Rattle.xsk_judge.proofs.Marking.{length-marked}
use Rattle.xsk_judge.proofs.Standing.{shown_by, legal_may, may_call, possible_not}
use Rattle.xsk_judge.proofs.Behind.{more, queue_else, queue_here, no_queue}
use Rattle.xsk_judge.proofs.Stepping.{stands_reserve, stands_free, stands_submit, stands_release}
use Rattle.xsk_judge.proofs.Standings.{stands_peek, stands_cancel}
use Rattle.xsk_side.proofs.Rings.{same_or, is_true, is_false}

-- ---- the setting

setting_of : (s : Setting) (h : List Entry) → IsHistory s h → IsSetting s
setting_of s [] legal = legal
setting_of s (e ∷ past) legal = setting_of s past legal.0

few_or_none : (o : Option ℕ) → IfSome o IsRingSize → unwrap_or o 0 ≤ 2 ^ 20
few_or_none None h = omega arith
few_or_none (Some n) h = h.most

size_few : (s : Setting) (r : Ring) → IsSetting s → HasRing s r → size_of s r ≤ 2 ^ 20
size_few s (Fill d) h has = (h.pairs.2 d (record { fill = 0; comp = 0 }) has).fill.most
size_few s (Comp d) h has = (h.pairs.2 d (record { fill = 0; comp = 0 }) has).comp.most
size_few s (Rx k) h has = few_or_none (socket_at s k).rx (h.sockets.2 k (record { pair = 0; rx = None; tx = None }) has.0).rx
size_few s (Tx k) h has = few_or_none (socket_at s k).tx (h.sockets.2 k (record { pair = 0; rx = None; tx = None }) has.0).tx

pair_low : (s : Setting) (r : Ring) → IsSetting s → HasRing s r → pair_of s r < length s.pairs
pair_low s (Fill d) h has = has
pair_low s (Comp d) h has = has
pair_low s (Rx k) h has = (h.sockets.2 k (record { pair = 0; rx = None; tx = None }) has.0).pair
pair_low s (Tx k) h has = (h.sockets.2 k (record { pair = 0; rx = None; tx = None }) has.0).pair

-- ---- numbers that any calls leave

room_sure : (s : Setting) (calls : List Call) (r : Ring) → Possible s calls → is_made r ≡ true → room_of r calls + sure_of s r calls ≤ size_of s r
room_sure s calls r possible made =
    let h = possible.history in
    subst (λ mine. room_of r mine + sure_of s r mine ≤ size_of s r) possible.own
    (omega (arith, sure_sound s h r possible.legal made, (rings_sound s h possible.legal r).within, room_is s h r possible.legal (is_producer r made)))

held_back : (s : Setting) (calls : List Call) (r : Ring) → Possible s calls → is_made r ≡ false → length (held_of s r calls) + length (back_of s r calls) ≤ size_of s r
held_back s calls r possible made =
    let h = possible.history in
    subst (λ mine. length (held_of s r mine) + length (back_of s r mine) ≤ size_of s r) possible.own
    (omega (
      arith,
      (rings_sound s h possible.legal r).within,
      held_is s h r possible.legal (shown_by r made),
      length-front (back_of s r (own Program h)) (ring_at r h).out ((given_sound s h possible.legal).rest r made).front,
    ))

given_known : (s : Setting) (calls : List Call) (f : ℕ) (q : Ring) → AllFit s calls → given_of s calls f ≡ Some q → HasRing s q
given_known s [] f q fit is = absurd (cc)
given_known s (Reserve r n answer ∷ past) f q fit is = given_known s past f q fit.0 is
given_known s (Free r n places ∷ past) f q fit is = given_known s past f q fit.0 is
given_known s (Submit r es ∷ past) f q fit is = by (stands s f es) (given_of s past f) is fit.1.legal.known (given_known s past f q fit.0)
  where
    some_same : (r q : Ring) → Some r ≡ Some q → r ≡ q
    some_same r q h = cc

    by : (b : Bool) (g : Option Ring) → cond b (Some r) g ≡ Some q → HasRing s r → (g ≡ Some q → HasRing s q) → HasRing s q
    by true g h known before = subst (HasRing s) (some_same r q h) known
    by false g h known before = before h
given_known s (Peek r n es ∷ past) f q fit is = by (stands s f es) (given_of s past f) is (given_known s past f q fit.0)
  where
    by : (b : Bool) (g : Option Ring) → cond b None g ≡ Some q → (g ≡ Some q → HasRing s q) → HasRing s q
    by true g h before = absurd (cc)
    by false g h before = before h
given_known s (Release r n ∷ past) f q fit is = given_known s past f q fit.0 is
given_known s (Cancel r n ∷ past) f q fit is = given_known s past f q fit.0 is

-- ---- ready

given_default : (frames : List Known) (f : ℕ) → length frames ≤ f → (t : Ring) → given_in frames f ≡ Some t → ⊥
given_default frames f past t h = absurd (no_ring t (sym (ap (λ (k : Known). given_by k.place) (get_or_past frames f (known_in [] f) past)) ∙ h))
  where
    no_ring : (t : Ring) → ◌≡◌ {A = Option Ring} None (Some t) → ⊥
    no_ring t h = cc

pub for_of : (s : Setting) (kept : Kept) (lines : List Line) → IsSized s kept → StandsFor s kept lines → IsFor s kept
for_of s kept lines sized now =
    let calls = calls_of lines in
    record {
      frames = sized.frames;
      ends = sized.ends;
      queues = sized.queues;
      strays = sized.strays;
      room = λ r has made. omega (arith, room_sure s calls r now.possible made, now.room r has made, now.sure r has made);
      size = sized.size;
      held = λ r has made. let is = now.queues r has made in
          omega (arith, is.held, ap length is.entries, length-append (map entry_of (held_of s r calls)) (back_of s r calls), length-map (held_of s r calls) entry_of);
      few = λ r has made. let is = now.queues r has made in
          omega (arith, sized.size r has made, held_back s calls r now.possible made, ap length is.entries, length-append (map entry_of (held_of s r calls)) (back_of s r calls), length-map (held_of s r calls) entry_of);
      sent = λ f t is. ⊎_elim
          (λ (low : f < length kept.frames).
          given_known s calls f (Tx t) (possible_fits s calls now.possible) (sym (now.frames f (omega (arith, low, sized.frames))).given ∙ is))
          (λ (past : length kept.frames ≤ f). absurd (given_default kept.frames f past (Tx t) is))
          (cases_lt f (length kept.frames));
    }

-- ---- sizes stay

size_set : (s : Setting) (kept : Kept) (r : Ring) (queue : Queue) (queues : List Queue) → IsSized s kept → HasRing s r → is_made r ≡ false → queue.size ≡ (queue_at s kept r).size
    → queues ≡ set kept.queues (place s r) queue → (q : Ring) → HasRing s q → is_made q ≡ false → (get_or queues (place s q) no_queue).size ≡ size_of s q
size_set s kept r queue queues sized has made same is q has_q made_q =
    ap (λ xs. (get_or xs (place s q) no_queue).size) is
    ∙ ⊎_elim
    (λ (e : q ≡ r). subst (λ x. (get_or (set kept.queues (place s r) queue) (place s x) no_queue).size ≡ size_of s x) (sym e)
    (ap (λ (x : Queue). x.size) (queue_here s kept.queues r queue sized.queues has) ∙ same ∙ sized.size r has made))
    (λ (off : is_ring q r ≡ false). ap (λ (x : Queue). x.size) (queue_else s kept.queues q r queue made_q made has_q has off) ∙ sized.size q has_q made_q)
    (same_or q r)

length-strays : (s : Setting) (kept : Kept) (r : Ring) (es : List XdpDesc) → length (strays_after s kept r es) ≡ length kept.strays
length-strays s kept (Fill d) es = refl
length-strays s kept (Comp d) es = length-set kept.strays d (strays_at kept d - strays_in s (new_of (standing (queue_at s kept (Comp d))) es))
length-strays s kept (Rx k) es = refl
length-strays s kept (Tx k) es = length-set kept.strays (pair_of s (Tx k)) (strays_at kept (pair_of s (Tx k)) + strays_in s es)

sized_ends : (s : Setting) (kept : Kept) (r : Ring) (end : End) → IsSized s kept → IsSized s (record kept { ends = set kept.ends (place s r) end })
sized_ends s kept r end h =
    record { frames = h.frames; ends = length-set kept.ends (place s r) end ∙ h.ends; queues = h.queues; strays = h.strays; size = h.size }

sized_queues : (s : Setting) (kept : Kept) (r : Ring) (queue : Queue) (frames : List Known) (strays : List ℕ) → IsSized s kept → HasRing s r → is_made r ≡ false
    → queue.size ≡ (queue_at s kept r).size → length frames ≡ length kept.frames → length strays ≡ length kept.strays
    → IsSized s (record { frames = frames; ends = kept.ends; queues = set kept.queues (place s r) queue; strays = strays })
sized_queues s kept r queue frames strays h has made same f w = record {
  frames = f ∙ h.frames;
  ends = h.ends;
  queues = length-set kept.queues (place s r) queue ∙ h.queues;
  strays = w ∙ h.strays;
  size = size_set s kept r queue (set kept.queues (place s r) queue) h has made same refl;
}

sized_after : (s : Setting) (line : ℕ) (kept : Kept) (call : Call) → IsSized s kept → MayCall s kept call → IsSized s (after s line kept call)
sized_after s line kept (Reserve r n answer) h may = sized_ends s kept r (reserved (end_at s kept r) line n answer) h
sized_after s line kept (Free r n places) h may = sized_ends s kept r (told_free (end_at s kept r) line n places) h
sized_after s line kept (Submit r es) h may =
    let end : End = record (end_at s kept r) { room = (end_at s kept r).room - length es } in
    record {
      frames = length-marked s (given r line) 0 es kept.frames ∙ h.frames;
      ends = length-set kept.ends (place s r) end ∙ h.ends;
      queues = h.queues;
      strays = length-strays s kept r es ∙ h.strays;
      size = h.size;
    }
sized_after s line kept (Peek r n es) h may =
    let queue = queue_at s kept r in let pk = peeked r queue.first line in let b = length (standing queue) in
    sized_queues s kept r (shown_queue queue es) (shown_frames s line r queue kept.frames es) (strays_after s kept r es) h may.0 may.1 refl
    (length-marked s pk queue.held (take b es) (marked s pk (queue.held + length (take b es)) (drop b es) kept.frames)
    ∙ length-marked s pk (queue.held + length (take b es)) (drop b es) kept.frames)
    (length-strays s kept r es)
sized_after s line kept (Release r n) h may = sized_queues s kept r (released (queue_at s kept r) n) kept.frames kept.strays h may.0 may.1 refl refl refl
sized_after s line kept (Cancel r n) h may =
    let queue = queue_at s kept r in
    let made_kept : Kept = record kept { ends = set kept.ends (place s r) (record (end_at s kept r) { room = (end_at s kept r).room - n; sure = (end_at s kept r).sure + n }) } in
    let unmade_kept : Kept = record kept { frames = marked s (again r line) 0 (last_held queue n) kept.frames; queues = set kept.queues (place s r) (record queue { held = queue.held - n; again = line }) } in
    ⊎_elim
    (λ (made : is_made r ≡ true). subst (IsSized s) (sym (is_true (is_made r) made_kept unmade_kept made))
    (sized_ends s kept r (record (end_at s kept r) { room = (end_at s kept r).room - n; sure = (end_at s kept r).sure + n }) h))
    (λ (unmade : is_made r ≡ false). subst (IsSized s) (sym (is_false (is_made r) made_kept unmade_kept unmade))
    (sized_queues s kept r (record queue { held = queue.held - n; again = line }) (marked s (again r line) 0 (last_held queue n) kept.frames) kept.strays h may.0 unmade refl
    (length-marked s (again r line) 0 (last_held queue n) kept.frames) refl))
    (cases_Bool (is_made r))

-- ---- one call more

stands_after : (s : Setting) (line : ℕ) (kept : Kept) (lines : List Line) (call : Call) → IsSized s kept → StandsFor s kept lines → MayCall s kept call → MayAnswer s kept call
    → StandsFor s (after s line kept call) (more line call lines)
stands_after s line kept lines (Reserve r n answer) sized now may answers = stands_reserve s kept lines line r n answer (for_of s kept lines sized now) now may answers
stands_after s line kept lines (Free r n places) sized now may answers = stands_free s kept lines line r n places (for_of s kept lines sized now) now may answers
stands_after s line kept lines (Submit r es) sized now may answers =
    stands_submit s kept lines line r es (for_of s kept lines sized now) now (pair_low s r (setting_of s now.possible.history now.possible.legal) may.0) may
stands_after s line kept lines (Peek r n es) sized now may answers =
    stands_peek s kept lines line r n es (for_of s kept lines sized now) now (size_few s r (setting_of s now.possible.history now.possible.legal) may.0) may answers
stands_after s line kept lines (Release r n) sized now may answers = stands_release s kept lines line r n (for_of s kept lines sized now) now may
stands_after s line kept lines (Cancel r n) sized now may answers = stands_cancel s kept lines line r n (for_of s kept lines sized now) now may

pub ready_for : (s : Setting) (kept : Kept) → IsReady s kept → IsFor s kept
ready_for s kept ready = for_of s kept ready.lines ready.sized ready.stands

pub ready_after : (s : Setting) (line : ℕ) (kept kept' : Kept) (call : Call) → IsReady s kept → MayCall s kept call → MayAnswer s kept call → kept' ≡ after s line kept call → IsReady s kept'
ready_after s line kept kept' call ready may answers is = subst (IsReady s) (sym is) (record {
  sized = sized_after s line kept call ready.sized may;
  lines = more line call ready.lines;
  stands = stands_after s line kept ready.lines call ready.sized ready.stands may answers;
})

pub judged : (s : Setting) (line : ℕ) (kept kept' : Kept) (call : Call) → IsReady s kept → MayCall s kept call → MayAnswer s kept call → kept' ≡ after s line kept call
    → (lines : List Line) → StandsFor s kept lines → StandsFor s kept' (more line call lines)
judged s line kept kept' call ready may answers is lines now =
    subst (λ k. StandsFor s k (more line call lines)) (sym is) (stands_after s line kept lines call ready.sized now may answers)

pub why_not : (s : Setting) (line : ℕ) (kept : Kept) (call : Call) (why : Why) → IsReason s line kept call why → (lines : List Line) → StandsFor s kept lines → IsWhy s lines call why
why_not s line kept call (Rule rule) h lines now = λ legal. h.0 (legal_may s kept lines call now legal)
why_not s line kept call (Denied denial) h lines now = (may_call s kept lines call now h.0, possible_not s kept lines call now h.0 h.1)
why_not s line kept (Reserve r n answer) TooMany h lines now = absurd h.1
why_not s line kept (Free r n places) TooMany h lines now = absurd h.1
why_not s line kept (Submit (Fill d) es) TooMany h lines now = absurd h.1
why_not s line kept (Submit (Comp d) es) TooMany h lines now = absurd h.1
why_not s line kept (Submit (Rx k) es) TooMany h lines now = absurd h.1
why_not s line kept (Submit (Tx k) es) TooMany h lines now =
    let low = pair_low s (Tx k) (setting_of s now.possible.history now.possible.legal) h.0.0 in
    omega (arith, h.1, now.strays (pair_of s (Tx k)) low)
why_not s line kept (Peek r n es) TooMany h lines now = absurd h.1
why_not s line kept (Release r n) TooMany h lines now = absurd h.1
why_not s line kept (Cancel r n) TooMany h lines now = absurd h.1
