-- What holds after a history, and after each prefix of it.
use Rattle.std.proofs.Common.{◌≡◌, ℕ, ◌<◌, ◌≤◌, List, [], ◌∷◌, ◌++◌, length, get_or, Option, Some, None, refl, sym, ap, subst, ◌∙◌, ⊎_elim, arith, append_assoc, append-nil, length-set}
use Rattle.std.specs.List.{range_with_len}
use Rattle.std.proofs.lemmas.Bool.{cases_lt}
use Rattle.xsk_umem.specs.Frame.{Frame}
use Rattle.xsk_model.specs.Config.{Config, IsConfig, HasRing, size_of, callers_of}
use Rattle.xsk_model.specs.Numbers.{times}
use Rattle.xsk_model.specs.Rings.{place, places_of}
use Rattle.xsk_model.specs.Marks.{HasMark, IsMarkNumber, mark_place, mark_places_of}
use Rattle.xsk_model.specs.Object.{RingState, State, empty_ring, ring_at, mark_at, had_by, had_after, reply_at, call_ring, ring_after, rings_after, marks_after, after}
use Rattle.xsk_model.specs.Entry.{Entry, own}
use Rattle.xsk_model.specs.Own.{had_of}
use Rattle.xsk_model.specs.Legal.{IsLegal}
use Rattle.xsk_model.specs.Opening.{IsOpened, opening}
use Rattle.xsk_model.specs.History.{GoesOn, after_all, IsHistory, IsHistoryFrom, state_after}
use Rattle.xsk_model.specs.Starts.{IsStartRing, IsStart}
use Rattle.xsk_model.specs.Holders.{holders}
use Rattle.xsk_model.specs.declared.call.Ring.{Ring}
use Rattle.xsk_model.specs.declared.call.Mark.{Mark}
use Rattle.xsk_model.specs.declared.call.Call.{Call}
use Rattle.xsk_model.specs.declared.call.Call.TheVariants.{Reserve, Submit, Peek, Release, Swap, Look}
use Rattle.xsk_model.proofs.Sound.{IsRingSound, ring_sound, had_sound, holders_sound}
use Rattle.xsk_model.proofs.Counting.{times-range_past, times-range_within}
use Rattle.xsk_model.proofs.MarkNumbers.{first_number, mark_sound, mark_opening}
use Rattle.xsk_model.proofs.Opened.{opening-rings, opening-callers, opening-had, opening-holders, opening-ring, opening-marks}

-- the state that past entries left, from a start
pub record IsSoundFrom (c : Config) (start s : State) (past : List Entry) : Type 0 where
  pub rings : length s.rings ≡ places_of c
  pub marks : length s.marks ≡ mark_places_of c
  pub callers : length s.had ≡ callers_of c
  pub numbers : (m : Mark) → HasMark c m → IsMarkNumber c m (mark_at c s m)
  pub ring : (r : Ring) → HasRing c r → IsRingSound c (ring_at c start r).out r (ring_at c s r) past
  pub had : (who : ℕ) → had_by s who ≡ had_of (own who past)
  pub holders : (n : ℕ) → times n (holders s) ≡ times n (range_with_len 0 c.geometry.frames)

-- from the opening
abbrev pub IsSound : Config → List Frame → State → List Entry → Type 0
IsSound c frames s past = IsSoundFrom c (opening c frames) s past

length-rings_after : (c : Config) (rings : List RingState) (on : Option Ring) (call : Call) → length (rings_after c rings on call) ≡ length rings
length-rings_after c rings None call = refl
length-rings_after c rings (Some r) call = length-set rings (place c r) (ring_after (size_of c r) (get_or rings (place c r) empty_ring) call)

length-marks_after : (c : Config) (marks : List ℕ) (call : Call) → length (marks_after c marks call) ≡ length marks
length-marks_after c marks (Reserve r n) = refl
length-marks_after c marks (Submit r items) = refl
length-marks_after c marks (Peek r n) = refl
length-marks_after c marks (Release r n) = refl
length-marks_after c marks (Swap m value) = length-set marks (mark_place c m) value
length-marks_after c marks (Look m) = refl

pub step_from : (c : Config) (start s : State) (past : List Entry) (e : Entry) → IsConfig c → IsSoundFrom c start s past
    → IsLegal c (own e.who past) e.who e.call → e.reply ≡ reply_at c s e.call → IsSoundFrom c start (after c s e.who e.call) (past ++ e ∷ [])
step_from c start s past e config h legal reply =
    record {
      rings = length-rings_after c s.rings (call_ring e.call) e.call ∙ h.rings;
      marks = length-marks_after c s.marks e.call ∙ h.marks;
      callers = length-set s.had e.who (had_after (had_by s e.who) e.call (reply_at c s e.call)) ∙ h.callers;
      numbers = λ m has. mark_sound c s (own e.who past) e.who e.call m config has h.marks legal (h.numbers m has);
      ring = λ r has. ring_sound c s (ring_at c start r).out past e r has h.rings legal reply (h.ring r has);
      had = λ who. had_sound c s past e who h.callers legal.caller reply h.had;
      holders = λ n. holders_sound n c s past e.who e.call h.rings h.callers legal (h.had e.who) ∙ h.holders n;
    }

pub sound_step : (c : Config) (frames : List Frame) (s : State) (past : List Entry) (e : Entry) → IsConfig c → IsSound c frames s past
    → IsLegal c (own e.who past) e.who e.call → e.reply ≡ reply_at c s e.call → IsSound c frames (after c s e.who e.call) (past ++ e ∷ [])
sound_step c frames s past e config h legal reply = step_from c (opening c frames) s past e config h legal reply

pub sound_all : (c : Config) (start s : State) (past h : List Entry) → IsConfig c → IsSoundFrom c start s past → GoesOn c s past h
    → IsSoundFrom c start (after_all c s h) (past ++ h)
sound_all c start s past [] config sound goes = subst (IsSoundFrom c start s) (sym (append-nil past)) sound
sound_all c start s past (e ∷ es) config sound goes =
    subst (IsSoundFrom c start (after_all c (after c s e.who e.call) es)) (append_assoc past (e ∷ []) es)
    (sound_all c start (after c s e.who e.call) (past ++ e ∷ []) es config (step_from c start s past e config sound goes.0 goes.1) goes.2)

pub opening_sound : (c : Config) (frames : List Frame) → IsOpened c frames → IsSound c frames (opening c frames) []
opening_sound c frames opened =
    record {
      rings = opening-rings c frames opened;
      marks = opening-marks c frames opened.config;
      callers = opening-callers c frames opened;
      numbers = λ m has. mark_opening c frames m opened.config has;
      ring = opening-ring c frames opened;
      had = opening-had c frames opened;
      holders = opening-holders c frames opened;
    }

-- entries that go on in two parts
pub goes_first : (c : Config) (s : State) (past h more : List Entry) → GoesOn c s past (h ++ more) → GoesOn c s past h
goes_first c s past [] more goes = tt
goes_first c s past (e ∷ es) more goes = (goes.0, goes.1, goes_first c (after c s e.who e.call) (past ++ e ∷ []) es more goes.2)

pub goes_rest : (c : Config) (s : State) (past h more : List Entry) → GoesOn c s past (h ++ more) → GoesOn c (after_all c s h) (past ++ h) more
goes_rest c s past [] more goes = subst (λ p. GoesOn c s p more) (sym (append-nil past)) goes
goes_rest c s past (e ∷ es) more goes =
    subst (λ p. GoesOn c (after_all c (after c s e.who e.call) es) p more) (append_assoc past (e ∷ []) es)
    (goes_rest c (after c s e.who e.call) (past ++ e ∷ []) es more goes.2)

pub goes_both : (c : Config) (s : State) (past h more : List Entry) → GoesOn c s past h → GoesOn c (after_all c s h) (past ++ h) more
    → GoesOn c s past (h ++ more)
goes_both c s past [] more first rest = subst (λ p. GoesOn c s p more) (append-nil past) rest
goes_both c s past (e ∷ es) more first rest = (
  first.0,
  first.1,
  goes_both c (after c s e.who e.call) (past ++ e ∷ []) es more first.2
      (subst (λ p. GoesOn c (after_all c (after c s e.who e.call) es) p more) (sym (append_assoc past (e ∷ []) es)) rest),
)

pub after_all-append : (c : Config) (s : State) (h more : List Entry) → after_all c s (h ++ more) ≡ after_all c (after_all c s h) more
after_all-append c s [] more = refl
after_all-append c s (e ∷ es) more = after_all-append c (after c s e.who e.call) es more

-- one entry more
pub goes_push : (c : Config) (s : State) (past h : List Entry) (e : Entry) → GoesOn c s past h → IsLegal c (own e.who (past ++ h)) e.who e.call
    → e.reply ≡ reply_at c (after_all c s h) e.call → GoesOn c s past (h ++ e ∷ [])
goes_push c s past h e goes legal reply = goes_both c s past h (e ∷ []) goes (legal, reply, tt)

-- a history's prefix is one, and it leaves a sound state
pub history_first : (c : Config) (frames : List Frame) (h more : List Entry) → IsHistory c frames (h ++ more) → IsHistory c frames h
history_first c frames h more history = record { opened = history.opened; legal = goes_first c (opening c frames) [] h more history.legal }

pub history_sound : (c : Config) (frames : List Frame) (h : List Entry) → IsHistory c frames h → IsSound c frames (state_after c frames h) h
history_sound c frames h history =
    sound_all c (opening c frames) (opening c frames) [] h history.opened.config (opening_sound c frames history.opened) history.legal

-- ---- from any start

start_ring : (c : Config) (r : Ring) (ring : RingState) → IsStartRing c r ring → IsRingSound c ring.out r ring []
start_ring c r ring h =
    record {
      room = h.room;
      held = ap length h.held;
      within = omega (arith, h.few, ap length h.held, h.room);
      order = sym (append-nil ring.out);
      items = h.lawful;
      peeked = refl;
      given = refl;
    }

pub start_sound : (c : Config) (start : State) → IsStart c start → IsSoundFrom c start start []
start_sound c start h =
    record {
      rings = h.rings;
      marks = h.marks;
      callers = h.callers;
      numbers = λ m has. subst (IsMarkNumber c m) (sym (h.mark m has)) (first_number c m);
      ring = λ r has. start_ring c r (ring_at c start r) (h.ring r has);
      had = h.had;
      holders = λ n. ⊎_elim
          (λ (low : n < c.geometry.frames). h.holder.one n low ∙ sym (times-range_within n 0 c.geometry.frames (omega arith) (omega arith)))
          (λ (high : c.geometry.frames ≤ n). h.holder.none n high ∙ sym (times-range_past n 0 c.geometry.frames (omega arith)))
          (cases_lt n c.geometry.frames);
    }

pub first_from : (c : Config) (start : State) (h more : List Entry) → IsHistoryFrom c start (h ++ more) → IsHistoryFrom c start h
first_from c start h more history = record { begins = history.begins; legal = goes_first c start [] h more history.legal }

pub sound_from : (c : Config) (start : State) (h : List Entry) → IsHistoryFrom c start h → IsSoundFrom c start (after_all c start h) h
sound_from c start h history = sound_all c start start [] h history.begins.config (start_sound c start history.begins) history.legal
