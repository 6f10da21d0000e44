-- Where each frame that the program gave away is: on FILL or TX, with the kernel, which took it there, or on RX or COMPLETION behind
-- what a Cancel put back, where it may come.
use Rattle.std.proofs.Common.{◌≡◌, ℕ, zero, suc, ◌+◌, ◌-◌, ◌≤◌, ◌⊎◌, Bool, true, false, ◌&&◌, ◌||◌, not, cond, Option, Some, None, List, [], ◌∷◌, ◌++◌, length, take, drop, get_or, refl, sym, ap, ◌∙◌, subst, arith, length-drop, ⊎_elim, inl, inr}
use Rattle.std.specs.Prelude.{nat_lt, is_some, IsTrue}
use Rattle.std.proofs.lemmas.Bool.Decides.{nat_tests}
use Rattle.std.proofs.lemmas.List.Elements.{All-drop, All-append, All-nil}
use Rattle.std.proofs.lemmas.List.{drop-drop, drop-append-le, take-append-le}
use Rattle.xsk_umem.specs.declared.batch.XdpDesc.{XdpDesc}
use Rattle.xsk_model.specs.declared.call.Ring.{Ring}
use Rattle.xsk_model.specs.declared.call.Ring.TheVariants.{Fill, Comp, Rx, Tx}
use Rattle.xsk_model.specs.Descriptor.{is_inside, has_bytes, fits_chunk, has_known_options}
use Rattle.xsk_model.specs.Rings.{is_ring}
use Rattle.xsk_model.proofs.Places.{is_ring-self}
use Rattle.xsk_side.specs.Setting.{Setting, size_of, pair_of}
use Rattle.xsk_side.specs.Entries.{frame, times, strays_in, stands, is_received, is_laid}
use Rattle.xsk_side.specs.Object.{Entry, RingState, ring_of, ring_at, ring_after, consumer, is_made, Replies}
use Rattle.xsk_side.specs.Own.{put_back, has_frame, source_of, strays_taken}
use Rattle.xsk_side.specs.Legal.{IsLegal, IsReceived, IsCompleted, MayCome}
use Rattle.xsk_side.specs.Possible.{IsHistory, own}
use Rattle.xsk_side.specs.Local.{given_of, back_of, back_after}
use Rattle.xsk_side.specs.declared.call.Party.{Party}
use Rattle.xsk_side.specs.declared.call.Party.TheVariants.{Program, Kernel}
use Rattle.xsk_side.specs.declared.call.Call.{Call}
use Rattle.xsk_side.specs.declared.call.Call.TheVariants.{Reserve, Free, Submit, Peek, Release, Cancel}
use Rattle.xsk_side.proofs.Lists.{number, times-append, times-split, times-front, times-some, length-front}
use Rattle.xsk_side.proofs.Rings.{entry, same_or, ring_here, ring_else, is_true, is_false, rings_sound}
use Rattle.xsk_side.proofs.Frames.{IsFrameSound, frames_sound, few_put_back, out_put_back, positive}
use Rattle.xsk_side.proofs.Bounds.{made_producer, made_consumer, unmade_producer, unmade_consumer, two_parties, made_out}

-- ---- entries that may come, where frames came from the same rings

is_in : (inside bytes fits options more : Bool) → IsTrue (inside && bytes && fits && options && more) → IsTrue inside
is_in inside bytes fits options more h = grind arith

received_inside : (s : Setting) (e : XdpDesc) → IsTrue (is_received s e) → IsTrue (is_inside s.geometry e)
received_inside s e h =
    is_in (is_inside s.geometry e) (has_bytes e) (fits_chunk s.geometry e) (has_known_options s.rules.sg e) (not s.rules.at_data || is_laid s e) h

pub comes_as : (s : Setting) (from from' : ℕ → Option Ring) (strays : ℕ) (r : Ring) (es : List XdpDesc)
    → ((f : ℕ) (q : Ring) → 1 ≤ times s f es → from f ≡ Some q → from' f ≡ Some q) → MayCome s from strays r es → MayCome s from' strays r es
comes_as s from from' strays (Fill d) es same h = tt
comes_as s from from' strays (Comp d) es same h = (
  λ k x l.
      let c = h.0 k x l in
      record {
        len = c.len;
        options = c.options;
        sent = λ inside. let sent = c.sent inside in (sent.0, same (frame s (get_or es k x)) (Tx sent.0) (times-some s es k x l inside) sent.1, sent.2);
      },
  h.1,
)
comes_as s from from' strays (Rx k) es same h = λ i x l.
    let c = h i x l in
    record {
      lawful = c.lawful;
      pair = c.pair;
      filled = same (frame s (get_or es i x)) (Fill c.pair) (times-some s es i x l (received_inside s (get_or es i x) c.lawful)) c.filled;
      feeds = c.feeds;
    }
comes_as s from from' strays (Tx k) es same h = tt

-- of each entry, however many name no frame
abbrev pub Comes : Setting → (ℕ → Option Ring) → Ring → List XdpDesc → Type 0
Comes s from r es = MayCome s from (strays_in s es) r es

pub comes-nil : (s : Setting) (from : ℕ → Option Ring) (r : Ring) → Comes s from r []
comes-nil s from (Fill d) = tt
comes-nil s from (Comp d) = (All-nil (IsCompleted s from d), omega arith)
comes-nil s from (Rx k) = All-nil (IsReceived s from k)
comes-nil s from (Tx k) = tt

pub comes-drop : (s : Setting) (from : ℕ → Option Ring) (r : Ring) (n : ℕ) (es : List XdpDesc) → Comes s from r es → Comes s from r (drop n es)
comes-drop s from (Fill d) n es h = tt
comes-drop s from (Comp d) n es h = (All-drop (IsCompleted s from d) n es h.0, omega arith)
comes-drop s from (Rx k) n es h = All-drop (IsReceived s from k) n es h
comes-drop s from (Tx k) n es h = tt

pub comes-append : (s : Setting) (from : ℕ → Option Ring) (strays : ℕ) (r : Ring) (es more : List XdpDesc)
    → Comes s from r es → MayCome s from strays r more → Comes s from r (es ++ more)
comes-append s from strays (Fill d) es more h k = tt
comes-append s from strays (Comp d) es more h k = (All-append (IsCompleted s from d) es more h.0 k.0, omega arith)
comes-append s from strays (Rx j) es more h k = All-append (IsReceived s from j) es more h k
comes-append s from strays (Tx j) es more h k = tt

-- ---- what stands behind the entries that were put back

pub front-nil : (es : List XdpDesc) → es ≡ take (length es) [] → es ≡ []
front-nil [] h = refl
front-nil (e ∷ es) h = absurd (cc)

pub front-drop : (n : ℕ) (back out : List XdpDesc) → back ≡ take (length back) out → drop n back ≡ take (length (drop n back)) (drop n out)
front-drop zero back out h = h
front-drop (suc n) [] out h = refl
front-drop (suc n) (x ∷ back) [] h = absurd (cc)
front-drop (suc n) (x ∷ back) (y ∷ out) h = front-drop n back out (tail_same x y back (take (length back) out) h)
  where
    tail_same : (x y : XdpDesc) (xs ys : List XdpDesc) → x ∷ xs ≡ y ∷ ys → xs ≡ ys
    tail_same x y xs ys h = cc

pub front-append : (more back out : List XdpDesc) → back ≡ take (length back) out → more ++ back ≡ take (length (more ++ back)) (more ++ out)
front-append [] back out h = h
front-append (x ∷ more) back out h = ap (λ xs. x ∷ xs) (front-append more back out h)

pub behind-append : (more back out : List XdpDesc) → drop (length (more ++ back)) (more ++ out) ≡ drop (length back) out
behind-append [] back out = refl
behind-append (x ∷ more) back out = behind-append more back out

-- what is left of it when entries are shown
pub behind-drop : (n : ℕ) (back out : List XdpDesc) → drop (length (drop n back)) (drop n out) ≡ drop (n - length back) (drop (length back) out)
behind-drop n back out =
    ap (λ k. drop k (drop n out)) (length-drop n back)
    ∙ drop-drop (length back - n) n out
    ∙ ap (λ k. drop k out) (larger n (length back))
    ∙ sym (drop-drop (n - length back) (length back) out)
  where
    larger : (a b : ℕ) → a + (b - a) ≡ b + (a - b)
    larger a b = omega arith

abbrev pub behind : Setting → List Entry → Ring → List XdpDesc
behind s h r = drop (length (back_of s r (own Program h))) (ring_at r h).out

-- ---- what holds of frames that were given

-- on RX and COMPLETION: what was put back stands in front and is given to nobody, and the rest may come
pub record IsRestSound (s : Setting) (given : ℕ → Option Ring) (r : Ring) (back out : List XdpDesc) : Type 0 where
  pub front : back ≡ take (length back) out
  pub again : (f : ℕ) → 1 ≤ times s f back → given f ≡ None
  pub comes : Comes s given r (drop (length back) out)

pub record IsGivenSound (s : Setting) (h : List Entry) : Type 0 where
  pub had : (f : ℕ) → has_frame s f (own Program h) ≡ true → given_of s (own Program h) f ≡ None
  pub taken : (f : ℕ) (q : Ring) → source_of s (own Kernel h) f ≡ Some q → given_of s (own Program h) f ≡ Some q
  pub made : (f : ℕ) (r : Ring) → is_made r ≡ true → 1 ≤ times s f (ring_at r h).out → given_of s (own Program h) f ≡ Some r
  pub rest : (r : Ring) → is_made r ≡ false → IsRestSound s (given_of s (own Program h)) r (back_of s r (own Program h)) (ring_at r h).out

-- a frame that isn't in a list
pub no_stand : {X : Type 0} (t : ℕ) (x y : X) → t ≡ 0 → cond (nat_lt 0 t) x y ≡ y
no_stand t x y h = ap (λ k. cond (nat_lt 0 k) x y) h

pub some_stand : {X : Type 0} (t : ℕ) (x y : X) → 1 ≤ t → cond (nat_lt 0 t) x y ≡ x
some_stand t x y h = ap (λ b. cond b x y) (positive_test t h)
  where
    positive_test : (t : ℕ) → 1 ≤ t → nat_lt 0 t ≡ true
    positive_test t h = grind (arith, nat_tests)

source_one : (o : Option Ring) (q : Ring) → o ≡ Some q → ◌≡◌ {A = ℕ} (number (is_some o)) 1
source_one o q h = ap (λ x. number (is_some x)) h

has_one : (b : Bool) → b ≡ true → ◌≡◌ {A = ℕ} (number b) 1
has_one b h = ap number h

-- ---- the program has a frame: it isn't given

had_still : {X : Type 0} (b has : Bool) (x given : Option X) → (has ≡ true → given ≡ None) → cond b false has ≡ true → cond b x given ≡ None
had_still true has x given h k = absurd (cc)
had_still false has x given h k = h k

had_now : {X : Type 0} (b has : Bool) (given : Option X) → (has ≡ true → given ≡ None) → cond b true has ≡ true → cond b None given ≡ None
had_now true has given h k = refl
had_now false has given h k = h k

had_less : (b has : Bool) → cond b false has ≡ true → has ≡ true
had_less true has k = absurd (cc)
had_less false has k = k

had_step : (s : Setting) (past : List Entry) (who : Party) (call : Call) (f : ℕ)
    → (has_frame s f (own Program past) ≡ true → given_of s (own Program past) f ≡ None)
    → has_frame s f (own Program (entry who call ∷ past)) ≡ true → given_of s (own Program (entry who call ∷ past)) f ≡ None
had_step s past Kernel call f h = h
had_step s past Program (Reserve r n answer) f h = h
had_step s past Program (Free r n places) f h = h
had_step s past Program (Submit r es) f h = had_still (stands s f es) (has_frame s f (own Program past)) (Some r) (given_of s (own Program past) f) h
had_step s past Program (Peek r n es) f h = had_now (stands s f es) (has_frame s f (own Program past)) (given_of s (own Program past) f) h
had_step s past Program (Release r n) f h = h
had_step s past Program (Cancel r n) f h = λ k. h (had_less (stands s f (put_back s (own Program past) r n)) (has_frame s f (own Program past)) k)

-- ---- a frame that isn't the program's and doesn't stand in the call's ring

abbrev pub IsShown : List Entry → Call → Type 0
IsShown past (Reserve r n answer) = Unit {0}
IsShown past (Free r n places) = Unit {0}
IsShown past (Submit r es) = Unit {0}
IsShown past (Peek r n es) = es ≡ take (length es) (ring_at r past).out
IsShown past (Release r n) = Unit {0}
IsShown past (Cancel r n) = Unit {0}

pub is_shown : (size : ℕ) (past : List Entry) (call : Call) → Replies size (ring_at (ring_of call) past) call → IsShown past call
is_shown size past (Reserve r n answer) reply = tt
is_shown size past (Free r n places) reply = tt
is_shown size past (Submit r es) reply = tt
is_shown size past (Peek r n es) reply = reply.1
is_shown size past (Release r n) reply = tt
is_shown size past (Cancel r n) reply = tt

given_still : (s : Setting) (past : List Entry) (who : Party) (call : Call) (f : ℕ) → IsLegal s who (own who past) call → IsShown past call
    → ◌≡◌ {A = ℕ} (number (has_frame s f (own Program past))) 0 → ◌≡◌ {A = ℕ} (times s f (ring_at (ring_of call) past).out) 0
    → given_of s (own Program (entry who call ∷ past)) f ≡ given_of s (own Program past) f
given_still s past Kernel call f legal shown none out = refl
given_still s past Program (Reserve r n answer) f legal shown none out = refl
given_still s past Program (Free r n places) f legal shown none out = refl
given_still s past Program (Submit r es) f legal shown none out =
    no_stand (times s f es) (Some r) (given_of s (own Program past) f) (omega (arith, legal.frames f, none))
given_still s past Program (Peek r n es) f legal shown none out =
    no_stand (times s f es) None (given_of s (own Program past) f) (omega (arith, times-front s f es (ring_at r past).out shown, out))
given_still s past Program (Release r n) f legal shown none out = refl
given_still s past Program (Cancel r n) f legal shown none out = refl

-- one that stands in another ring
given_else : (s : Setting) (past : List Entry) (who : Party) (call : Call) (f : ℕ) (r : Ring) → IsLegal s who (own who past) call → IsShown past call
    → IsFrameSound s past f → is_ring r (ring_of call) ≡ false → 1 ≤ times s f (ring_at r past).out
    → given_of s (own Program (entry who call ∷ past)) f ≡ given_of s (own Program past) f
given_else s past who call f r legal shown sound off some =
    given_still s past who call f legal shown (omega (arith, some, sound.place.alone r)) (omega (arith, some, sound.place.apart r (ring_of call) off))

pub some_or_none : (t : ℕ) → (1 ≤ t) ⊎ (t ≡ 0)
some_or_none zero = inr refl
some_or_none (suc t) = inl (omega arith)

-- ---- the kernel took it there

taken_step : (s : Setting) (past : List Entry) (who : Party) (call : Call) (f : ℕ) (q : Ring) → IsLegal s who (own who past) call → IsShown past call
    → IsFrameSound s past f → IsGivenSound s past → source_of s (own Kernel (entry who call ∷ past)) f ≡ Some q
    → given_of s (own Program (entry who call ∷ past)) f ≡ Some q
taken_step s past Program call f q legal shown sound given is =
    let one = source_one (source_of s (own Kernel past) f) q is in
    given_still s past Program call f legal shown (omega (arith, one, sound.place.alone (ring_of call))) (omega (arith, one, sound.place.alone (ring_of call)))
    ∙ given.taken f q is
taken_step s past Kernel (Reserve r n answer) f q legal shown sound given is = given.taken f q is
taken_step s past Kernel (Free r n places) f q legal shown sound given is = given.taken f q is
taken_step s past Kernel (Submit r es) f q legal shown sound given is = given.taken f q (not_gone (stands s f es) (source_of s (own Kernel past) f) q is)
  where
    not_gone : (b : Bool) (source : Option Ring) (q : Ring) → cond b None source ≡ Some q → source ≡ Some q
    not_gone true source q h = absurd (cc)
    not_gone false source q h = h
taken_step s past Kernel (Peek r n es) f q legal shown sound given is = ⊎_elim
    (λ (some : 1 ≤ times s f es).
    given.made f r (shown_made r legal.role) (omega (arith, some, times-front s f es (ring_at r past).out shown))
    ∙ sym (some_stand (times s f es) (Some r) (source_of s (own Kernel past) f) some)
    ∙ is)
    (λ (none : times s f es ≡ 0). given.taken f q (sym (no_stand (times s f es) (Some r) (source_of s (own Kernel past) f) none) ∙ is))
    (some_or_none (times s f es))
  where
    shown_made : (r : Ring) → Kernel ≡ consumer r → is_made r ≡ true
    shown_made (Fill d) h = refl
    shown_made (Comp d) h = absurd (cc)
    shown_made (Rx k) h = absurd (cc)
    shown_made (Tx k) h = refl
taken_step s past Kernel (Release r n) f q legal shown sound given is = given.taken f q is
taken_step s past Kernel (Cancel r n) f q legal shown sound given is = absurd (two_parties legal.role)

-- ---- it stands on FILL or TX

-- on the call's own ring
made_here : (s : Setting) (past : List Entry) (who : Party) (call : Call) (f : ℕ) → is_made (ring_of call) ≡ true → IsLegal s who (own who past) call
    → IsShown past call → IsFrameSound s past f → IsGivenSound s past → 1 ≤ times s f (ring_after (ring_at (ring_of call) past) call).out
    → given_of s (own Program (entry who call ∷ past)) f ≡ Some (ring_of call)
made_here s past Program (Reserve r n answer) f made legal shown sound given some = given.made f r made some
made_here s past Program (Free r n places) f made legal shown sound given some = given.made f r made some
made_here s past Program (Submit r es) f made legal shown sound given some = ⊎_elim
    (λ (here : 1 ≤ times s f es). some_stand (times s f es) (Some r) (given_of s (own Program past) f) here)
    (λ (none : times s f es ≡ 0).
    no_stand (times s f es) (Some r) (given_of s (own Program past) f) none
    ∙ given.made f r made (omega (arith, some, none, times-append s f (ring_at r past).out es)))
    (some_or_none (times s f es))
made_here s past Program (Peek r n es) f made legal shown sound given some = absurd (two_parties (sym (legal.role ∙ made_consumer r made)))
made_here s past Program (Release r n) f made legal shown sound given some = absurd (two_parties (sym (legal.role ∙ made_consumer r made)))
made_here s past Program (Cancel r n) f made legal shown sound given some =
    given.made f r made (subst (λ (ring : RingState). 1 ≤ times s f ring.out) (made_out (ring_at r past) r n made) some)
made_here s past Kernel (Reserve r n answer) f made legal shown sound given some = given.made f r made some
made_here s past Kernel (Free r n places) f made legal shown sound given some = given.made f r made some
made_here s past Kernel (Submit r es) f made legal shown sound given some = absurd (two_parties (legal.role ∙ made_producer r made))
made_here s past Kernel (Peek r n es) f made legal shown sound given some =
    given.made f r made (omega (arith, some, times-front s f es (ring_at r past).out shown))
made_here s past Kernel (Release r n) f made legal shown sound given some = given.made f r made some
made_here s past Kernel (Cancel r n) f made legal shown sound given some = absurd (two_parties legal.role)

made_step : (s : Setting) (past : List Entry) (who : Party) (call : Call) (f : ℕ) (r : Ring) → is_made r ≡ true → IsLegal s who (own who past) call
    → IsShown past call → IsFrameSound s past f → IsGivenSound s past → 1 ≤ times s f (ring_at r (entry who call ∷ past)).out
    → given_of s (own Program (entry who call ∷ past)) f ≡ Some r
made_step s past who call f r made legal shown sound given some = ⊎_elim
    (λ (e : r ≡ ring_of call).
    made_here s past who call f (subst (λ x. is_made x ≡ true) e made) legal shown sound given
    (subst (λ (ring : RingState). 1 ≤ times s f ring.out) (ap (λ x. ring_at x (entry who call ∷ past)) e ∙ ring_here past who call) some)
    ∙ ap Some (sym e))
    (λ (off : is_ring r (ring_of call) ≡ false).
    let before : 1 ≤ times s f (ring_at r past).out = subst (λ (ring : RingState). 1 ≤ times s f ring.out) (ring_else r past who call off) some in
    given_else s past who call f r legal shown sound off before ∙ given.made f r made before)
    (same_or r (ring_of call))

-- ---- it stands on RX or COMPLETION

-- the frames that stand there are given as before
rest_as : (s : Setting) (given given' : ℕ → Option Ring) (r : Ring) (back out : List XdpDesc) → ((f : ℕ) → 1 ≤ times s f out → given' f ≡ given f)
    → IsRestSound s given r back out → IsRestSound s given' r back out
rest_as s given given' r back out same h = record {
  front = h.front;
  again = λ f some. same f (omega (arith, some, times-front s f back out h.front)) ∙ h.again f some;
  comes = comes_as s given given' (strays_in s (drop (length back) out)) r (drop (length back) out)
      (λ f q some is. same f (omega (arith, some, times-split s f (length back) out)) ∙ is) h.comes;
}

-- entries are shown, and the frames behind them are given as before
rest_shown : (s : Setting) (given given' : ℕ → Option Ring) (r : Ring) (back out es : List XdpDesc) → es ≡ take (length es) out
    → ((f : ℕ) → 1 ≤ times s f (drop (length es) out) → given' f ≡ given f)
    → IsRestSound s given r back out → IsRestSound s given' r (drop (length es) back) (drop (length es) out)
rest_shown s given given' r back out es shown same h =
    let front = front-drop (length es) back out h.front in
    let left = drop (length es) out in let left_back = drop (length es) back in
    record {
      front = front;
      again = λ f some. same f (omega (arith, some, times-front s f left_back left front))
          ∙ h.again f (omega (arith, some, times-split s f (length es) back));
      comes = comes_as s given given' (strays_in s (drop (length left_back) left)) r (drop (length left_back) left)
          (λ f q some is. same f (omega (arith, some, times-split s f (length left_back) left)) ∙ is)
          (subst (λ xs. Comes s given r xs) (sym (behind-drop (length es) back out)) (comes-drop s given r (length es - length back) (drop (length back) out) h.comes));
    }

-- entries are put back
rest_back : (s : Setting) (given : ℕ → Option Ring) (r : Ring) (back out more : List XdpDesc) → ((f : ℕ) → 1 ≤ times s f more → given f ≡ None)
    → IsRestSound s given r back out → IsRestSound s given r (more ++ back) (more ++ out)
rest_back s given r back out more none h = record {
  front = front-append more back out h.front;
  again = λ f some. ⊎_elim (λ (a : 1 ≤ times s f more). none f a) (λ (b : 1 ≤ times s f back). h.again f b)
      (positive (times s f more) (times s f back) (omega (arith, some, times-append s f more back)));
  comes = subst (λ xs. Comes s given r xs) (sym (behind-append more back out)) h.comes;
}

-- the kernel puts entries
rest_put : (s : Setting) (given : ℕ → Option Ring) (strays : ℕ) (r : Ring) (back out es : List XdpDesc) → MayCome s given strays r es
    → IsRestSound s given r back out → IsRestSound s given r back (out ++ es)
rest_put s given strays r back out es comes h =
    let short = length-front back out h.front in
    record {
      front = h.front ∙ sym (take-append-le (length back) out es short);
      again = h.again;
      comes = subst (λ xs. Comes s given r xs) (sym (drop-append-le (length back) out es short)) (comes-append s given strays r (drop (length back) out) es h.comes comes);
    }

-- ---- RX and COMPLETION after a call

abbrev pub back_by : Party → Setting → List Entry → List XdpDesc → Call → List XdpDesc
back_by Program s past back call = back_after s (own Program past) back call
back_by Kernel s past back call = back

pub back_here : (s : Setting) (past : List Entry) (who : Party) (call : Call)
    → back_of s (ring_of call) (own Program (entry who call ∷ past)) ≡ back_by who s past (back_of s (ring_of call) (own Program past)) call
back_here s past Program call =
    let back = back_of s (ring_of call) (own Program past) in
    is_true (is_ring (ring_of call) (ring_of call)) (back_after s (own Program past) back call) back (is_ring-self (ring_of call))
back_here s past Kernel call = refl

pub back_else : (s : Setting) (past : List Entry) (who : Party) (call : Call) (r : Ring) → is_ring r (ring_of call) ≡ false
    → back_of s r (own Program (entry who call ∷ past)) ≡ back_of s r (own Program past)
back_else s past Program call r off =
    let back = back_of s r (own Program past) in is_false (is_ring r (ring_of call)) (back_after s (own Program past) back call) back off
back_else s past Kernel call r off = refl

rest_here : (s : Setting) (past : List Entry) (who : Party) (call : Call) → IsHistory s past → is_made (ring_of call) ≡ false
    → IsLegal s who (own who past) call → IsShown past call → ((f : ℕ) → IsFrameSound s past f) → IsGivenSound s past
    → IsRestSound s (given_of s (own Program (entry who call ∷ past))) (ring_of call)
    (back_by who s past (back_of s (ring_of call) (own Program past)) call) (ring_after (ring_at (ring_of call) past) call).out
rest_here s past Program (Reserve r n answer) history made legal shown sound given = given.rest r made
rest_here s past Program (Free r n places) history made legal shown sound given = given.rest r made
rest_here s past Program (Submit r es) history made legal shown sound given = absurd (two_parties (sym (legal.role ∙ unmade_producer r made)))
rest_here s past Program (Peek r n es) history made legal shown sound given =
    let out = (ring_at r past).out in
    rest_shown s (given_of s (own Program past)) (given_of s (own Program (entry Program (Peek r n es) ∷ past))) r (back_of s r (own Program past)) out es shown
    (λ f some. no_stand (times s f es) None (given_of s (own Program past) f) (omega (arith, some, times-front s f es out shown, (sound f).place.alone r)))
    (given.rest r made)
rest_here s past Program (Release r n) history made legal shown sound given = given.rest r made
rest_here s past Program (Cancel r n) history made legal shown sound given =
    let mine = own Program past in
    subst (λ xs. IsRestSound s (given_of s mine) r (put_back s mine r n ++ back_of s r mine) xs) (sym (out_put_back s past r n made (rings_sound s past history r)))
    (rest_back s (given_of s mine) r (back_of s r mine) (ring_at r past).out (put_back s mine r n)
    (λ f some. given.had f (one_has (has_frame s f mine) (omega (arith, some, few_put_back s past f r n (sound f) legal.untouched))))
    (given.rest r made))
  where
    one_has : (b : Bool) → 1 ≤ number b → b ≡ true
    one_has true h = refl
    one_has false h = absurd (omega (arith, h))
rest_here s past Kernel (Reserve r n answer) history made legal shown sound given = given.rest r made
rest_here s past Kernel (Free r n places) history made legal shown sound given = given.rest r made
rest_here s past Kernel (Submit r es) history made legal shown sound given =
    let strays = strays_taken s (pair_of s r) (own Kernel past) in
    rest_put s (given_of s (own Program past)) strays r (back_of s r (own Program past)) (ring_at r past).out es
    (comes_as s (source_of s (own Kernel past)) (given_of s (own Program past)) strays r es (λ f q some is. given.taken f q is) legal.put)
    (given.rest r made)
rest_here s past Kernel (Peek r n es) history made legal shown sound given = absurd (two_parties (legal.role ∙ unmade_consumer r made))
rest_here s past Kernel (Release r n) history made legal shown sound given = given.rest r made
rest_here s past Kernel (Cancel r n) history made legal shown sound given = absurd (two_parties legal.role)

rest_step : (s : Setting) (past : List Entry) (who : Party) (call : Call) (r : Ring) → IsHistory s past → is_made r ≡ false
    → IsLegal s who (own who past) call → IsShown past call → ((f : ℕ) → IsFrameSound s past f) → IsGivenSound s past
    → IsRestSound s (given_of s (own Program (entry who call ∷ past))) r (back_of s r (own Program (entry who call ∷ past))) (ring_at r (entry who call ∷ past)).out
rest_step s past who call r history made legal shown sound given =
    let now = own Program (entry who call ∷ past) in
    ⊎_elim
    (λ (e : r ≡ ring_of call).
    let q = ring_of call in
    subst (λ x. IsRestSound s (given_of s now) x (back_of s x now) (ring_at x (entry who call ∷ past)).out) (sym e)
    (subst (λ back. IsRestSound s (given_of s now) q back (ring_at q (entry who call ∷ past)).out) (sym (back_here s past who call))
    (subst (λ (ring : RingState). IsRestSound s (given_of s now) q (back_by who s past (back_of s q (own Program past)) call) ring.out) (sym (ring_here past who call))
    (rest_here s past who call history (subst (λ x. is_made x ≡ false) e made) legal shown sound given))))
    (λ (off : is_ring r (ring_of call) ≡ false).
    subst (λ back. IsRestSound s (given_of s now) r back (ring_at r (entry who call ∷ past)).out) (sym (back_else s past who call r off))
    (subst (λ (ring : RingState). IsRestSound s (given_of s now) r (back_of s r (own Program past)) ring.out) (sym (ring_else r past who call off))
    (rest_as s (given_of s (own Program past)) (given_of s now) r (back_of s r (own Program past)) (ring_at r past).out
    (λ f some. given_else s past who call f r legal shown (sound f) off some)
    (given.rest r made))))
    (same_or r (ring_of call))

pub given_sound : (s : Setting) (h : List Entry) → IsHistory s h → IsGivenSound s h
given_sound s [] legal = record {
  had = λ f has. refl;
  taken = λ f q is. absurd (no_source q is);
  made = λ f r made some. absurd (omega (arith, some));
  rest = λ r made. record { front = refl; again = λ f some. absurd (omega (arith, some)); comes = comes-nil s (given_of s []) r };
}
  where
    no_source : (q : Ring) → ◌≡◌ {A = Option Ring} None (Some q) → ⊥
    no_source q h = cc
given_sound s (e ∷ past) legal =
    let given = given_sound s past legal.0 in
    let sound = λ (f : ℕ). frames_sound s past f legal.0 in
    let shown = is_shown (size_of s (ring_of e.call)) past e.call legal.2 in
    record {
      had = λ f. had_step s past e.who e.call f (given.had f);
      taken = λ f q is. taken_step s past e.who e.call f q legal.1 shown (sound f) given is;
      made = λ f r made some. made_step s past e.who e.call f r made legal.1 shown (sound f) given some;
      rest = λ r made. rest_step s past e.who e.call r legal.0 made legal.1 shown sound given;
    }
