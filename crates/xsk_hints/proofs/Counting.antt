-- Oddities are counted where they belong.
use Rattle.std.proofs.Common.{◌≡◌, ◌∙◌, refl, sym, ap, subst, ℕ, ◌+◌, ◌*◌, ◌==◌, ◌&&◌, ◌<◌, Bool, true, false, cond, Option, Some, None, List, [], ◌∷◌, ◌++◌, length, drop, get_or, set, replicate, append_assoc, arith, ⊎_elim, get_or-set_same, get_or-set_other, length-set, eq-eqb, ne_eqb}
use Rattle.std.proofs.lemmas.Bool.{cases_eq}
use Rattle.std.proofs.lemmas.List.{drop_more, replicate-append-replicate, get_or-replicate}
use Rattle.xsk_umem.specs.declared.batch.XdpDesc.{XdpDesc}
use Rattle.xsk_model.specs.declared.call.Ring.{Ring}
use Rattle.xsk_model.specs.declared.call.Ring.TheVariants.{Fill, Comp, Rx, Tx}
use Rattle.xsk_model.specs.Rings.{is_ring}
use Rattle.xsk_model.proofs.Places.{is_ring-self}
use Rattle.xsk_side.specs.Setting.{Setting, HasRing}
use Rattle.xsk_side.specs.Object.{is_made}
use Rattle.xsk_side.specs.declared.call.Answer.{Answer}
use Rattle.xsk_side.specs.declared.call.Call.{Call}
use Rattle.xsk_side.specs.declared.call.Call.TheVariants.{Reserve, Free, Submit, Peek, Release, Cancel}
use Rattle.xsk_side.proofs.Rings.{same_or, is_true, is_false}
use Rattle.xsk_judge.specs.Kept.{place}
use Rattle.xsk_judge.specs.Stands.{Line}
use Rattle.xsk_judge.proofs.Behind.{apart_made, place_below, differs, more}
use Rattle.xsk_hints.specs.declared.oddity.Oddity.{Oddity}
use Rattle.xsk_hints.specs.declared.oddity.Oddity.TheVariants.{Outside, Within, Empty, Crossing, Options, Refused}
use Rattle.xsk_hints.specs.declared.tally.Tally.{Tally}
use Rattle.xsk_hints.specs.Facts.{code, is_odd, is_told, is_refusal, oddity_of, often, times_met, met, last_peek, peeks}
use Rattle.xsk_hints.specs.Noted.{Noted, IsSized, Notes, index, odd_in, peek_in, counted, counted_if, all_counted, peeked_on}
use Rattle.xsk_hints.specs.Tallies.{tally_of, no_tally, with_line}
use Rattle.xsk_hints.proofs.Tallies.{tally_more}

pub code_below : (o : Oddity) → code o < 6
code_below Outside = omega arith
code_below Within = omega arith
code_below Empty = omega arith
code_below Crossing = omega arith
code_below Options = omega arith
code_below Refused = omega arith

abbrev Fits : Setting → List Tally → Type 0
Fits s ts = length ts ≡ (length s.pairs + length s.sockets) * 6

index_below : (s : Setting) (r : Ring) (o : Oddity) → HasRing s r → index s r o < (length s.pairs + length s.sockets) * 6
index_below s r o has = omega (arith, place_below s r has, code_below o)

-- ---- one oddity

-- the same of the same ring
one_here : (s : Setting) (line : ℕ) (r : Ring) (ts : List Tally) (o p : Oddity) → Fits s ts → HasRing s r → code p ≡ code o
    → odd_in s (counted s line r ts o) r p ≡ with_line line (odd_in s ts r p)
one_here s line r ts o p size has same =
    let at : index s r p ≡ index s r o = ap (λ k. place s r * 6 + k) same in
    ap (λ k. get_or (counted s line r ts o) k no_tally) at
    ∙ get_or-set_same ts (index s r o) (with_line line (odd_in s ts r o)) no_tally (omega (arith, size, index_below s r o has))
    ∙ ap (λ k. with_line line (get_or ts k no_tally)) (sym at)

one_else : (s : Setting) (line : ℕ) (q r : Ring) (ts : List Tally) (o p : Oddity) → (index s r p ≡ index s q o → ⊥) → odd_in s (counted s line q ts o) r p ≡ odd_in s ts r p
one_else s line q r ts o p off = get_or-set_other ts (index s q o) (index s r p) (with_line line (odd_in s ts q o)) no_tally off

codes_are : (a b c d : ℕ) → c < 6 → d < 6 → a * 6 + c ≡ b * 6 + d → c ≡ d
codes_are a b c d h k e = omega (arith, h, k, e)

places_are : (a b c d : ℕ) → c < 6 → d < 6 → a * 6 + c ≡ b * 6 + d → a ≡ b
places_are a b c d h k e = omega (arith, h, k, e)

pub other_ring : (s : Setting) (line : ℕ) (q r : Ring) (ts : List Tally) (o p : Oddity) → HasRing s q → is_made q ≡ true → HasRing s r → is_made r ≡ true → is_ring r q ≡ false
    → odd_in s (counted s line q ts o) r p ≡ odd_in s ts r p
other_ring s line q r ts o p hq mq hr mr off =
    one_else s line q r ts o p (λ e. differs r q off (apart_made s r q mr mq hr hq (places_are (place s r) (place s q) (code p) (code o) (code_below p) (code_below o) e)))

-- of its own ring it is one line more, where it is the same
pub own_ring : (s : Setting) (line : ℕ) (r : Ring) (ts : List Tally) (o p : Oddity) (ls : List ℕ) → Fits s ts → HasRing s r → odd_in s ts r p ≡ tally_of ls
    → odd_in s (counted s line r ts o) r p ≡ tally_of (replicate (cond (is_odd p o) 1 0) line ++ ls)
own_ring s line r ts o p ls size has before = ⊎_elim
    (λ (same : code p ≡ code o).
    one_here s line r ts o p size has same
    ∙ ap (with_line line) before
    ∙ tally_more line ls
    ∙ ap (λ (b : Bool). tally_of (replicate (cond b 1 0) line ++ ls)) (sym (eq-eqb (code p) (code o) same)))
    (λ (off : code p ≡ code o → ⊥).
    one_else s line r r ts o p (λ e. off (codes_are (place s r) (place s r) (code p) (code o) (code_below p) (code_below o) e))
    ∙ before
    ∙ ap (λ (b : Bool). tally_of (replicate (cond b 1 0) line ++ ls)) (sym (ne_eqb (code p) (code o) off)))
    (cases_eq (code p) (code o))

pub length-counted_if : (s : Setting) (line : ℕ) (r : Ring) (ts : List Tally) (x : Option Oddity) → length (counted_if s line r ts x) ≡ length ts
length-counted_if s line r ts None = refl
length-counted_if s line r ts (Some o) = length-set ts (index s r o) (with_line line (odd_in s ts r o))

if_here : (s : Setting) (line : ℕ) (r : Ring) (ts : List Tally) (x : Option Oddity) (p : Oddity) (ls : List ℕ) → Fits s ts → HasRing s r → odd_in s ts r p ≡ tally_of ls
    → odd_in s (counted_if s line r ts x) r p ≡ tally_of (replicate (cond (is_told p x) 1 0) line ++ ls)
if_here s line r ts None p ls size has before = before
if_here s line r ts (Some o) p ls size has before = own_ring s line r ts o p ls size has before

if_else : (s : Setting) (line : ℕ) (q r : Ring) (ts : List Tally) (x : Option Oddity) (p : Oddity) → HasRing s q → is_made q ≡ true → HasRing s r → is_made r ≡ true → is_ring r q ≡ false
    → odd_in s (counted_if s line q ts x) r p ≡ odd_in s ts r p
if_else s line q r ts None p hq mq hr mr off = refl
if_else s line q r ts (Some o) p hq mq hr mr off = other_ring s line q r ts o p hq mq hr mr off

-- ---- entries

pub length-all_counted : (s : Setting) (m : Bool) (line : ℕ) (r : Ring) (es : List XdpDesc) (ts : List Tally) → length (all_counted s m line r es ts) ≡ length ts
length-all_counted s m line r [] ts = refl
length-all_counted s m line r (e ∷ es) ts = length-all_counted s m line r es (counted_if s line r ts (oddity_of s m r e)) ∙ length-counted_if s line r ts (oddity_of s m r e)

all_here : (s : Setting) (m : Bool) (line : ℕ) (r : Ring) (es : List XdpDesc) (ts : List Tally) (p : Oddity) (ls : List ℕ) → Fits s ts → HasRing s r → odd_in s ts r p ≡ tally_of ls
    → odd_in s (all_counted s m line r es ts) r p ≡ tally_of (replicate (often s m r p es) line ++ ls)
all_here s m line r [] ts p ls size has before = before
all_here s m line r (e ∷ es) ts p ls size has before =
    let x = oddity_of s m r e in
    let one = cond (is_told p x) 1 0 in
    let rest = often s m r p es in
    let swap : rest + one ≡ one + rest = omega arith in
    all_here s m line r es (counted_if s line r ts x) p (replicate one line ++ ls) (length-counted_if s line r ts x ∙ size) has (if_here s line r ts x p ls size has before)
    ∙ ap tally_of (sym (append_assoc (replicate rest line) (replicate one line) ls)
    ∙ ap (λ xs. xs ++ ls) (replicate-append-replicate rest one line ∙ ap (λ n. replicate n line) swap))

all_else : (s : Setting) (m : Bool) (line : ℕ) (q r : Ring) (es : List XdpDesc) (ts : List Tally) (p : Oddity) → HasRing s q → is_made q ≡ true → HasRing s r → is_made r ≡ true → is_ring r q ≡ false
    → odd_in s (all_counted s m line q es ts) r p ≡ odd_in s ts r p
all_else s m line q r [] ts p hq mq hr mr off = refl
all_else s m line q r (e ∷ es) ts p hq mq hr mr off =
    all_else s m line q r es (counted_if s line q ts (oddity_of s m q e)) p hq mq hr mr off ∙ if_else s line q r ts (oddity_of s m q e) p hq mq hr mr off

-- one entry more
pub all_more : (s : Setting) (m : Bool) (line : ℕ) (r : Ring) (es : List XdpDesc) (i : ℕ) (d : XdpDesc) (x : Option Oddity) (old new first : List Tally) → i < length es
    → x ≡ oddity_of s m r (get_or es i d) → new ≡ counted_if s line r old x → all_counted s m line r (drop i es) old ≡ all_counted s m line r es first
    → all_counted s m line r (drop (i + 1) es) new ≡ all_counted s m line r es first
all_more s m line r es i d x old new first low told counted_so before =
    ap (all_counted s m line r (drop (i + 1) es)) (counted_so ∙ ap (counted_if s line r old) told)
    ∙ sym (ap (λ xs. all_counted s m line r xs old) (drop_more es i d low))
    ∙ before

-- ---- calls

-- a call that has no oddity, and is no Peek on COMPLETION
plain : (s : Setting) (noted : Noted) (line : ℕ) (call : Call) (lines : List Line) → Notes s noted lines
    → ((r : Ring) → HasRing s r → is_made r ≡ true → (o : Oddity) → times_met s noted.metadata r o call ≡ 0)
    → ((d : ℕ) → d < length s.pairs → peeks (Comp d) call ≡ false) → Notes s noted (more line call lines)
plain s noted line call lines now none no_peek = record {
  odd = λ r has made o. now.odd r has made o ∙ ap (λ n. tally_of (replicate n line ++ met s noted.metadata r o lines)) (sym (none r has made o));
  peeked = λ d low. now.peeked d low ∙ sym (is_false (peeks (Comp d) call) line (last_peek (Comp d) lines) (no_peek d low));
}

pub notes_free : (s : Setting) (noted : Noted) (line : ℕ) (r : Ring) (n places : ℕ) (lines : List Line) → Notes s noted lines → Notes s noted (more line (Free r n places) lines)
notes_free s noted line r n places lines now = plain s noted line (Free r n places) lines now (λ q has made o. refl) (λ d low. refl)

pub notes_release : (s : Setting) (noted : Noted) (line : ℕ) (r : Ring) (n : ℕ) (lines : List Line) → Notes s noted lines → Notes s noted (more line (Release r n) lines)
notes_release s noted line r n lines now = plain s noted line (Release r n) lines now (λ q has made o. refl) (λ d low. refl)

pub notes_cancel : (s : Setting) (noted : Noted) (line : ℕ) (r : Ring) (n : ℕ) (lines : List Line) → Notes s noted lines → Notes s noted (more line (Cancel r n) lines)
notes_cancel s noted line r n lines now = plain s noted line (Cancel r n) lines now (λ q has made o. refl) (λ d low. refl)

-- a ring that isn't told of is none that is
elsewhere : (s : Setting) (q r : Ring) → (HasRing s q × (is_made q ≡ true) → ⊥) → HasRing s r → is_made r ≡ true → is_ring r q ≡ false
elsewhere s q r none has made = ⊎_elim
    (λ (e : r ≡ q). absurd (none (subst (HasRing s) e has, subst (λ x. is_made x ≡ true) e made)))
    (λ (off : is_ring r q ≡ false). off)
    (same_or r q)

pub notes_reserve_none : (s : Setting) (noted : Noted) (line : ℕ) (q : Ring) (n : ℕ) (answer : Answer) (lines : List Line) → (HasRing s q × (is_made q ≡ true) → ⊥)
    → Notes s noted lines → Notes s noted (more line (Reserve q n answer) lines)
notes_reserve_none s noted line q n answer lines none now = plain s noted line (Reserve q n answer) lines now
    (λ r has made o. ap (λ (b : Bool). cond (b && (is_odd o Refused && is_refusal answer)) 1 0) (elsewhere s q r none has made)) (λ d low. refl)

pub notes_granted : (s : Setting) (noted : Noted) (line : ℕ) (q : Ring) (n : ℕ) (answer : Answer) (lines : List Line) → is_refusal answer ≡ false
    → Notes s noted lines → Notes s noted (more line (Reserve q n answer) lines)
notes_granted s noted line q n answer lines granted now = plain s noted line (Reserve q n answer) lines now
    (λ r has made o. by (is_ring r q) (is_odd o Refused) (is_refusal answer) granted) (λ d low. refl)
  where
    by : (a b c : Bool) → c ≡ false → ◌≡◌ {A = ℕ} (cond (a && (b && c)) 1 0) 0
    by a b c h = grind (arith, h)

pub notes_submit_none : (s : Setting) (noted : Noted) (line : ℕ) (q : Ring) (es : List XdpDesc) (lines : List Line) → (HasRing s q × (is_made q ≡ true) → ⊥)
    → Notes s noted lines → Notes s noted (more line (Submit q es) lines)
notes_submit_none s noted line q es lines none now = plain s noted line (Submit q es) lines now
    (λ r has made o. is_false (is_ring r q) (often s noted.metadata r o es) 0 (elsewhere s q r none has made)) (λ d low. refl)

abbrev noted_of : List Tally → List ℕ → Bool → Noted
noted_of ts ps m = record { tallies = ts; peeks = ps; metadata = m }

pub noted_is : (ts us : List Tally) (ps qs : List ℕ) (m n : Bool) → ts ≡ us → ps ≡ qs → m ≡ n → noted_of ts ps m ≡ noted_of us qs n
noted_is ts us ps qs m n h k l = ap (λ xs. noted_of xs ps m) h ∙ ap (λ xs. noted_of us xs m) k ∙ ap (noted_of us qs) l

abbrev with_tallies : Noted → List Tally → Noted
with_tallies noted ts = record noted { tallies = ts }

pub notes_submit : (s : Setting) (noted noted' : Noted) (line : ℕ) (q : Ring) (es : List XdpDesc) (lines : List Line) → IsSized s noted → HasRing s q → is_made q ≡ true
    → noted' ≡ with_tallies noted (all_counted s noted.metadata line q es noted.tallies) → Notes s noted lines → Notes s noted' (more line (Submit q es) lines)
notes_submit s noted noted' line q es lines size hq mq is now = subst (λ x. Notes s x (more line (Submit q es) lines)) (sym is) (record {
  odd = λ r has made o. ⊎_elim
      (λ (e : r ≡ q). subst (λ x. odd_in s (all_counted s noted.metadata line q es noted.tallies) x o ≡ tally_of (replicate (times_met s noted.metadata x o (Submit q es)) line ++ met s noted.metadata x o lines)) (sym e)
      (all_here s noted.metadata line q es noted.tallies o (met s noted.metadata q o lines) size.tallies hq (now.odd q hq mq o)
      ∙ ap (λ n. tally_of (replicate n line ++ met s noted.metadata q o lines)) (sym (is_true (is_ring q q) (often s noted.metadata q o es) 0 (is_ring-self q)))))
      (λ (off : is_ring r q ≡ false).
      all_else s noted.metadata line q r es noted.tallies o hq mq has made off
      ∙ now.odd r has made o
      ∙ ap (λ n. tally_of (replicate n line ++ met s noted.metadata r o lines)) (sym (is_false (is_ring r q) (often s noted.metadata r o es) 0 off)))
      (same_or r q);
  peeked = λ d low. now.peeked d low;
})

pub notes_refused : (s : Setting) (noted noted' : Noted) (line : ℕ) (q : Ring) (n : ℕ) (answer : Answer) (lines : List Line) → IsSized s noted → HasRing s q → is_made q ≡ true → is_refusal answer ≡ true
    → noted' ≡ with_tallies noted (counted s line q noted.tallies Refused) → Notes s noted lines → Notes s noted' (more line (Reserve q n answer) lines)
notes_refused s noted noted' line q n answer lines size hq mq refused is now = subst (λ x. Notes s x (more line (Reserve q n answer) lines)) (sym is) (record {
  odd = λ r has made o. ⊎_elim
      (λ (e : r ≡ q). subst (λ x. odd_in s (counted s line q noted.tallies Refused) x o ≡ tally_of (replicate (times_met s noted.metadata x o (Reserve q n answer)) line ++ met s noted.metadata x o lines)) (sym e)
      (own_ring s line q noted.tallies Refused o (met s noted.metadata q o lines) size.tallies hq (now.odd q hq mq o)
      ∙ ap (λ (b : Bool). tally_of (replicate (cond b 1 0) line ++ met s noted.metadata q o lines)) (sym (here (is_ring q q) (is_odd o Refused) (is_refusal answer) (is_ring-self q) refused))))
      (λ (off : is_ring r q ≡ false).
      other_ring s line q r noted.tallies Refused o hq mq has made off
      ∙ now.odd r has made o
      ∙ ap (λ (b : Bool). tally_of (replicate (cond (b && (is_odd o Refused && is_refusal answer)) 1 0) line ++ met s noted.metadata r o lines)) (sym off))
      (same_or r q);
  peeked = λ d low. now.peeked d low;
})
  where
    here : (a b c : Bool) → a ≡ true → c ≡ true → (a && (b && c)) ≡ b
    here a b c h k = grind (arith, h, k)

-- ---- a Peek

peek_else : (s : Setting) (noted : Noted) (line : ℕ) (q : Ring) (n : ℕ) (es : List XdpDesc) (lines : List Line) → ((d : ℕ) → is_ring (Comp d) q ≡ false)
    → Notes s noted lines → Notes s noted (more line (Peek q n es) lines)
peek_else s noted line q n es lines off now = plain s noted line (Peek q n es) lines now (λ r has made o. refl) (λ d low. off d)

abbrev with_peeks : Noted → List ℕ → Noted
with_peeks noted ps = record noted { peeks = ps }

pub notes_peek : (s : Setting) (noted : Noted) (line : ℕ) (q : Ring) (n : ℕ) (es : List XdpDesc) (lines : List Line) → IsSized s noted → Notes s noted lines
    → Notes s (with_peeks noted (peeked_on line q noted.peeks)) (more line (Peek q n es) lines)
notes_peek s noted line (Fill e) n es lines size now = peek_else s noted line (Fill e) n es lines (λ d. refl) now
notes_peek s noted line (Rx e) n es lines size now = peek_else s noted line (Rx e) n es lines (λ d. refl) now
notes_peek s noted line (Tx e) n es lines size now = peek_else s noted line (Tx e) n es lines (λ d. refl) now
notes_peek s noted line (Comp e) n es lines size now = record {
  odd = λ r has made o. now.odd r has made o;
  peeked = λ d low. ⊎_elim
      (λ (same : d ≡ e).
      subst (λ x. peek_in (set noted.peeks x line) d ≡ line) same (get_or-set_same noted.peeks d line 0 (omega (arith, low, size.peeks)))
      ∙ sym (is_true (d == e) line (last_peek (Comp d) lines) (eq-eqb d e same)))
      (λ (off : d ≡ e → ⊥).
      get_or-set_other noted.peeks e d line 0 off
      ∙ now.peeked d low
      ∙ sym (is_false (d == e) line (last_peek (Comp d) lines) (ne_eqb d e off)))
      (cases_eq d e);
}

-- ---- before the first call

pub notes_first : (s : Setting) (noted : Noted) (n : ℕ) → n ≡ (length s.pairs + length s.sockets) * 6 → noted.tallies ≡ replicate n no_tally → noted.peeks ≡ replicate (length s.pairs) 0
    → Notes s noted []
notes_first s noted n size ts ps = record {
  odd = λ r has made o. ap (λ xs. get_or xs (index s r o) no_tally) ts ∙ get_or-replicate n (index s r o) no_tally no_tally (omega (arith, size, index_below s r o has));
  peeked = λ d low. ap (λ xs. get_or xs d 0) ps ∙ get_or-replicate (length s.pairs) d 0 0 low;
}
