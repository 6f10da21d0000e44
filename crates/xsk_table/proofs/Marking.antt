-- The swap of a mark's word and the look at it keep the rule.
use Rattle.std.proofs.Common.{◌≡◌, ◌≢◌, ℕ, ◌+◌, ◌<◌, false, List, [], ◌∷◌, ◌++◌, length, get_or, set, refl, ap, sym, ◌∙◌, subst, ⊎_elim}
use Rattle.std.specs.Prelude.{Option, slice_index}
use mathlib.Core.Option.{none}
use lib.Seq.{set-get_or}
use Rattle.std.proofs.lemmas.Bool.{cases_eq}
use Rattle.std.proofs.lemmas.List.{length-set}
use Rattle.atomic_table.specs.Table.{State, step, keeps, Allows}
use Rattle.xsk_umem.specs.Frame.{Frame}
use Rattle.xsk_model.specs.Config.{IsConfig, HasRing, callers_of}
use Rattle.xsk_model.specs.Numbers.{times, numbers}
use Rattle.xsk_model.specs.Rings as rings
use Rattle.xsk_model.specs.Rings.{place}
use Rattle.xsk_model.specs.Marks.{HasMark}
use Rattle.xsk_model.specs.Object.{RingState, ring_at, mark_at, reply_at}
use Rattle.xsk_model.specs.Entry.{Told, Entry, own, with_told}
use Rattle.xsk_model.specs.Own.{is_on, given_step, released_step}
use Rattle.xsk_model.specs.History.{IsHistory, state_after}
use Rattle.xsk_model.specs.Legal.{IsLegal}
use Rattle.xsk_model.specs.declared.call.Ring.{Ring}
use Rattle.xsk_model.specs.declared.call.Mark.{Mark}
use Rattle.xsk_model.specs.declared.call.Call.{Call}
use Rattle.xsk_model.specs.declared.call.Call.TheVariants.{Swap, Look}
use Rattle.xsk_model.specs.declared.call.Reply.{Reply}
use Rattle.xsk_model.specs.declared.call.Reply.TheVariants.{Old}
use Rattle.xsk_model.proofs.Folds.{own-push_other, part_of_own-push_other}
use Rattle.xsk_model.proofs.CallTheorems.{one_more, marks_after_entry}
use Rattle.xsk_table.specs.Layout.{mark, word_at, words_of}
use Rattle.xsk_table.proofs.Rows.{own_words}
use Rattle.xsk_table.specs.View.{Basis, Flight, idle, View}
use Rattle.xsk_table.specs.Rule.{at, opened, written, lying, aloft, AllHome, Rule}
use Rattle.xsk_table.specs.Plays.{Seated, Purpose, IsReady, Extends, swaps, looks, entry}
use Rattle.xsk_table.specs.Held.{EndsHold, PassHolds, no_end}
use Rattle.xsk_table.specs.declared.end.End.{End}
use Rattle.xsk_table.proofs.WordRows.{SameWords, same_words, write_here, write_else, write_other_ring, ring_word}
use Rattle.xsk_table.proofs.Changed.{Change, now, ring_now, flight_of}
use Rattle.xsk_table.proofs.Knowing.{known, legal_now}
use Rattle.xsk_table.proofs.Adding.{later, ring_else, acts}
use Rattle.xsk_table.proofs.Holding.{end_else, idle_taking}

-- where a mark's word stands, by a setup that is another's
pub mark_word_at : (v k : Basis) (m : Mark) (word words : ℕ) → v ≡ k → IsConfig v.config → HasMark v.config m → words ≡ words_of k.config → word ≡ word_at k.config (mark m)
    → (word ≡ word_at k.config (mark m)) × (word < words)
mark_word_at v k m word words same config has all is =
    let below : Basis → Type 0 = λ t. word_at t.config (mark m) < words_of t.config in
    let here : word_at k.config (mark m) < words_of k.config = subst below same (own_words v.config (mark m) (mark m) config has has).0 in
    (is, let P : ℕ × ℕ → Type 0 = λ t. t.0 < t.1 in subst P (λ i. (sym is i, sym all i)) here)

same_mark : (m n : Mark) → mark m ≡ mark n → m ≡ n
same_mark m n e = cc

swapped : (m n : Mark) (a b : ℕ) → Swap m a ≡ Swap n b → m ≡ n
swapped m n a b e = cc

no_swap : (m n : Mark) (b : ℕ) → Look m ≡ Swap n b → ⊥
no_swap m n b e = cc

-- a step that adds an entry on no ring, by a caller with no call in flight
module _ (k : Basis) (s : State (Option Frame) View) (rule : Rule k s) (e : Entry) (legal : IsLegal k.config (own e.who rule.log) e.who e.call) (off : (r : Ring) → is_on r e.call ≡ false) where
  stays : (r : Ring) → HasRing k.config r → ring_at k.config (later k s rule e legal) r ≡ ring_now k s rule r
  stays r has = ring_else k s rule e legal r has (off r)

  marks_alone : (words' : List ℕ) → e.reply ≡ reply_at k.config (now k s rule) e.call → flight_of k s rule e.who ≡ idle
      → length words' ≡ length s.words
      → ((r : Ring) → HasRing k.config r → SameWords k.config s.words words' r)
      → ((m : Mark) → HasMark k.config m → at k.config words' (mark m) ≡ mark_at k.config (later k s rule e legal) m)
      → Change k s rule e.who (λ r. is_on r e.call) words' s.homes (rule.log ++ e ∷ []) idle
  marks_alone words' reply rests words_len words_same marks =
      let c = k.config in
      record {
        caller = legal.caller;
        legal = one_more c k.frames rule.log e rule.legal legal reply;
        grows = (e ∷ [], refl);
        others = λ n other. own-push_other n rule.log e (λ is. other (sym is));
        words_len = words_len;
        homes_len = refl;
        words_same = λ r has no. words_same r has;
        rings_same = λ r has no. stays r has;
        counts_same = λ r has no. (
          ap (λ n. opened k r + n) (part_of_own-push_other given_step r 0 (rings.producer c r) rule.log e no),
          part_of_own-push_other released_step r 0 (rings.consumer c r) rule.log e no,
        );
        written_same = λ r has no. ap (written r) (sym rests);
        held_same = λ r has no. ap (λ (q : RingState). q.held) (stays r has);
        here = λ r has on. absurd (let none : is_on r e.call ≡ false = off r in cc);
        marks = marks;
        mine = tt;
        outs = λ r has. subst (λ (q : RingState). AllHome s.homes q.out) (sym (stays r has)) (rule.outs r has);
        lie_mine = tt;
        lie_else = λ w no. rule.lie w;
        vacant = λ n lt no_ring no_mine no_call. rule.vacant n lt
            (λ r has. ap (λ (q : RingState). times n (numbers q.out)) (sym (stays r has)) ∙ no_ring r has)
            (λ w. ⊎_elim (λ (is : w ≡ e.who). ap (λ x. times n (numbers (aloft (flight_of k s rule x)))) is ∙ ap (λ (f : Flight). times n (numbers (aloft f))) rests) (λ (no : w ≢ e.who). no_call w no) (cases_eq w e.who));
      }

pub swaps_keep : (slots id : ℕ) (me : Seated) (a : Purpose) (word : ℕ) → IsReady a (Swap a.mark a.count) me.0 → me.0.flight ≡ idle → word ≡ word_at a.setup.config (mark a.mark)
    → Allows (Rule a.setup) slots id me word (λ _. a.count) (swaps a (step slots word a.count 0 none) me)
swaps_keep slots id me a word ready rests at_word s rule wide at_id small =
    let k = a.setup in
    let c = k.config in
    let m = a.mark in
    let who = a.who in
    let v = me.0 in
    let value : ℕ = a.count in
    let call = Swap m value in
    let kn = known k s rule id who v at_id ready.one ready.legal.caller in
    let legal = legal_now k s rule who call v kn ready.legal in
    let has = legal.known in
    let config = rule.legal.opened.config in
    let e = entry who call (reply_at c (now k s rule) call) in
    let words' = set s.words (word_at c (mark m)) value in
    let then_legal : IsHistory c k.frames (rule.log ++ e ∷ []) = one_more c k.frames rule.log e rule.legal legal refl in
    let ch : Change k s rule who (λ r. is_on r call) words' s.homes (rule.log ++ e ∷ []) idle = marks_alone k s rule e legal (λ r. refl) words' refl (kn.flight ∙ rests) (length-set s.words _ _)
    (λ r there. write_other_ring c s.words (mark m) value config has r there (λ is. ring_word r (sym is)))
    (λ n there. ⊎_elim
    (λ (is : word_at c (mark n) ≡ word_at c (mark m)).
    subst (λ (x : Mark). at c words' (mark x) ≡ mark_at c (state_after c k.frames (rule.log ++ e ∷ [])) x) (sym (same_mark n m ((own_words c (mark n) (mark m) config there has).1 is)))
    (write_here c s.words (mark m) value config has rule.words_len ∙ sym ((marks_after_entry c k.frames rule.log e m then_legal has).0 value refl)))
    (λ (no : word_at c (mark n) ≢ word_at c (mark m)).
    write_else c s.words (mark m) value config has (mark n) there (λ is. no (ap (word_at c) is)) ∙ rule.marks n there
    ∙ sym ((marks_after_entry c k.frames rule.log e n then_legal there).1 (λ b is. no (ap (λ (x : Mark). word_at c (mark x)) (sym (swapped m n value b is))))))
    (cases_eq (word_at c (mark n)) (word_at c (mark m)))) in
    let did = acts k s rule id who call v words' idle at_id ready.one ready.alone kn legal ch in
    let w : View = record v { seen = rule.log ++ e ∷ []; flight = idle } in
    let found_is : slice_index s.words word ≡ mark_at c (now k s rule) m = ap (λ n. get_or s.words n 0) at_word ∙ rule.marks m has in (
      w,
      keeps,
      tt,
      subst (λ (i : ℕ). Rule k record { words = set s.words i value; homes = s.homes; views = set s.views id w }) (sym at_word) did.0,
      record { extends = subst (λ (n : ℕ). Extends k who call (Old n) v w) (sym found_is) did.1; slots = refl; flight = refl },
    )

pub looks_keep : (slots id : ℕ) (me : Seated) (a : Purpose) (word : ℕ) → IsReady a (Look a.mark) me.0 → me.0.flight ≡ idle → word ≡ word_at a.setup.config (mark a.mark)
    → Allows (Rule a.setup) slots id me word (λ n. n) (looks a (step slots word 0 0 none) me)
looks_keep slots id me a word ready rests at_word s rule wide at_id small =
    let k = a.setup in
    let c = k.config in
    let m = a.mark in
    let who = a.who in
    let v = me.0 in
    let call = Look m in
    let kn = known k s rule id who v at_id ready.one ready.legal.caller in
    let legal = legal_now k s rule who call v kn ready.legal in
    let has = legal.known in
    let e = entry who call (reply_at c (now k s rule) call) in
    let then_legal : IsHistory c k.frames (rule.log ++ e ∷ []) = one_more c k.frames rule.log e rule.legal legal refl in
    let ch : Change k s rule who (λ r. is_on r call) s.words s.homes (rule.log ++ e ∷ []) idle = marks_alone k s rule e legal (λ r. refl) s.words refl (kn.flight ∙ rests) refl
    (λ r there. same_words c s.words r)
    (λ n there. rule.marks n there ∙ sym ((marks_after_entry c k.frames rule.log e n then_legal there).1 (λ b is. no_swap m n b is))) in
    let did = acts k s rule id who call v s.words idle at_id ready.one ready.alone kn legal ch in
    let w : View = record v { seen = rule.log ++ e ∷ []; flight = idle } in
    let found_is : slice_index s.words word ≡ mark_at c (now k s rule) m = ap (λ n. get_or s.words n 0) at_word ∙ rule.marks m has in (
      w,
      keeps,
      tt,
      subst (λ (ws : List ℕ). Rule k record { words = ws; homes = s.homes; views = set s.views id w }) (sym (set-get_or s.words word 0)) did.0,
      record { extends = subst (λ (n : ℕ). Extends k who call (Old n) v w) (sym found_is) did.1; slots = refl; flight = refl },
    )

-- a pass after a call on no ring
pub pass_marked : (v w : View) (slots slots' : List (ℕ × Option Frame)) (who : ℕ) (ends : List End) (flying : ℕ) (call : Call) (reply : Reply) → PassHolds v slots who ends flying
    → ((r : Ring) → is_on r call ≡ false) → Extends v.setup who call reply v w → slots' ≡ slots → v.flight ≡ idle → w.flight ≡ idle → PassHolds w slots' who ends flying
pass_marked v w slots slots' who ends flying call reply ok off ex same rests now_idle =
    let k = v.setup in
    let mine = own who v.seen in
    let all : EndsHold k who (with_told mine call reply) ends = record {
      wide = ok.ends_hold.wide;
      each = λ r has. end_else k who mine r call reply (get_or ends (place k.config r) no_end) (off r) (ok.ends_hold.each r has);
    } in
    record {
      one = ex.callers ∙ ok.one;
      alone = ex.others ∙ ok.alone;
      few = subst (λ (t : Basis). who < callers_of t.config) (sym ex.setup) ok.few;
      ends_hold = let P : Basis × List Told → Type 0 = λ t. EndsHold t.0 who t.1 ends in subst P (λ i. (sym ex.setup i, sym ex.mine i)) all;
      flying_is = ok.flying_is ∙ ap (λ (f : Flight). length (lying f)) (rests ∙ sym now_idle);
      slots_are = same ∙ ok.slots_are;
      left = λ r items is_taking. absurd (idle_taking r items (sym now_idle ∙ is_taking));
      history = subst (λ (t : Basis). IsHistory t.config t.frames w.seen) (sym ex.setup) ex.legal;
    }
