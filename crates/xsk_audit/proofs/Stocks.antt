-- The shelf has each frame that a caller has, and no other.
use Rattle.std.proofs.Common.{◌≡◌, ℕ, ◌+◌, ◌-◌, ◌<◌, ◌≤◌, List, [], ◌∷◌, ◌++◌, length, set, All, Option, Some, None, refl, sym, ap, subst, ◌∙◌, arith, inl, inr, length-set}
use Rattle.std.proofs.lemmas.Bool.{cases_eq, cases_lt}
use Rattle.std.proofs.lemmas.List.Elements.{All-head, All-tail}
use Rattle.xsk_umem.specs.Frame.{Frame}
use Rattle.xsk_umem.specs.Geometry.{Geometry}
use Rattle.xsk_umem.specs.declared.batch.Item.{Item}
use Rattle.xsk_model.specs.Config.{Config}
use Rattle.xsk_model.specs.Numbers.{times, number_of, numbers, without}
use Rattle.xsk_model.specs.Object.{submitted, taken, had_after}
use Rattle.xsk_model.specs.Entry.{Entry, own, told}
use Rattle.xsk_model.specs.Own.{had_of}
use Rattle.xsk_model.specs.Legal.{IsLegal}
use Rattle.xsk_model.specs.History.{IsHistory, state_after}
use Rattle.xsk_model.specs.declared.call.Call.{Call}
use Rattle.xsk_model.specs.declared.call.Call.TheVariants.{Reserve, Submit, Peek, Release, Swap, Look}
use Rattle.xsk_model.proofs.Counting.{times-append, times-without, its_own}
use Rattle.xsk_model.proofs.Distinct.{elsewhere}
use Rattle.xsk_model.proofs.Folds.{own-push_same, own-push_other, had_of-push}
use Rattle.xsk_model.proofs.Histories.{history_sound, history_first}
use Rattle.xsk_model.proofs.Replies.{times-had}
use Rattle.xsk_model.proofs.FrameTheorems.{frames_below, submits_own}
use Rattle.xsk_audit.specs.Shelf.{Places, frame_at, one, has, AreInPlace, with_frame, with_items, needed, descs_of, HasItsFrame, Lacks}
use Rattle.xsk_audit.specs.Playing.{AreHad, IsStocked}
use Rattle.xsk_audit.proofs.Shelves.{set-here, set-other, places-with, numbers-needed, none-behind}
use Rattle.xsk_audit.proofs.Bodied.{its-frame}

-- ---- frames that are put there

pub with-length : (places : Places) (items : List Item) → length (with_items places items) ≡ length places
with-length places [] = refl
with-length places (item ∷ items) = with-length (with_frame places item.frame) items ∙ one_more item.frame
  where
    one_more : (o : Option Frame) → length (with_frame places o) ≡ length places
    one_more None = refl
    one_more (Some f) = length-set places f.number (Some f)

pub with-places : (g : Geometry) (places : Places) (items : List Item) → All (HasItsFrame g) items → AreInPlace g places → AreInPlace g (with_items places items)
with-places g places [] all are = are
with-places g places (item ∷ items) all are =
    with-places g (with_frame places item.frame) items (All-tail (HasItsFrame g) item items all) (places-with g places item.frame (All-head (HasItsFrame g) item items all).1 are)

pub at-most : (places : Places) (n : ℕ) → has places n ≤ 1
at-most places n = by (frame_at places n)
  where
    by : (o : Option Frame) → one o ≤ 1
    by None = omega arith
    by (Some f) = omega arith

set-has : (places : Places) (f : Frame) (n : ℕ) → n ≡ f.number → n < length places → has (set places f.number (Some f)) n ≡ 1
set-has places f n same within =
    ap (has (set places f.number (Some f))) same ∙ ap one (set-here places f.number (Some f) (subst (λ k. k < length places) same within))

-- one frame that is put there
one-with : (places : Places) (o : Option Frame) (n : ℕ) → has places n ≤ has (with_frame places o) n
one-with places None n = omega arith
one-with places (Some f) n = elim (cases_eq n f.number) [
  | inl same ↦ elim (cases_lt n (length places)) [
    | inl within ↦ omega (arith, at-most places n, set-has places f n same within)
    | inr past ↦ omega (arith, ap one (none-behind places n past))
  ]
  | inr other ↦ omega (arith, ap one (set-other places f.number n (Some f) other))
]

with-more : (places : Places) (items : List Item) (n : ℕ) → has places n ≤ has (with_items places items) n
with-more places [] n = omega arith
with-more places (item ∷ items) n = omega (arith, one-with places item.frame n, with-more (with_frame places item.frame) items n)

frame-there : (places : Places) (o : Option Frame) (n : ℕ) → n < length places → 1 ≤ times n (number_of o) → has (with_frame places o) n ≡ 1
frame-there places None n within some = absurd (omega (arith, some))
frame-there places (Some f) n within some = elim (cases_eq f.number n) [
  | inl same ↦ set-has places f n (sym same) within
  | inr other ↦ absurd (omega (arith, some, elsewhere f.number n other))
]

-- frames that are put there lie there
with-there : (places : Places) (items : List Item) (n : ℕ) → n < length places → 1 ≤ times n (numbers items) → has (with_items places items) n ≡ 1
with-there places [] n within some = absurd (omega (arith, some))
with-there places (item ∷ items) n within some = elim (cases_lt 0 (times n (numbers items))) [
  | inl later ↦ with-there (with_frame places item.frame) items n (omega (arith, within, with-length places (item ∷ []))) later
  | inr none ↦
      let here = frame-there places item.frame n within (omega (arith, some, none, times-append n (number_of item.frame) (numbers items))) in
      omega (arith, here, with-more (with_frame places item.frame) items n, at-most (with_items (with_frame places item.frame) items) n)
]

-- a place stays as it is where no frame is put there
with-one-none : (places : Places) (o : Option Frame) (n : ℕ) → times n (number_of o) ≤ 0 → has (with_frame places o) n ≡ has places n
with-one-none places None n none = refl
with-one-none places (Some f) n none = elim (cases_eq f.number n) [
  | inl same ↦ absurd (omega (arith, none, its_own f.number n same))
  | inr other ↦ ap one (set-other places f.number n (Some f) (λ is. other (sym is)))
]

with-none : (places : Places) (items : List Item) (n : ℕ) → times n (numbers items) ≤ 0 → has (with_items places items) n ≡ has places n
with-none places [] n none = refl
with-none places (item ∷ items) n none =
    let split = times-append n (number_of item.frame) (numbers items) in
    with-none (with_frame places item.frame) items n (omega (arith, none, split)) ∙ with-one-none places item.frame n (omega (arith, none, split))

module _ (c : Config) (frames : List Frame) (h : List Entry) (places : Places) where
  abbrev had : ℕ → ℕ → ℕ
  had who n = times n (had_of (own who h))

  pub needs : (who : ℕ) (call : Call) → IsLegal c (own who h) who call → (n : ℕ) → times n (needed c.geometry (descs_of (submitted call))) ≤ had who n
  needs who (Reserve r k) legal n = omega arith
  needs who (Submit r items) legal n = omega (arith, legal.frames n, ap (times n) (numbers-needed c.geometry items (its-frame c.geometry r items legal.items)))
  needs who (Peek r k) legal n = omega arith
  needs who (Release r k) legal n = omega arith
  needs who (Swap m value) legal n = omega arith
  needs who (Look m) legal n = omega arith

  -- the frames of a legal call are there
  pub lacks-none : (who : ℕ) (call : Call) → IsHistory c frames h → IsStocked h places → IsLegal c (own who h) who call → Lacks c.geometry places (descs_of (submitted call)) → ⊥
  lacks-none who call history stocked legal lacks =
      let n = lacks.0 in
      let few = times-had c frames (state_after c frames h) h who n (history_sound c frames h history) in
      let enough = needs who call legal n in
      let some : 1 ≤ had who n = omega (arith, lacks.1, enough) in
      omega (arith, lacks.1, enough, few, stocked who n some)

  -- after one more call, whose frames were taken, and those of its reply put there
  pub stocked-step : (mid : Places) (e : Entry) → IsHistory c frames (h ++ e ∷ []) → length places ≡ c.geometry.frames → length mid ≡ length places
      → ((n : ℕ) → has mid n + times n (numbers (submitted e.call)) ≡ has places n) → IsStocked h places
      → IsStocked (h ++ e ∷ []) (with_items mid (taken e.reply))
  stocked-step mid e history size kept left stocked who n some = elim (cases_lt 0 (times n (numbers (taken e.reply)))) [
    | inl came ↦ with-there mid (taken e.reply) n (omega (arith, size, kept, (frames_below c frames (h ++ e ∷ []) history).0 who n some)) came
    | inr none ↦
        let before : has mid n ≡ 1 = stays none in
        omega (arith, before, with-more mid (taken e.reply) n, at-most (with_items mid (taken e.reply)) n)
  ]
    where
      first : IsHistory c frames h
      first = history_first c frames h (e ∷ []) history

      its_own_left : e.who ≡ who → times n (numbers (taken e.reply)) ≤ 0 → has mid n ≡ 1
      its_own_left is none =
          let now : had_of (own who (h ++ e ∷ [])) ≡ had_after (had_of (own who h)) e.call e.reply = ap had_of (own-push_same who h e is) ∙ had_of-push (own who h) (told e) in
          let count : times n (had_after (had_of (own who h)) e.call e.reply) ≡ times n (without (numbers (submitted e.call)) (had_of (own who h))) + times n (numbers (taken e.reply)) =
          times-append n (without (numbers (submitted e.call)) (had_of (own who h))) (numbers (taken e.reply)) in
          let less = times-without n (numbers (submitted e.call)) (had_of (own who h)) in
          let few = times-had c frames (state_after c frames h) h who n (history_sound c frames h first) in
          let had_it : 1 ≤ times n (had_of (own who h)) = omega (arith, some, ap (times n) now, count, less, none) in
          omega (arith, some, ap (times n) now, count, less, none, few, left n, stocked who n had_it)

      others_left : (e.who ≡ who → ⊥) → has mid n ≡ 1
      others_left other =
          let now : own who (h ++ e ∷ []) ≡ own who h = own-push_other who h e other in
          let had_it : 1 ≤ times n (had_of (own who h)) = omega (arith, some, ap (λ mine. times n (had_of mine)) now) in
          let apart = (submits_own c frames h [] e history).0 who (λ is. other (sym is)) n in
          omega (arith, had_it, apart, left n, stocked who n had_it)

      stays : times n (numbers (taken e.reply)) ≤ 0 → has mid n ≡ 1
      stays none = elim (cases_eq e.who who) [
        | inl is ↦ its_own_left is none
        | inr other ↦ others_left other
      ]

  -- and none lies there that no caller has
  pub had-step : (mid : Places) (e : Entry) → ((n : ℕ) → has mid n + times n (numbers (submitted e.call)) ≡ has places n) → AreHad h places → AreHad (h ++ e ∷ []) (with_items mid (taken e.reply))
  had-step mid e left known n there = elim (cases_lt 0 (times n (numbers (taken e.reply)))) [
    | inl came ↦ (e.who, omega (arith, came, grown e.who refl))
    | inr none ↦ stays none
  ]
    where
      grown : (who : ℕ) → e.who ≡ who → times n (had_of (own who (h ++ e ∷ []))) ≡ times n (had_of (own who h)) - times n (numbers (submitted e.call)) + times n (numbers (taken e.reply))
      grown who is =
          let now : had_of (own who (h ++ e ∷ [])) ≡ had_after (had_of (own who h)) e.call e.reply = ap had_of (own-push_same who h e is) ∙ had_of-push (own who h) (told e) in
          let count : times n (had_after (had_of (own who h)) e.call e.reply) ≡ times n (without (numbers (submitted e.call)) (had_of (own who h))) + times n (numbers (taken e.reply)) =
          times-append n (without (numbers (submitted e.call)) (had_of (own who h))) (numbers (taken e.reply)) in
          omega (arith, ap (times n) now, count, times-without n (numbers (submitted e.call)) (had_of (own who h)))

      stays : times n (numbers (taken e.reply)) ≤ 0 → (who : ℕ) × (1 ≤ times n (had_of (own who (h ++ e ∷ []))))
      stays none =
          let before : has mid n ≡ 1 = sym (with-none mid (taken e.reply) n none) ∙ there in
          let here : has places n ≡ 1 = omega (arith, before, left n, at-most places n) in
          let kept : times n (numbers (submitted e.call)) ≤ 0 = omega (arith, before, left n, at-most places n) in
          let one = known n here in
          (one.0, still one.0 kept one.1)
        where
          still : (who : ℕ) → times n (numbers (submitted e.call)) ≤ 0 → 1 ≤ times n (had_of (own who h)) → 1 ≤ times n (had_of (own who (h ++ e ∷ [])))
          still who kept some = elim (cases_eq e.who who) [
            | inl is ↦ omega (arith, some, kept, grown who is)
            | inr other ↦ omega (arith, some, ap (λ mine. times n (had_of mine)) (own-push_other who h e other))
          ]
