-- The hands of a new lock, as they are taken from the end of their row, started and joined: each number stands with one of them.
use Rattle.std.proofs.Common.{◌≡◌, ℕ, zero, suc, ◌+◌, ◌<◌, ◌≤◌, false, Some, List, [], ◌∷◌, ◌++◌, All, refl, sym, ap, subst, ◌∙◌, get_or, map, arith, length}
use Rattle.std.proofs.lemmas.Bool.Decides.{nat_tests}
use Rattle.std.specs.List.{range_with_len}
use Rattle.std.proofs.lemmas.List.{length-map}
use Rattle.std.proofs.lemmas.List.Elements.{All-map, All-pop}
use Rattle.std.proofs.lemmas.List.FromFn.{length-range_with_len}
use Rattle.xsk_lock.specs.Rule.{times, mine}
use Rattle.xsk_lock.specs.Held.{Holder, Face, HasAll, new_hand, new_hands}
use Rattle.xsk_lock.proofs.Totals.{times_append}
use Rattle.xsk_workers.specs.Sharing.{IsFree, AreAll, mine_of_all}
use Rattle.xsk_workers.proofs.Lists.{All-rest, All-first, All-more}

times_within : (h a n : ℕ) → a ≤ h → h < a + n → 1 ≤ times h (range_with_len a n)
times_within h a zero low high = absurd (omega (arith, low, high))
times_within h a (suc n) low high = let q = times_within h (a + 1) n in grind (arith, nat_tests)

module _ {N : Type 0} where
  -- the numbers of one more
  mine_more : (h : ℕ) (hands : List (Holder N)) (x : Holder N) → times h (mine_of_all (hands ++ x ∷ [])) ≡ times h (mine_of_all hands) + times h (mine x.view)
  mine_more h [] x = omega (arith, times_append h (mine x.view) [])
  mine_more h (y ∷ hands) x = omega (arith, times_append h (mine y.view) (mine_of_all (hands ++ x ∷ [])), times_append h (mine y.view) (mine_of_all hands), mine_more h hands x)

module _ {N : Type 0} (lock : Face N) where
  is_its : (h : ℕ) → IsFree lock (new_hand lock h)
  is_its h = record {
    belongs = record { table = refl; view = (record { name = lock.name; hands = lock.hands; mine = h ∷ []; holds = false; found = [] }, refl, refl, refl) };
    off = refl;
  }

  all_its : (row : List (Holder N)) → row ≡ new_hands lock → All (IsFree lock) row
  all_its row new =
      let numbers = range_with_len 0 lock.hands in
      subst (All (IsFree lock)) (sym new) (All-map (IsFree lock) (new_hand lock) numbers (λ k d below. is_its (get_or numbers k d)))

  its_numbers : (numbers : List ℕ) → mine_of_all (map (new_hand lock) numbers) ≡ numbers
  its_numbers [] = refl
  its_numbers (n ∷ numbers) = ap (λ (l : List ℕ). n ∷ l) (its_numbers numbers)

  -- as many as the lock has
  pub count_dealt : (row : List (Holder N)) → row ≡ new_hands lock → length row ≡ lock.hands
  count_dealt row new = ap (length {A = Holder N}) new ∙ length-map (range_with_len 0 lock.hands) (new_hand lock) ∙ length-range_with_len 0 lock.hands

  -- the last of a new lock's row, and the others, which wait
  pub all_dealt : (row left : List (Holder N)) (hand : Holder N) → row ≡ new_hands lock → row ≡ left ++ hand ∷ [] → AreAll lock hand [] left
  all_dealt row left hand new is =
      let free : All (IsFree lock) left × IsFree lock hand = All-pop (IsFree lock) row left (Some hand) is (all_its row new) in
      let numbers : mine_of_all (left ++ hand ∷ []) ≡ range_with_len 0 lock.hands = ap mine_of_all (sym is ∙ new) ∙ its_numbers (range_with_len 0 lock.hands) in
      record {
        free = free.1;
        are_started = λ k d below. absurd (omega (arith, below));
        are_waiting = free.0;
        numbers = λ h below. omega (arith, mine_more h left hand, ap (times h) numbers, times_within h 0 lock.hands (omega arith) (omega (arith, below)));
      }

  -- the next one is started
  pub one_started : (hand x : Holder N) (started more waiting rest : List (Holder N)) → waiting ≡ x ∷ rest → more ≡ started ++ x ∷ [] → AreAll lock hand started waiting → AreAll lock hand more rest
  one_started hand x started more waiting rest first last all = record {
    free = all.free;
    are_started = All-more (IsFree lock) started more x last all.are_started (All-first (IsFree lock) x waiting rest first all.are_waiting);
    are_waiting = All-rest (IsFree lock) x waiting rest first all.are_waiting;
    numbers = λ h below. omega (arith, all.numbers h below, ap (λ l. times h (mine_of_all l)) first, times_append h (mine x.view) (mine_of_all rest), ap (λ l. times h (mine_of_all l)) last, mine_more h started x);
  }

  -- or is joined, as it was or once it came back
  pub one_joined : (hand joined x y : Holder N) (started waiting rest : List (Holder N)) → waiting ≡ x ∷ rest → IsFree lock joined → mine joined.view ≡ mine hand.view ++ mine y.view → mine y.view ≡ mine x.view
      → AreAll lock hand started waiting → AreAll lock joined started rest
  one_joined hand joined x y started waiting rest first free is same all = record {
    free = free;
    are_started = all.are_started;
    are_waiting = All-rest (IsFree lock) x waiting rest first all.are_waiting;
    numbers = λ h below. omega (arith, all.numbers h below, ap (λ l. times h (mine_of_all l)) first, times_append h (mine x.view) (mine_of_all rest), ap (times h) is, times_append h (mine hand.view) (mine y.view), ap (times h) same);
  }

  -- where none waits those that were started are to be joined
  pub all_started : (hand : Holder N) (started waiting : List (Holder N)) → waiting ≡ [] → AreAll lock hand started waiting → AreAll lock hand [] started
  all_started hand started waiting none all = record {
    free = all.free;
    are_started = subst (All (IsFree lock)) none all.are_waiting;
    are_waiting = all.are_started;
    numbers = λ h below. omega (arith, all.numbers h below, ap (λ l. times h (mine_of_all l)) none);
  }

  -- and where none is left to be joined one has all numbers
  pub all_joined : (hand : Holder N) (waiting : List (Holder N)) → waiting ≡ [] → AreAll lock hand [] waiting → HasAll lock hand
  all_joined hand waiting none all h below = omega (arith, all.numbers h below, ap (λ l. times h (mine_of_all l)) none)

  -- one that ran has the numbers that it had
  pub one_ran : (hand ran : Holder N) (started waiting : List (Holder N)) → IsFree lock ran → mine ran.view ≡ mine hand.view → AreAll lock hand started waiting → AreAll lock ran started waiting
  one_ran hand ran started waiting free same all = record {
    free = free;
    are_started = all.are_started;
    are_waiting = all.are_waiting;
    numbers = λ h below. omega (arith, all.numbers h below, ap (times h) same);
  }
