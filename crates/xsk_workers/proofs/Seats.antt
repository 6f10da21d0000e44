-- Seats of members.
use Rattle.std.proofs.Common.{◌≡◌, ◌<◌, ◌≤◌, ◌==◌, nat_lt, ℕ, true, false, Bool, ◌||◌, suc, List, [], ◌∷◌, ◌++◌, ◌+◌, length, map, All, sym, ap, subst, ◌∙◌, arith}
use Rattle.std.proofs.Math.Bool.{or-false}
use Rattle.std.proofs.lemmas.Bool.{or_parts, or_right, lt-ltb, le-ltb, ltb-false}
use Rattle.std.proofs.lemmas.List.{get_or-map, length-map, map-append}
use Rattle.std.proofs.lemmas.List.Elements.{All-map}
use Rattle.std.proofs.lemmas.List.FromFn.{length-range_with_len}
use Rattle.xsk_turns.specs.Workers.{Setting}
use Rattle.xsk_table.specs.Held.{Board}
use Rattle.xsk_workers.specs.Crew.{Seat, IsSeatOn}
use Rattle.std.specs.List.{range_with_len}
use Rattle.xsk_model.proofs.Counting.{range-push}
use Rattle.xsk_workers.specs.Shown.{WorkerShown, seat_at, is_alone}
use Rattle.xsk_workers.specs.Hands.{TeamShown}
use Rattle.xsk_workers.specs.Members.{member_seat}
use Rattle.xsk_workers.specs.declared.member.Member.{Member}

-- who has the same seat is on the same table
pub still_on : (b : Board) (old new : Seat) → new ≡ old → IsSeatOn b old → IsSeatOn b new
still_on b old new same on = subst (IsSeatOn b) (sym same) on

-- members in the seats of others are on the same table
pub all_on : {W : Type 0} (seat : W → Seat) (b : Board) (ws vs : List W) → map seat ws ≡ map seat vs → All (λ w. IsSeatOn b (seat w)) vs → All (λ w. IsSeatOn b (seat w)) ws
all_on {W} seat b ws vs same h =
    let seats : All (IsSeatOn b) (map seat vs) = All-map (IsSeatOn b) seat vs h in
    let moved : All (IsSeatOn b) (map seat ws) = subst (All (IsSeatOn b)) (sym same) seats in
    λ k d below. subst (IsSeatOn b) (get_or-map seat ws k d (seat d) below) (moved k (seat d) (omega (arith, below, length-map ws seat)))

-- a caller whose calls several hands make is no driver
pub is_past : (hands : ℕ) (s : Setting) (who : ℕ) → is_alone hands s who ≡ false → length s.config.pairs ≤ who
is_past hands s who apart = ltb-false who (length s.config.pairs) (or_parts (hands == 1) (nat_lt who (length s.config.pairs)) apart).1

-- and has several hands
pub is_several : (hands : ℕ) (s : Setting) (who : ℕ) → is_alone hands s who ≡ false → hands ≡ 1 → ⊥
is_several hands s who apart one = let no : true ≡ false = ap (λ k. is_alone k s who) (sym one) ∙ apart in absurd cc

-- one machine makes all calls of a driver
pub is_driver : (hands : ℕ) (s : Setting) (who : ℕ) → who < length s.config.pairs → is_alone hands s who ≡ true
is_driver hands s who below = or_right (hands == 1) (nat_lt who (length s.config.pairs)) (lt-ltb who (length s.config.pairs) below)

-- one more in its seat
pub one_seated : (hands : ℕ) (s : Setting) (b : Board) (n : ℕ) (ms more : List (Member WorkerShown TeamShown)) (m : Member WorkerShown TeamShown) → more ≡ ms ++ m ∷ [] → member_seat m ≡ seat_at hands s b n
    → map member_seat ms ≡ map (seat_at hands s b) (range_with_len 0 n) → map member_seat more ≡ map (seat_at hands s b) (range_with_len 0 (n + 1))
one_seated hands s b n ms more m items seat seats =
    let range : range_with_len 0 (n + 1) ≡ range_with_len 0 n ++ n ∷ [] =
    let next : n + 1 ≡ suc n = omega arith in
    let here : 0 + n ≡ n = omega arith in
    ap (range_with_len 0) next ∙ range-push 0 n ∙ ap (λ (k : ℕ). range_with_len 0 n ++ k ∷ []) here in
    ap (map member_seat) items
    ∙ map-append member_seat ms (m ∷ [])
    ∙ ap (λ (x : Seat). map member_seat ms ++ x ∷ []) seat
    ∙ ap (λ (l : List Seat). l ++ seat_at hands s b n ∷ []) seats
    ∙ sym (map-append (seat_at hands s b) (range_with_len 0 n) (n ∷ []))
    ∙ ap (map (seat_at hands s b)) (sym range)

-- and with one hand of an application
pub is_app : (hands : ℕ) (s : Setting) (who : ℕ) → length s.config.pairs ≤ who → is_alone hands s who ≡ (hands == 1)
is_app hands s who past = ap (λ (x : Bool). (hands == 1) || x) (le-ltb who (length s.config.pairs) past) ∙ or-false (hands == 1)

-- as many as their seats
pub seated_count : (hands : ℕ) (s : Setting) (b : Board) (n : ℕ) (ms : List (Member WorkerShown TeamShown)) → map member_seat ms ≡ map (seat_at hands s b) (range_with_len 0 n) → length ms ≡ n
seated_count hands s b n ms seats = sym (length-map ms member_seat) ∙ ap (length {A = Seat}) seats ∙ length-map (range_with_len 0 n) (seat_at hands s b) ∙ length-range_with_len 0 n
