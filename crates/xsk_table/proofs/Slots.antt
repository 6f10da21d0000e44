-- A frame that a caller has stands in no ring and in no other caller's call: so its slot changes alone.
use Rattle.std.proofs.Common.{◌≡◌, ◌≢◌, ℕ, ◌+◌, ◌<◌, ◌≤◌, suc, zero, List, [], ◌∷◌, ◌++◌, length, get_or, set, refl, ap, sym, ◌∙◌, arith, ⊎_elim}
use Rattle.std.specs.Prelude.{Option, Some, None}
use mathlib.Core.Option.{some}
use mathlib.Core.Option as maybe
use lib.ListN.{get_elem?}
use Rattle.std.proofs.lemmas.Bool.{cases_eq, cases_lt}
use Rattle.std.proofs.lemmas.Bool.Decides.{nat_tests}
use Rattle.std.proofs.lemmas.List.{length-set}
use Rattle.atomic_table.specs.Table.{State, Act, keeps, takes, gives, homes_after, carried_after, Valid}
use Rattle.atomic_table.proofs.Lists.{set_here, set_else}
use Rattle.xsk_umem.specs.Frame.{Frame}
use Rattle.xsk_umem.specs.declared.batch.Item.{Item}
use Rattle.xsk_model.specs.Config.{callers_of}
use Rattle.xsk_model.specs.Numbers.{times, numbers, number_of}
use Rattle.xsk_model.specs.Object as object
use Rattle.xsk_model.specs.Entry.{Told, own}
use Rattle.xsk_model.specs.Own.{had_of}
use Rattle.xsk_model.specs.declared.call.Ring.{Ring}
use Rattle.xsk_model.specs.declared.call.Ring.TheVariants.{Fill}
use Rattle.xsk_model.proofs.Counting.{times-append, numbers-append}
use Rattle.xsk_model.proofs.FrameTheorems.{frames_apart, frames_below}
use Rattle.xsk_table.specs.View.{Basis, Flight, idle, placing, writing, taking, fetching, View}
use Rattle.xsk_table.specs.Rule.{lying, aloft, Homes, IsHome, IsVacant, AllHome, IsInFlight, Rule}
use Rattle.xsk_table.specs.Plays.{IsFirst, with_slot, without_slot}
use Rattle.xsk_table.proofs.Changed.{now, ring_now, flight_of}

-- ---- counting

pub numbers-cons : (n : ℕ) (x : Item) (xs : List Item) → times n (numbers (x ∷ xs)) ≡ times n (number_of x.frame) + times n (numbers xs)
numbers-cons n x xs = times-append n (number_of x.frame) (numbers xs)

pub numbers-last : (n : ℕ) (items : List Item) (x : Item) → times n (numbers (items ++ x ∷ [])) ≡ times n (numbers items) + times n (number_of x.frame)
numbers-last n items x = omega (arith, ap (times n) (numbers-append items (x ∷ [])), times-append n (numbers items) (numbers (x ∷ [])), numbers-cons n x [])

-- how often its number stands in a frame's own list
pub number_one : (n : ℕ) (f : Frame) → n ≡ f.number → times n (number_of (Some f)) ≡ 1
number_one n f e = grind (arith, nat_tests)

pub number_off : (n : ℕ) (f : Frame) → n ≢ f.number → times n (number_of (Some f)) ≡ 0
number_off n f e = grind (arith, nat_tests)

-- no item of the list has this frame
abbrev pub IsFree : Option Frame → List Item → Type 0
IsFree None xs = Unit {0}
IsFree (Some f) xs = times f.number (numbers xs) ≡ 0

-- a caller has this frame
abbrev pub Has : Option Frame → List Told → Type 0
Has None mine = Unit {0}
Has (Some f) mine = 0 < times f.number (had_of mine)

pub has_one : (f : Option Frame) (mine : List Told) → ((n : ℕ) → times n (number_of f) ≤ times n (had_of mine)) → Has f mine
has_one None mine h = tt
has_one (Some f) mine h = omega (arith, h f.number, number_one f.number f refl)

pub free_one : (f : Option Frame) (xs : List Item) (mine : List Told) → ((n : ℕ) → times n (number_of f) + times n (numbers xs) ≤ times n (had_of mine)) → ((n : ℕ) → times n (had_of mine) ≤ 1) → IsFree f xs
free_one None xs mine h once = tt
free_one (Some f) xs mine h once = omega (arith, h f.number, once f.number, number_one f.number f refl)

-- ---- slots that change

home_else : (homes : Homes) (n : ℕ) (y : maybe.Option (Option Frame)) (f : Option Frame) → times n (number_of f) ≡ 0 → IsHome homes f → IsHome (set homes n y) f
home_else homes n y None none h = tt
home_else homes n y (Some f) none h = set_else homes n f.number y (λ e. let o = number_one n f (sym e) in omega arith) ∙ h

homes_else : (homes : Homes) (n : ℕ) (y : maybe.Option (Option Frame)) (xs : List Item) → times n (numbers xs) ≡ 0 → AllHome homes xs → AllHome (set homes n y) xs
homes_else homes n y [] none h = tt
homes_else homes n y (x ∷ xs) none h = (home_else homes n y x.frame (omega (arith, numbers-cons n x xs)) h.0, homes_else homes n y xs (omega (arith, numbers-cons n x xs)) h.1)

-- the slot of a frame, if there is one, becomes this
abbrev pub homes_put : Homes → Option Frame → (Frame → maybe.Option (Option Frame)) → Homes
homes_put homes None y = homes
homes_put homes (Some f) y = set homes f.number (y f)

pub put_len : (homes : Homes) (f : Option Frame) (y : Frame → maybe.Option (Option Frame)) → length (homes_put homes f y) ≡ length homes
put_len homes None y = refl
put_len homes (Some f) y = length-set homes f.number (y f)

pub put_else : (homes : Homes) (f : Option Frame) (y : Frame → maybe.Option (Option Frame)) (xs : List Item) → IsFree f xs → AllHome homes xs → AllHome (homes_put homes f y) xs
put_else homes None y xs free h = h
put_else homes (Some f) y xs free h = homes_else homes f.number (y f) xs free h

-- another slot stays home and empty
pub vacant_else : (homes : Homes) (n : ℕ) (f : Option Frame) (y : Frame → maybe.Option (Option Frame)) → times n (number_of f) ≡ 0 → IsVacant homes n → IsVacant (homes_put homes f y) n
vacant_else homes n None y off h = h
vacant_else homes n (Some f) y off h = set_else homes f.number n (y f) (λ e. let o = number_one n f e in omega arith) ∙ h

-- this one is home and empty
pub vacant_here : (homes : Homes) (n : ℕ) (f : Option Frame) → n < length homes → (times n (number_of f) ≡ 0 → IsVacant homes n) → IsVacant (homes_put homes f (λ _. some None)) n
vacant_here homes n None lt h = h refl
vacant_here homes n (Some f) lt h = ⊎_elim
    (λ (e : n ≡ f.number). ap (λ m. get_elem? (set homes m (some None)) n) (sym e) ∙ set_here homes n (some None) lt)
    (λ (off : n ≢ f.number). set_else homes f.number n (some None) off ∙ h (number_off n f off))
    (cases_eq n f.number)

-- what an act does to the slot of a frame
abbrev pub takes_of : Option Frame → Option Frame → Act (Option Frame)
takes_of None value = keeps
takes_of (Some f) value = takes f.number value

abbrev pub gives_of : Option Frame → Act (Option Frame)
gives_of None = keeps
gives_of (Some f) = gives

module _ (homes : Homes) (slots : List (ℕ × Option Frame)) where
  pub taken_homes : (f value : Option Frame) → homes_after homes slots (takes_of f value) ≡ homes_put homes f (λ _. maybe.none)
  taken_homes None value = refl
  taken_homes (Some f) value = refl

  pub taken_slots : (f value : Option Frame) → carried_after slots (takes_of f value) ≡ with_slot f value slots
  taken_slots None value = refl
  taken_slots (Some f) value = refl

  pub given_homes : (f value : Option Frame) → IsFirst f value slots → homes_after homes slots (gives_of f) ≡ homes_put homes f (λ _. some value)
  given_homes None value h = refl
  given_homes (Some f) value h = ap (λ l. homes_after homes l gives) h

  pub gives_valid : (f : Option Frame) → Valid homes slots (gives_of f)
  gives_valid None = tt
  gives_valid (Some f) = tt

  pub given_slots : (f : Option Frame) → carried_after slots (gives_of f) ≡ without_slot f slots
  given_slots None = refl
  given_slots (Some f) = refl

-- ---- a caller's frame

pub flight-past : (flights : List Flight) (i : ℕ) → length flights ≤ i → get_or flights i idle ≡ idle
flight-past [] i h = refl
flight-past (x ∷ xs) zero h = absurd (omega arith)
flight-past (x ∷ xs) (suc i) h = flight-past xs i (omega arith)

within_had : (n : ℕ) (k : Basis) (s : object.State) (mine : List Told) (w : ℕ) (f : Flight) → IsInFlight k s mine w f → times n (numbers (aloft f)) ≤ times n (had_of mine)
within_had n k s mine w idle h = omega arith
within_had n k s mine w (placing r items) h = h.2 n
within_had n k s mine w (writing r items x) h = h.2 n
within_had n k s mine w (taking r items) h = h.2 n
within_had n k s mine w (fetching r x left) h = h.2 n

-- what lies is part of it
pub lying_aloft : (n : ℕ) (f : Flight) → times n (numbers (aloft f)) ≡ 0 → times n (numbers (lying f)) ≡ 0
lying_aloft n idle h = h
lying_aloft n (placing r items) h = h
lying_aloft n (writing r items x) h = omega (arith, numbers-last n items x)
lying_aloft n (taking r items) h = h
lying_aloft n (fetching r x left) h = omega (arith, numbers-cons n x left)

module _ (k : Basis) (s : State (Option Frame) View) (rule : Rule k s) (who : ℕ) where
  pub had_once : (n : ℕ) → times n (had_of (own who rule.log)) ≤ 1
  had_once n = let t = (frames_apart k.config k.frames rule.log rule.legal).1 who (Fill 0) n in omega arith

  module _ (n : ℕ) (has : 0 < times n (had_of (own who rule.log))) where
    -- it is the number of a frame
    pub is_frame : n < k.config.geometry.frames
    is_frame = (frames_below k.config k.frames rule.log rule.legal).0 who n has

    -- it stands in no ring
    pub in_no_ring : (r : Ring) → times n (numbers (ring_now k s rule r).out) ≡ 0
    in_no_ring r = let t = (frames_apart k.config k.frames rule.log rule.legal).1 who r n in omega arith

    -- and in no call of another caller
    pub in_no_call : (w : ℕ) → w ≢ who → times n (numbers (aloft (flight_of k s rule w))) ≡ 0
    in_no_call w off = ⊎_elim
        (λ (l : w < callers_of k.config).
        let t = (frames_apart k.config k.frames rule.log rule.legal).0 w who off n in
        let u = within_had n k (now k s rule) (own w rule.log) w (flight_of k s rule w) (rule.in_flight w l) in
        omega arith)
        (λ (l : callers_of k.config ≤ w). ap (λ (f : Flight). times n (numbers (aloft f))) (flight-past rule.flights w (let m = rule.flights_len in omega arith)))
        (cases_lt w (callers_of k.config))

  pub free_ring : (f : Option Frame) → Has f (own who rule.log) → (r : Ring) → IsFree f (ring_now k s rule r).out
  free_ring None h r = tt
  free_ring (Some f) h r = in_no_ring f.number h r

  pub free_call : (f : Option Frame) → Has f (own who rule.log) → (w : ℕ) → w ≢ who → IsFree f (lying (flight_of k s rule w))
  free_call None h w off = tt
  free_call (Some f) h w off = lying_aloft f.number (flight_of k s rule w) (in_no_call f.number h w off)

  -- the slot of a frame that the caller has, and no call of its own in flight, is home and empty
  pub vacant_had : (f : Option Frame) → Has f (own who rule.log) → IsFree f (aloft (flight_of k s rule who)) → (slots : List (ℕ × Option Frame)) → Valid s.homes slots (takes_of f None)
  vacant_had None h free slots = tt
  vacant_had (Some f) h free slots = rule.vacant f.number (is_frame f.number h) (λ r there. in_no_ring f.number h r)
      (λ w. ⊎_elim (λ (is : w ≡ who). ap (λ m. times f.number (numbers (aloft (flight_of k s rule m)))) is ∙ free) (λ (off : w ≢ who). in_no_call f.number h w off) (cases_eq w who))
