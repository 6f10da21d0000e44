-- The packets that are to bounce are no more than all, and have no more bytes; and those of a driver's machine from a place on.
use Rattle.std.proofs.Common.{◌≡◌, ℕ, ◌+◌, ◌<◌, ◌≤◌, Bool, true, false, not, ◌&&◌, nat_lt, if◌then◌else◌, Some, slice_get, get_or, List, [], ◌∷◌, length, drop, refl, sym, ◌∙◌, ap, arith, length-append, map, lt-ltb, le-ltb}
use Rattle.std.specs.List.{concat}
use Rattle.std.proofs.Math.Bool.{and-false}
use Rattle.xsk_turns.specs.Turns.{Judged, bounces}
use Rattle.xsk_turns.specs.SentWith.{bounces_at, bouncing}
use Rattle.xsk_turns.specs.Verdicts.{judged}
use Rattle.xsk_prog.specs.declared.rule.Verdict.{Verdict}
use Rattle.xsk_prog.specs.declared.rule.Verdict.TheVariants.{Drop, Pass, Redirect, Bounce}
use Rattle.xsk_driver.specs.Stands.{packet_at, first_of}
use Rattle.xsk_driver.specs.Bouncing.{bouncing_from}
use Rattle.xsk_driver.specs.declared.machine.Machine.{Machine}
use Rattle.xsk_driver.proofs.Steps.{drop_one, coming_some, none_coming, first_judged, first_coming}

-- ---- how many they are

few_if : (b : Bool) (packet : List ℕ) (packets : List (List ℕ)) (input : List Judged) → length packets ≤ length input
    → length (if b then packet ∷ packets else packets) ≤ length input + 1
few_if true packet packets input few = omega (arith, few)
few_if false packet packets input few = omega (arith, few)

pub bouncing_few : (input : List Judged) → length (bouncing input) ≤ length input
bouncing_few [] = omega arith
bouncing_few (packet ∷ input) = omega (arith, few_if (bounces_at packet) packet.bytes (bouncing input) input (bouncing_few input))

bytes_if : (b : Bool) (packet : List ℕ) (packets all : List (List ℕ)) → length (concat packets) ≤ length (concat all)
    → length (concat (if b then packet ∷ packets else packets)) ≤ length (concat (packet ∷ all))
bytes_if true packet packets all few = omega (arith, few, length-append packet (concat packets), length-append packet (concat all))
bytes_if false packet packets all few = omega (arith, few, length-append packet (concat all))

pub bouncing_bytes : (input : List Judged) → length (concat (bouncing input)) ≤ length (concat (map (λ (x : Judged). x.bytes) input))
bouncing_bytes [] = omega arith
bouncing_bytes (packet ∷ input) =
    bytes_if (bounces_at packet) packet.bytes (bouncing input) (map (λ (x : Judged). x.bytes) input) (bouncing_bytes input)

-- ---- those from a place on

behind_first : (input : List Judged) → 1 ≤ length input → input ≡ first_of input ∷ drop 1 input
behind_first [] some = absurd (omega (arith, some))
behind_first (packet ∷ input) some = refl

-- the next packet, which bounces or doesn't
from_next : (input : List Judged) (n : ℕ) (b : Bool) → 1 ≤ length (drop n input) → bounces_at (first_of (drop n input)) ≡ b
    → bouncing (drop n input) ≡ (if b then (first_of (drop n input)).bytes ∷ bouncing (drop (n + 1) input) else bouncing (drop (n + 1) input))
from_next input n b some is =
    let packet : Judged = first_of (drop n input) in
    ap bouncing (behind_first (drop n input) some)
    ∙ ap (λ (ps : List Judged). if bounces_at packet then packet.bytes ∷ bouncing ps else bouncing ps) (drop_one n input)
    ∙ ap (λ (c : Bool). if c then packet.bytes ∷ bouncing (drop (n + 1) input) else bouncing (drop (n + 1) input)) is

stays : (verdict : Verdict) → (verdict ≡ Bounce → ⊥) → bounces verdict ≡ false
stays Drop other = refl
stays Pass other = refl
stays (Redirect cell) other = refl
stays Bounce other = absurd (other refl)

pub none_left : (m : Machine) (place : ℕ) → length m.numbers.now ≤ place → bouncing_from m place ≡ []
none_left m place past = ap bouncing (none_coming m.packets.now m.numbers.now m.verdicts.items m.judged place past)

module _ (m : Machine) (place : ℕ) (within : place < length m.numbers.now) where
  abbrev all : List Judged
  all = judged (map (packet_at m.packets.now) m.numbers.now) m.verdicts.items

  some : 1 ≤ length (drop place all)
  some = coming_some m.packets.now m.numbers.now m.verdicts.items m.judged place within

  verdict_is : (verdict : Verdict) → verdict ≡ get_or m.verdicts.items place verdict → verdict ≡ (first_of (drop place all)).verdict
  verdict_is verdict is = is ∙ sym (ap (λ (p : Judged). p.verdict) (first_judged m.packets.now m.numbers.now m.verdicts.items m.judged place verdict within))

  bytes_are : (number : ℕ) (packet : List ℕ) → number ≡ get_or m.numbers.now place number → slice_get m.packets.now.packets number ≡ Some packet
      → (first_of (drop place all)).bytes ≡ packet
  bytes_are number packet is got = first_coming m.packets.now m.numbers.now m.verdicts.items m.judged place number packet within is got

  -- another verdict
  pub stays_here : (verdict : Verdict) → verdict ≡ get_or m.verdicts.items place verdict → (verdict ≡ Bounce → ⊥) → bouncing_from m place ≡ bouncing_from m (place + 1)
  stays_here verdict is other =
      let packet : Judged = first_of (drop place all) in
      let none : bounces packet.verdict ≡ false = stays packet.verdict (λ e. other (verdict_is verdict is ∙ e)) in
      from_next all place false some (ap (λ (b : Bool). not (nat_lt (length packet.bytes) 14) && b) none ∙ and-false (not (nat_lt (length packet.bytes) 14)))

  -- too short
  pub short_here : (number : ℕ) (packet : List ℕ) → number ≡ get_or m.numbers.now place number → slice_get m.packets.now.packets number ≡ Some packet
      → length packet < 14 → bouncing_from m place ≡ bouncing_from m (place + 1)
  short_here number packet is got short =
      let first : Judged = first_of (drop place all) in
      from_next all place false some
      (ap (λ (bytes : List ℕ). not (nat_lt (length bytes) 14) && bounces first.verdict) (bytes_are number packet is got)
      ∙ ap (λ (b : Bool). not b && bounces first.verdict) (lt-ltb (length packet) 14 short))

  -- it bounces
  pub bounces_here : (number : ℕ) (packet : List ℕ) (verdict : Verdict) → number ≡ get_or m.numbers.now place number → slice_get m.packets.now.packets number ≡ Some packet
      → verdict ≡ get_or m.verdicts.items place verdict → verdict ≡ Bounce → 14 ≤ length packet → bouncing_from m place ≡ packet ∷ bouncing_from m (place + 1)
  bounces_here number packet verdict is got judged bounced long =
      let first : Judged = first_of (drop place all) in
      from_next all place true some
      (ap (λ (bytes : List ℕ). not (nat_lt (length bytes) 14) && bounces first.verdict) (bytes_are number packet is got)
      ∙ ap (λ (b : Bool). not b && bounces first.verdict) (le-ltb (length packet) 14 long)
      ∙ ap bounces (sym (verdict_is verdict judged) ∙ bounced))
      ∙ ap (λ (bytes : List ℕ). bytes ∷ bouncing (drop (place + 1) all)) (bytes_are number packet is got)
