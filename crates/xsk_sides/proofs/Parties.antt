-- The two parties: which of them makes a caller's calls, and what one call more does to their own.
use Rattle.std.proofs.Common.{◌≡◌, ℕ, ◌<◌, ◌≤◌, ◌⊎◌, inl, inr, cond, Option, Some, None, List, [], ◌∷◌, length, refl, sym, ap, ◌∙◌, arith, lt-ltb, le-ltb}
use Rattle.xsk_model.specs.Config.{Config, IsConfig, HasRing}
use Rattle.xsk_model.specs.Rings.{driver_of, app_of, producer, consumer}
use Rattle.xsk_model.specs.Entry.{Entry}
use Rattle.xsk_model.specs.declared.call.Ring.{Ring}
use Rattle.xsk_model.specs.declared.call.Ring.TheVariants.{Fill, Comp, Rx, Tx}
use Rattle.xsk_model.proofs.Roles.{ring_placed}
use Rattle.xsk_side.specs.Object.{Entry as SideEntry, producer as side_producer, consumer as side_consumer}
use Rattle.xsk_side.specs.Possible.{own as side_own}
use Rattle.xsk_side.specs.declared.call.Party.{Party}
use Rattle.xsk_side.specs.declared.call.Party.TheVariants.{Program, Kernel}
use Rattle.xsk_side.specs.declared.call.Call.{Call as SideCall}
use Rattle.xsk_side.proofs.Bounds.{two_parties}
use Rattle.xsk_sides.specs.Sides.{side_call, party_of, called, program_calls, pushed, both}

-- ---- the calls of both

-- a call behind earlier ones of its party, or none
abbrev pub behind : Option SideCall → List SideCall → List SideCall
behind None calls = calls
behind (Some call) calls = call ∷ calls

pub own_here : (p : Party) (o : Option SideCall) (past : List SideEntry) → side_own p (pushed p o past) ≡ behind o (side_own p past)
own_here Program None past = refl
own_here Program (Some call) past = refl
own_here Kernel None past = refl
own_here Kernel (Some call) past = refl

pub own_else : (p q : Party) (o : Option SideCall) (past : List SideEntry) → (p ≡ q → ⊥) → side_own p (pushed q o past) ≡ side_own p past
own_else Program Program o past apart = absurd (apart refl)
own_else Program Kernel None past apart = refl
own_else Program Kernel (Some call) past apart = refl
own_else Kernel Program None past apart = refl
own_else Kernel Program (Some call) past apart = refl
own_else Kernel Kernel o past apart = absurd (apart refl)

pub one_party : (p q : Party) → (p ≡ q) ⊎ (p ≡ q → ⊥)
one_party Program Program = inl refl
one_party Program Kernel = inr (λ (h : Program ≡ Kernel). two_parties (sym h))
one_party Kernel Program = inr (λ (h : Kernel ≡ Program). two_parties h)
one_party Kernel Kernel = inl refl

own_pushed : (p : Party) (o : Option SideCall) (past : List SideEntry) → side_own Program (pushed p o past) ≡ called p o (side_own Program past)
own_pushed Program None past = refl
own_pushed Program (Some call) past = refl
own_pushed Kernel None past = refl
own_pushed Kernel (Some call) past = refl

pub own_both : (c : Config) (es : List Entry) (past : List SideEntry) → side_own Program (both c es past) ≡ program_calls c es (side_own Program past)
own_both c [] past = refl
own_both c (e ∷ es) past =
    own_both c es (pushed (party_of c e.who) (side_call e.call e.reply) past)
    ∙ ap (program_calls c es) (own_pushed (party_of c e.who) (side_call e.call e.reply) past)

-- ---- whose a caller's calls are

pub is_kernel : (c : Config) (who : ℕ) → who < length c.pairs → party_of c who ≡ Kernel
is_kernel c who h = ap (λ b. cond b Kernel Program) (lt-ltb who (length c.pairs) h)

pub is_program : (c : Config) (who : ℕ) → length c.pairs ≤ who → party_of c who ≡ Program
is_program c who h = ap (λ b. cond b Kernel Program) (le-ltb who (length c.pairs) h)

pub producer_is : (c : Config) (r : Ring) → IsConfig c → HasRing c r → party_of c (producer c r) ≡ side_producer r
producer_is c (Fill d) config has = is_program c (app_of c (Fill d)) (omega arith)
producer_is c (Comp d) config has = is_kernel c d has
producer_is c (Rx s) config has = is_kernel c (driver_of c (Rx s)) (ring_placed c (Rx s) config has).driver
producer_is c (Tx s) config has = is_program c (app_of c (Tx s)) (omega arith)

pub consumer_is : (c : Config) (r : Ring) → IsConfig c → HasRing c r → party_of c (consumer c r) ≡ side_consumer r
consumer_is c (Fill d) config has = is_kernel c d has
consumer_is c (Comp d) config has = is_program c (app_of c (Comp d)) (omega arith)
consumer_is c (Rx s) config has = is_program c (app_of c (Rx s)) (omega arith)
consumer_is c (Tx s) config has = is_kernel c (driver_of c (Tx s)) (ring_placed c (Tx s) config has).driver
