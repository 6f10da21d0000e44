-- What a call of a bay does to its streams. This project's own.
use Rattle.std.specs.Prelude.{◌≡◌, ◌≢◌, ℕ, ◌-◌, ◌^◌, ◌<◌, ◌⊎◌, ◌==◌, Bool, false, true, List, [], ◌∷◌, ◌++◌, Option, None, Result, Ok, Err, length, take, option_map, if◌then◌else◌}
use Rattle.std.specs.Io.KnownBytes.{append_known, prepend_known}
use Rattle.xsk_io.specs.declared.bay.Stream.{Stream}
use Rattle.xsk_io.specs.declared.bay.Stream.TheVariants.{Input, Output, Report}
use Rattle.xsk_io.specs.declared.bay.Kind.{Kind}
use Rattle.xsk_io.specs.declared.bay.Offer.{Offer}
use Rattle.xsk_io.specs.declared.bay.BayFailed.{BayFailed}

-- what a bay tells of its streams: which are open, and the report needs no opening; the name with which a stream was last asked
-- for; the bytes that are left of an input; those that an output or the report holds; the writes that were made to a stream, in
-- order; and how many calls of a kind have failed on a stream, of which a count that stands at 2^64 - 1 stays there
pub record Moment : Type 0 where
  pub is_open : Stream → Bool
  pub asked : Stream → Option (List ℕ)
  pub left : Stream → Option (List ℕ)
  pub held : Stream → Option (List ℕ)
  pub offers : Stream → Option (List Offer)
  pub faults : Kind → Stream → ℕ

-- no stream is open
abbrev pub NoneOpen : Moment → Type 0
NoneOpen moment = (stream : Stream) → moment.is_open stream ≡ false

-- inputs and outputs are numbered below four
abbrev pub HasNumber : Stream → Type 0
HasNumber (Input n) = n < 4
HasNumber (Output n) = n < 4
HasNumber Report = Unit {0}

abbrev pub IsInput : Stream → Type 0
IsInput (Input n) = Unit {0}
IsInput (Output n) = ⊥
IsInput Report = ⊥

-- an open output, or the report, which needs no opening
abbrev pub TakesWrites : Stream → Bool → Type 0
TakesWrites (Input n) is_open = ⊥
TakesWrites (Output n) is_open = is_open ≡ true
TakesWrites Report is_open = Unit {0}

-- each stream is as it was
abbrev pub Same : {A : Type 0} → (Stream → A) → (Stream → A) → Type 0
Same old new = (stream : Stream) → new stream ≡ old stream

-- each stream but this one is as it was
abbrev pub SameBut : {A : Type 0} → Stream → (Stream → A) → (Stream → A) → Type 0
SameBut one old new = (stream : Stream) → stream ≢ one → new stream ≡ old stream

-- what a stream holds has grown by these bytes, or is told no longer
abbrev pub Grows : Option (List ℕ) → Option (List ℕ) → List ℕ → Type 0
Grows old new bytes = (new ≡ None) ⊎ (new ≡ append_known old bytes)

-- a count has risen, or stands at its last value
abbrev pub Rose : ℕ → ℕ → Type 0
Rose old new = (old < new) ⊎ (new ≡ 2 ^ 64 - 1)

-- no count but that of this kind and this stream has changed
abbrev pub CountsOnly : Kind → Stream → (Kind → Stream → ℕ) → (Kind → Stream → ℕ) → Type 0
CountsOnly kind stream old new =
    ((other : Kind) → other ≢ kind → Same (old other) (new other)) × SameBut stream (old kind) (new kind)

-- what a stream holds has grown by a front of these bytes that isn't all of them, or is told no longer
abbrev pub GrowsByPart : Option (List ℕ) → Option (List ℕ) → List ℕ → Type 0
GrowsByPart old new bytes = (count : ℕ) × (count < length bytes) × Grows old new (take count bytes)

-- what is left of an input has lost some bytes from its front, or none
abbrev pub LosesFront : Option (List ℕ) → Option (List ℕ) → Type 0
LosesFront old new = (bytes : List ℕ) × (old ≡ prepend_known bytes new)

-- ---- writes

-- a write of so many bytes to a stream, and how many of them were taken
abbrev pub offer_of : Stream → ℕ → Result ℕ BayFailed → Offer
offer_of stream len (Ok count) = record { stream = stream; len = len; taken = count }
offer_of stream len (Err failed) = record { stream = stream; len = len; taken = 0 }

-- after the writes of a stream come these, or they are told no longer
abbrev pub Adds : Option (List Offer) → Option (List Offer) → List Offer → Type 0
Adds old new offers = (new ≡ None) ⊎ (new ≡ option_map (λ before. before ++ offers) old)

-- after the writes of each stream but this one come none
abbrev pub AddsNoneBut : Stream → (Stream → Option (List Offer)) → (Stream → Option (List Offer)) → Type 0
AddsNoneBut one old new = (stream : Stream) → stream ≢ one → Adds (old stream) (new stream) []

-- what is still to be offered of so many bytes after a write of them all: what it didn't take, and nothing where it failed
abbrev pub left_by : ℕ → Offer → ℕ
left_by n offer = if offer.taken == 0 then 0 else n - offer.taken

-- so many bytes are offered as one piece, and after each write that took a part of them the rest
abbrev pub AreRests : ℕ → List Offer → Type 0
AreRests n [] = Unit {0}
AreRests n (offer ∷ offers) = (0 < n) × (offer.len ≡ n) × AreRests (left_by n offer) offers

-- and so it was with the writes of a stream between two moments
abbrev pub IsOffered : Option (List Offer) → Option (List Offer) → ℕ → Type 0
IsOffered old new n = (offers : List Offer) × Adds old new offers × AreRests n offers
