-- The writes of a bay in memory, by their streams.
use Rattle.std.proofs.Common.{◌≡◌, ℕ, Bool, cond, ltb, eqb, true, false, inl, inr, List, [], ◌∷◌, ◌++◌, Option, Some, None, length, filter, refl, sym, ap, ◌∙◌, subst, arith}
use Rattle.std.specs.Prelude.{◌≢◌, option_map}
use Rattle.std.proofs.lemmas.Bool.{ne_eqb}
use Rattle.std.proofs.lemmas.Bool.Decides.{nat_tests}
use Rattle.std.proofs.lemmas.List.Elements.{filter-append}
use Rattle.std.specs.Prelude.{Result, Ok, Err}
use Rattle.xsk_io.specs.declared.bay.BayFailed.{BayFailed}
use Rattle.xsk_io.specs.declared.bay.Offer.{Offer}
use Rattle.xsk_io.specs.declared.bay.Stream.{Stream}
use Rattle.xsk_io.specs.declared.bay.Stream.TheVariants.{Input, Output, Report}
use Rattle.xsk_io.specs.Bay.{Adds, AddsNoneBut, offer_of}
use Rattle.xsk_io.specs.Failing.{noted, is_stream, is_to}

same_number : (n : ℕ) → eqb n n ≡ true
same_number n = grind (arith, nat_tests)

same_stream : (stream : Stream) → is_stream stream stream ≡ true
same_stream (Input n) = same_number n
same_stream (Output n) = same_number n
same_stream Report = refl

other_stream : (one other : Stream) → other ≢ one → is_stream other one ≡ false
other_stream (Input n) (Input m) differs = ne_eqb m n (λ e. differs (ap Input e))
other_stream (Output n) (Output m) differs = ne_eqb m n (λ e. differs (ap Output e))
other_stream Report Report differs = absurd (differs refl)
other_stream (Input n) (Output m) differs = refl
other_stream (Input n) Report differs = refl
other_stream (Output n) (Input m) differs = refl
other_stream (Output n) Report differs = refl
other_stream Report (Input m) differs = refl
other_stream Report (Output m) differs = refl

pub offer_stream : (stream : Stream) (len : ℕ) (result : Result ℕ BayFailed) → (offer_of stream len result).stream ≡ stream
offer_stream stream len (Ok count) = refl
offer_stream stream len (Err failed) = refl

-- the write beside those before it, where it is told
seen_in : (p : Offer → Bool) (before : List Offer) (offer : Offer) (few : Bool)
    → Adds (Some (filter p before)) (option_map (filter p) (cond few (Some (before ++ offer ∷ [])) None)) (filter p (offer ∷ []))
seen_in p before offer true = inr (ap Some (filter-append p before (offer ∷ [])))
seen_in p before offer false = inl refl

seen : (p : Offer → Bool) (before : Option (List Offer)) (offer : Offer) → Adds (option_map (filter p) before) (option_map (filter p) (noted before offer)) (filter p (offer ∷ []))
seen p None offer = inl refl
seen p (Some before) offer = seen_in p before offer (ltb (length before) 1024)

pub seen_there : (before after : Option (List Offer)) (offer : Offer) (stream : Stream) → after ≡ noted before offer → offer.stream ≡ stream
    → Adds (option_map (filter (is_to stream)) before) (option_map (filter (is_to stream)) after) (offer ∷ [])
seen_there before after offer stream is there =
    let here : is_stream stream offer.stream ≡ true = ap (is_stream stream) there ∙ same_stream stream in
    let one : filter (is_to stream) (offer ∷ []) ≡ offer ∷ [] = ap (λ b. cond b (offer ∷ []) []) here in
    subst (λ a. Adds (option_map (filter (is_to stream)) before) (option_map (filter (is_to stream)) a) (offer ∷ [])) (sym is)
    (subst (λ os. Adds (option_map (filter (is_to stream)) before) (option_map (filter (is_to stream)) (noted before offer)) os) one (seen (is_to stream) before offer))

pub unseen_elsewhere : (before after : Option (List Offer)) (offer : Offer) (stream : Stream) → after ≡ noted before offer → offer.stream ≡ stream
    → AddsNoneBut stream (λ s. option_map (filter (is_to s)) before) (λ s. option_map (filter (is_to s)) after)
unseen_elsewhere before after offer stream is there other differs =
    let elsewhere : is_stream other offer.stream ≡ false = ap (is_stream other) there ∙ other_stream stream other differs in
    let none : filter (is_to other) (offer ∷ []) ≡ [] = ap (λ b. cond b (offer ∷ []) []) elsewhere in
    subst (λ a. Adds (option_map (filter (is_to other)) before) (option_map (filter (is_to other)) a) []) (sym is)
    (subst (λ os. Adds (option_map (filter (is_to other)) before) (option_map (filter (is_to other)) (noted before offer)) os) none (seen (is_to other) before offer))
