-- What a worker's call and its answer tell of its sleep, and whose parker is whose.
use Rattle.std.proofs.Common.{◌≡◌, ℕ, ◌+◌, ◌≤◌, length, Bool, true, false, Option, Some, None, List, [], ◌++◌, map, refl, sym, ap, subst, ◌∙◌, suc, arith}
use Rattle.std.specs.Prelude.{if◌then◌else◌}
use Rattle.std.specs.List.{slice_get}
use Rattle.std.specs.Option.{option_map, option_to_list}
use Rattle.std.specs.declared.alloc.Global.{Global}
use Rattle.std.proofs.lemmas.Option.{slice_get-map, slice_get_past}
use Rattle.std.proofs.lemmas.List.{length-map}
use Rattle.atomic_table.specs.Seated.{TableId}
use Rattle.crossbeam_utils.specs.declared.rule.Unruled.{Unruled}
use Rattle.crossbeam_utils.specs.declared.sync.parker.RuledParker.{RuledParker}
use Rattle.crossbeam_utils.specs.declared.sync.parker.RuledUnparker.{RuledUnparker}
use Rattle.xsk_umem.specs.declared.batch.Item.{Item}
use Rattle.xsk_model.specs.Asks.{joined_call, joined_reply, ask_of, answer_of}
use Rattle.xsk_model.specs.Entry.{Told, with_told, own}
use Rattle.xsk_model.specs.declared.ask.Ask.{Ask}
use Rattle.xsk_model.specs.declared.ask.Ask.TheVariants.{Look}
use Rattle.xsk_model.specs.declared.ask.Answer.{Answer}
use Rattle.xsk_model.specs.declared.ask.Answer.TheVariants.{Old}
use Rattle.xsk_model.specs.declared.call.Mark.TheVariants.{Kick}
use Rattle.xsk_model.proofs.AskTheorems.{asks_join, answers_join}
use Rattle.xsk_turns.specs.Wakes.{IsParked}
use Rattle.xsk_laws.proofs.LastCalls.{same_last}
use Rattle.xsk_table.specs.Held.{Holder}
use Rattle.xsk_rings.specs.Serving.{Served}
use Rattle.xsk_rings.proofs.Telling.{may_give_served}
use Rattle.xsk_workers.specs.Parking.{token_in, token_of, IsParkerOf}

-- ---- the last call

module _ (p q : Holder) (ask : Ask) (answer : Answer) (items left : List Item) (served : Served p q (joined_call ask items) (joined_reply answer left)) where
  mine : List Told
  mine = own p.who p.view.seen

  told : own q.who q.view.seen ≡ with_told (own p.who p.view.seen) (joined_call ask items) (joined_reply answer left)
  told = (may_give_served p q (joined_call ask items) (joined_reply answer left) served).1

  -- a look at its kick that was answered 0 leaves it parked, and nothing else does
  pub sleeps : ask ≡ Look (Kick q.who) → answer ≡ Old 0 → IsParked q.who (own q.who q.view.seen)
  sleeps looked zero = (
    own p.who p.view.seen,
    told ∙ ap (λ (a : Ask). with_told (own p.who p.view.seen) (joined_call a items) (joined_reply answer left)) looked
        ∙ ap (λ (a : Answer). with_told (own p.who p.view.seen) (joined_call (Look (Kick q.who)) items) (joined_reply a left)) zero,
  )

  pub slept : IsParked q.who (own q.who q.view.seen) → (ask ≡ Look (Kick q.who)) × (answer ≡ Old 0)
  slept parked =
      let last = same_last (own p.who p.view.seen) parked.0 _ _ (sym told ∙ parked.1) in (
        sym (asks_join ask items).0 ∙ ap (λ (t : Told). ask_of t.call) last,
        sym (answers_join answer left).0 ∙ ap (λ (t : Told). answer_of t.reply) last,
      )

-- ---- parkers of callers from one on

abbrev pub AreParkersFrom : List TableId → ℕ → List (RuledParker (Unit {0}) Unruled Global) → Type 0
AreParkersFrom tokens n parkers = (k : ℕ) → option_map token_in (slice_get parkers k) ≡ slice_get tokens (n + k)

pub all_parkers : (tokens : List TableId) (parkers : List (RuledParker (Unit {0}) Unruled Global)) → map token_in parkers ≡ tokens → AreParkersFrom tokens 0 parkers
all_parkers tokens parkers is k = sym (slice_get-map token_in parkers k) ∙ ap (λ l. slice_get l k) is ∙ ap (slice_get tokens) (let sum : k ≡ 0 + k = omega arith in sum)

-- the next of them, where there is one, is the caller's, and those that are left are those of the callers after it
module _ (tokens : List TableId) (n : ℕ) (all rest : List (RuledParker (Unit {0}) Unruled Global)) where
  pub first_parker : (next : Option (RuledParker (Unit {0}) Unruled Global)) → all ≡ option_to_list next ++ rest → (next ≡ None → rest ≡ []) → AreParkersFrom tokens n all → IsParkerOf tokens n next
  first_parker None is none h = subst (AreParkersFrom tokens n) (is ∙ none refl) h 0 ∙ ap (slice_get tokens) (let sum : n + 0 ≡ n = omega arith in sum)
  first_parker (Some x) is none h = subst (AreParkersFrom tokens n) is h 0 ∙ ap (slice_get tokens) (let sum : n + 0 ≡ n = omega arith in sum)

  pub later_parkers : (next : Option (RuledParker (Unit {0}) Unruled Global)) → all ≡ option_to_list next ++ rest → (next ≡ None → rest ≡ []) → AreParkersFrom tokens n all → AreParkersFrom tokens (n + 1) rest
  later_parkers None is none h k =
      let sum : n + suc k ≡ n + 1 + k = omega arith in
      ap (λ l. option_map token_in (slice_get l k)) (none refl) ∙ subst (AreParkersFrom tokens n) (is ∙ none refl) h (suc k) ∙ ap (slice_get tokens) sum
  later_parkers (Some x) is none h k = let sum : n + suc k ≡ n + 1 + k = omega arith in subst (AreParkersFrom tokens n) is h (suc k) ∙ ap (slice_get tokens) sum

-- past those of the drivers there is none
pub no_parker : (wakers : List (RuledUnparker (Unit {0}) Unruled Global)) (n : ℕ) → length wakers ≤ n → IsParkerOf (map token_of wakers) n None
no_parker wakers n past = sym (slice_get_past (map token_of wakers) n (omega (arith, past, length-map wakers token_of)))

-- and they are no more than the pairs
pub few_wakers : (parkers : List (RuledParker (Unit {0}) Unruled Global)) (wakers : List (RuledUnparker (Unit {0}) Unruled Global)) (wakeup : Bool) (pairs : ℕ)
    → length parkers ≡ (if wakeup then pairs else 0) → map token_in parkers ≡ map token_of wakers → length wakers ≤ pairs
few_wakers parkers wakers true pairs count tied = omega (arith, count, length-map wakers token_of, length-map parkers token_in, ap (length {A = TableId}) tied)
few_wakers parkers wakers false pairs count tied = omega (arith, count, length-map wakers token_of, length-map parkers token_in, ap (length {A = TableId}) tied)
