-- What is noted of a call once it was made.
use Rattle.std.proofs.Common.{◌≡◌, ℕ, List, refl, sym, subst}
use Rattle.xsk_umem.specs.declared.batch.Item.{Item}
use Rattle.xsk_model.specs.Config.{Config}
use Rattle.xsk_model.specs.Entry.{Told, with_told}
use Rattle.xsk_model.specs.Legal.{IsLegal}
use Rattle.xsk_model.specs.History.{MayGive, Fits}
use Rattle.xsk_model.specs.Asks.{joined_call, joined_reply}
use Rattle.xsk_model.specs.declared.ask.Ask.{Ask}
use Rattle.xsk_model.specs.declared.ask.Ask.TheVariants as ask
use Rattle.xsk_model.specs.declared.ask.Answer.{Answer}
use Rattle.xsk_model.specs.declared.ask.Answer.TheVariants as answer
use Rattle.xsk_model.specs.declared.call.Mark.{Mark}
use Rattle.xsk_model.specs.declared.call.Call.{Call}
use Rattle.xsk_model.specs.declared.call.Call.TheVariants.{Reserve, Submit, Peek, Release, Swap, Look}
use Rattle.xsk_model.specs.declared.call.Reply.{Reply}
use Rattle.xsk_model.specs.declared.call.Reply.TheVariants.{Granted, Full, Submitted, Items, Empty, Released, Old}
use Rattle.xsk_legal.specs.Noted.{Noted}
use Rattle.xsk_legal.specs.Standing.{StandsFor}
use Rattle.xsk_legal.specs.Given.{StandsGiven}
use Rattle.xsk_legal.proofs.Quiet.{needs_no_note}
use Rattle.xsk_legal.proofs.Going.{gift_legal, gift_fits}

-- what a reply brings that is to be noted: the places of a Reserve, the items of a Peek, and the number of a mark
abbrev pub IsGot : Call → Reply → Type 0
IsGot (Reserve r n) Granted = Unit {0}
IsGot (Peek r n) (Items items) = Unit {0}
IsGot (Swap m value) (Old old) = Unit {0}
IsGot (Look m) (Old old) = Unit {0}
IsGot call reply = ⊥

module _ (c : Config) (kept : Noted) (mine : List Told) where
  -- where nothing is to be noted of the reply, what was noted of the call stands for both
  pub none_got : (call : Call) (reply : Reply) → (IsGot call reply → ⊥) → StandsGiven c kept mine call → MayGive c mine kept.who call reply
      → StandsFor c kept (with_told mine call reply)
  none_got (Reserve r n) Granted other given gift = absurd (other tt)
  none_got (Reserve r n) (Full places) other given gift =
      needs_no_note c kept mine (Reserve r n) (Full places) given (gift_legal c mine kept.who (Reserve r n) (Full places) gift) (gift_fits c mine kept.who (Reserve r n) (Full places) gift) refl
  none_got (Reserve r n) Submitted other given gift = absurd (gift_fits c mine kept.who (Reserve r n) Submitted gift)
  none_got (Reserve r n) (Items items) other given gift = absurd (gift_fits c mine kept.who (Reserve r n) (Items items) gift)
  none_got (Reserve r n) Empty other given gift = absurd (gift_fits c mine kept.who (Reserve r n) Empty gift)
  none_got (Reserve r n) Released other given gift = absurd (gift_fits c mine kept.who (Reserve r n) Released gift)
  none_got (Reserve r n) (Old value) other given gift = absurd (gift_fits c mine kept.who (Reserve r n) (Old value) gift)
  none_got (Submit r items) Submitted other given gift = given
  none_got (Submit r items) Granted other given gift = absurd (gift_fits c mine kept.who (Submit r items) Granted gift)
  none_got (Submit r items) (Full places) other given gift = absurd (gift_fits c mine kept.who (Submit r items) (Full places) gift)
  none_got (Submit r items) (Items got) other given gift = absurd (gift_fits c mine kept.who (Submit r items) (Items got) gift)
  none_got (Submit r items) Empty other given gift = absurd (gift_fits c mine kept.who (Submit r items) Empty gift)
  none_got (Submit r items) Released other given gift = absurd (gift_fits c mine kept.who (Submit r items) Released gift)
  none_got (Submit r items) (Old value) other given gift = absurd (gift_fits c mine kept.who (Submit r items) (Old value) gift)
  none_got (Peek r n) Empty other given gift =
      needs_no_note c kept mine (Peek r n) Empty given (gift_legal c mine kept.who (Peek r n) Empty gift) (gift_fits c mine kept.who (Peek r n) Empty gift) refl
  none_got (Peek r n) (Items items) other given gift = absurd (other tt)
  none_got (Peek r n) Granted other given gift = absurd (gift_fits c mine kept.who (Peek r n) Granted gift)
  none_got (Peek r n) (Full places) other given gift = absurd (gift_fits c mine kept.who (Peek r n) (Full places) gift)
  none_got (Peek r n) Submitted other given gift = absurd (gift_fits c mine kept.who (Peek r n) Submitted gift)
  none_got (Peek r n) Released other given gift = absurd (gift_fits c mine kept.who (Peek r n) Released gift)
  none_got (Peek r n) (Old value) other given gift = absurd (gift_fits c mine kept.who (Peek r n) (Old value) gift)
  none_got (Release r n) Released other given gift = given
  none_got (Release r n) Granted other given gift = absurd (gift_fits c mine kept.who (Release r n) Granted gift)
  none_got (Release r n) (Full places) other given gift = absurd (gift_fits c mine kept.who (Release r n) (Full places) gift)
  none_got (Release r n) Submitted other given gift = absurd (gift_fits c mine kept.who (Release r n) Submitted gift)
  none_got (Release r n) (Items got) other given gift = absurd (gift_fits c mine kept.who (Release r n) (Items got) gift)
  none_got (Release r n) Empty other given gift = absurd (gift_fits c mine kept.who (Release r n) Empty gift)
  none_got (Release r n) (Old value) other given gift = absurd (gift_fits c mine kept.who (Release r n) (Old value) gift)
  none_got (Swap m value) (Old old) other given gift = absurd (other tt)
  none_got (Swap m value) Granted other given gift = absurd (gift_fits c mine kept.who (Swap m value) Granted gift)
  none_got (Swap m value) (Full places) other given gift = absurd (gift_fits c mine kept.who (Swap m value) (Full places) gift)
  none_got (Swap m value) Submitted other given gift = absurd (gift_fits c mine kept.who (Swap m value) Submitted gift)
  none_got (Swap m value) (Items got) other given gift = absurd (gift_fits c mine kept.who (Swap m value) (Items got) gift)
  none_got (Swap m value) Empty other given gift = absurd (gift_fits c mine kept.who (Swap m value) Empty gift)
  none_got (Swap m value) Released other given gift = absurd (gift_fits c mine kept.who (Swap m value) Released gift)
  none_got (Look m) (Old old) other given gift = absurd (other tt)
  none_got (Look m) Granted other given gift = absurd (gift_fits c mine kept.who (Look m) Granted gift)
  none_got (Look m) (Full places) other given gift = absurd (gift_fits c mine kept.who (Look m) (Full places) gift)
  none_got (Look m) Submitted other given gift = absurd (gift_fits c mine kept.who (Look m) Submitted gift)
  none_got (Look m) (Items got) other given gift = absurd (gift_fits c mine kept.who (Look m) (Items got) gift)
  none_got (Look m) Empty other given gift = absurd (gift_fits c mine kept.who (Look m) Empty gift)
  none_got (Look m) Released other given gift = absurd (gift_fits c mine kept.who (Look m) Released gift)

-- ---- calls and replies without their items

-- whether a call in this form has a reply that is to be noted
abbrev pub IsAskFor : Ask → Answer → Type 0
IsAskFor (ask.Reserve r n) a = a ≡ answer.Granted
IsAskFor (ask.Submit r) a = ⊥
IsAskFor (ask.Peek r n) a = a ≡ answer.Items
IsAskFor (ask.Release r n) a = ⊥
IsAskFor (ask.Swap m value) a = (old : ℕ) × (a ≡ answer.Old old)
IsAskFor (ask.Look m) a = (old : ℕ) × (a ≡ answer.Old old)

got_for : (a : Ask) (b : Answer) (given items : List Item) → IsGot (joined_call a given) (joined_reply b items) → IsAskFor a b
got_for (ask.Reserve r n) answer.Granted given items h = refl
got_for (ask.Reserve r n) (answer.Full free) given items h = absurd h
got_for (ask.Reserve r n) answer.Submitted given items h = absurd h
got_for (ask.Reserve r n) answer.Items given items h = absurd h
got_for (ask.Reserve r n) answer.Empty given items h = absurd h
got_for (ask.Reserve r n) answer.Released given items h = absurd h
got_for (ask.Reserve r n) (answer.Old number) given items h = absurd h
got_for (ask.Submit r) b given items h = h
got_for (ask.Peek r n) answer.Items given items h = refl
got_for (ask.Peek r n) answer.Granted given items h = absurd h
got_for (ask.Peek r n) (answer.Full free) given items h = absurd h
got_for (ask.Peek r n) answer.Submitted given items h = absurd h
got_for (ask.Peek r n) answer.Empty given items h = absurd h
got_for (ask.Peek r n) answer.Released given items h = absurd h
got_for (ask.Peek r n) (answer.Old number) given items h = absurd h
got_for (ask.Release r n) b given items h = h
got_for (ask.Swap m value) (answer.Old number) given items h = (number, refl)
got_for (ask.Swap m value) answer.Granted given items h = absurd h
got_for (ask.Swap m value) (answer.Full free) given items h = absurd h
got_for (ask.Swap m value) answer.Submitted given items h = absurd h
got_for (ask.Swap m value) answer.Items given items h = absurd h
got_for (ask.Swap m value) answer.Empty given items h = absurd h
got_for (ask.Swap m value) answer.Released given items h = absurd h
got_for (ask.Look m) (answer.Old number) given items h = (number, refl)
got_for (ask.Look m) answer.Granted given items h = absurd h
got_for (ask.Look m) (answer.Full free) given items h = absurd h
got_for (ask.Look m) answer.Submitted given items h = absurd h
got_for (ask.Look m) answer.Items given items h = absurd h
got_for (ask.Look m) answer.Empty given items h = absurd h
got_for (ask.Look m) answer.Released given items h = absurd h

pub nothing_got : (c : Config) (kept : Noted) (a k : Ask) (b : Answer) (items : List Item) → a ≡ k → (IsAskFor k b → ⊥)
    → (mine : List Told) (given : List Item) → StandsGiven c kept mine (joined_call a given) → MayGive c mine kept.who (joined_call a given) (joined_reply b items)
    → StandsFor c kept (with_told mine (joined_call a given) (joined_reply b items))
nothing_got c kept a k b items is other mine given stands gift =
    none_got c kept mine (joined_call a given) (joined_reply b items) (λ h. other (subst (λ (x : Ask). IsAskFor x b) is (got_for a b given items h))) stands gift

-- ---- Swaps and Looks

pub swap_got : (c : Config) (kept new : Noted) (a : Ask) (m : Mark) (value : ℕ) (b : Answer) (old : ℕ) (items : List Item) → a ≡ ask.Swap m value → b ≡ answer.Old old
    → ((mine : List Told) → StandsFor c kept mine → IsLegal c mine kept.who (Swap m value) → Fits c mine (Swap m value) (Old old) → StandsFor c new (with_told mine (Swap m value) (Old old)))
    → (mine : List Told) (given : List Item) → StandsGiven c kept mine (joined_call a given) → MayGive c mine kept.who (joined_call a given) (joined_reply b items)
    → StandsFor c new (with_told mine (joined_call a given) (joined_reply b items))
swap_got c kept new a m value b old items is answered notes mine given =
    subst (λ (x : Ask). StandsGiven c kept mine (joined_call x given) → MayGive c mine kept.who (joined_call x given) (joined_reply b items)
    → StandsFor c new (with_told mine (joined_call x given) (joined_reply b items))) (sym is)
    (subst (λ (x : Answer). StandsFor c kept mine → MayGive c mine kept.who (Swap m value) (joined_reply x items) → StandsFor c new (with_told mine (Swap m value) (joined_reply x items))) (sym answered)
    (λ h gift. notes mine h (gift_legal c mine kept.who (Swap m value) (Old old) gift) (gift_fits c mine kept.who (Swap m value) (Old old) gift)))

pub look_got : (c : Config) (kept new : Noted) (a : Ask) (m : Mark) (b : Answer) (old : ℕ) (items : List Item) → a ≡ ask.Look m → b ≡ answer.Old old
    → ((mine : List Told) → StandsFor c kept mine → IsLegal c mine kept.who (Look m) → Fits c mine (Look m) (Old old) → StandsFor c new (with_told mine (Look m) (Old old)))
    → (mine : List Told) (given : List Item) → StandsGiven c kept mine (joined_call a given) → MayGive c mine kept.who (joined_call a given) (joined_reply b items)
    → StandsFor c new (with_told mine (joined_call a given) (joined_reply b items))
look_got c kept new a m b old items is answered notes mine given =
    subst (λ (x : Ask). StandsGiven c kept mine (joined_call x given) → MayGive c mine kept.who (joined_call x given) (joined_reply b items)
    → StandsFor c new (with_told mine (joined_call x given) (joined_reply b items))) (sym is)
    (subst (λ (x : Answer). StandsFor c kept mine → MayGive c mine kept.who (Look m) (joined_reply x items) → StandsFor c new (with_told mine (Look m) (joined_reply x items))) (sym answered)
    (λ h gift. notes mine h (gift_legal c mine kept.who (Look m) (Old old) gift) (gift_fits c mine kept.who (Look m) (Old old) gift)))

-- between a Swap and its reply, and a Look and its, the standing stands for the calls before
pub given_swap : (c : Config) (kept : Noted) (mine : List Told) (a : Ask) (m : Mark) (value : ℕ) (given : List Item) → a ≡ ask.Swap m value → StandsGiven c kept mine (joined_call a given) → StandsFor c kept mine
given_swap c kept mine a m value given is h = subst (λ (x : Ask). StandsGiven c kept mine (joined_call x given)) is h

pub given_look : (c : Config) (kept : Noted) (mine : List Told) (a : Ask) (m : Mark) (given : List Item) → a ≡ ask.Look m → StandsGiven c kept mine (joined_call a given) → StandsFor c kept mine
given_look c kept mine a m given is h = subst (λ (x : Ask). StandsGiven c kept mine (joined_call x given)) is h
