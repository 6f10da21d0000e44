-- A driver keeps that it is parked exactly where it looks at its kick.
use Rattle.std.proofs.Common.{◌≡◌, Bool, true, false, Option, Some, None, List, [], refl, sym, ap, ◌∙◌, is_some}
use Rattle.xsk_turns.proofs.Calls.{Told, Kick, Look}
use Rattle.xsk_model.specs.Config.{classes_of}
use Rattle.xsk_turns.specs.Turns.{Seat, Kept, seat_of, start, turn}
use Rattle.xsk_turns.specs.Watching.{ParkedLooks, EndsAwake}
use Rattle.xsk_turns.proofs.Walks.{Anything, meet_anything}
use Rattle.xsk_turns.proofs.DriverStages.{Family, Parked, LookKick, found_none, kicked, parks, Said, AtCalls, AtEntries, AtSilent, IsLaw}
use Rattle.xsk_turns.proofs.DriverWalk.{at_call, at_end}

module _ (seat : Seat) where
  abbrev At : Family
  At (Parked frames) noted kept l = kept.parked ≡ Some frames
  At place noted kept l = kept.parked ≡ None

  abbrev Looks : Said
  Looks kept call l = (is_some kept.parked ≡ true → call ≡ Look (Kick seat.pair)) × (call ≡ Look (Kick seat.pair) → is_some kept.parked ≡ true)

  abbrev Awake : Kept → List Told → Type 0
  Awake kept l = kept.parked ≡ None

  not_parked : {A : Type 0} (o : Option Bool) → o ≡ None → is_some o ≡ true → A
  not_parked o e f = absurd (let no : false ≡ true = sym (ap is_some e) ∙ f in cc)

  calls : AtCalls seat Anything At Looks
  calls (LookKick frames) noted kept l known h = ((λ e. refl), λ e. ap is_some h)
  calls p noted kept l known h = ((λ e. not_parked kept.parked h e), λ e. absurd (cc))

  entries : AtEntries seat Anything At Looks
  entries (found_none n) noted kept l known found h a q = refl
  entries (kicked frames n) noted kept l known found h a q = refl
  entries e noted kept l known found h a q = h

  silent : AtSilent seat Anything At
  silent parks noted kept l = λ h e. refl
  silent p noted kept l = λ h e. h

  law : IsLaw seat Anything At Looks Awake
  law = record { calls = calls; entries = entries; silent = silent; ends = λ noted kept l n known h a q. h }

pub parked_looks : ParkedLooks
parked_looks wire c d input l kept call rest asks =
    let s = seat_of wire c d in
    at_call s Anything (At s) (Looks s) (Awake s) (law s) (start (classes_of c) input) refl l (meet_anything (turn s) (turn s (start (classes_of c) input)) [] l) kept call rest asks

pub ends_awake : EndsAwake
ends_awake wire c d input l kept ends =
    let s = seat_of wire c d in
    at_end s Anything (At s) (Looks s) (Awake s) (law s) (start (classes_of c) input) refl l (meet_anything (turn s) (turn s (start (classes_of c) input)) [] l) kept ends
