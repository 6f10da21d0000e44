-- A driver's turn at its seat.
use Rattle.std.proofs.Common.{◌≡◌, ◌↔◌, ℕ, ◌<◌, Bool, IsTrue, Some, List, [], ◌∷◌, ◌++◌, length, sym, subst, ap, ◌∙◌, arith, append-nil}
use Rattle.std.specs.List.{slice_get}
use Rattle.std.proofs.lemmas.Option.{slice_get_within, get_or_from_slice_get}
use Rattle.xsk_umem.specs.Frame.{Frame}
use Rattle.xsk_model.specs.Config.{classes_of}
use Rattle.xsk_model.specs.Entry.{Told, Entry, told, own}
use Rattle.xsk_model.specs.History.{IsHistory}
use Rattle.xsk_model.specs.declared.call.Act.{Act}
use Rattle.xsk_model.specs.declared.call.Act.TheVariants.{Call as Calls, Ended as IsEnd}
use Rattle.xsk_model.proofs.Folds.{own-push_same}
use Rattle.xsk_turns.specs.Turns.{seat_of, start, turn}
use Rattle.xsk_turns.specs.Workers.{Setting, input_of}
use Rattle.xsk_turns.specs.SentWith.{sent_by_act}
use Rattle.xsk_driver.specs.SentRoom.{Sends}
use Rattle.xsk_driver.specs.Shown.{Shown as DriverShown}
use Rattle.xsk_driver.specs.Stands.{left}
use Rattle.xsk_driver.proofs.Runs.{tells_with}
use Rattle.xsk_machine.specs.Acts.{IsActAfter}
use Rattle.xsk_sim.specs.Rounds.{IsTurn}
use Rattle.xsk_sim.specs.Stalls.{settled_of, settled_by, AreQuiet}
use Rattle.xsk_sim.specs.Turning.{Notes}
use Rattle.xsk_sim.proofs.Stalling.{settled_at, driver_quiet, turn_who}
use Rattle.xsk_sim.proofs.Seating.{each_at}
use Rattle.xsk_bench.specs.Drives.{Drives}
use Rattle.xsk_bench.specs.Played.{act_of, IsSeated, HasPlayed}
use Rattle.xsk_bench.specs.declared.play.Play.{Play}
use Rattle.xsk_bench.specs.declared.seat.Seat.{Seat}

-- what a driver gave after a list of its calls and replies
pub act_after : (s : Setting) (who : ℕ) (d : DriverShown) (act : Act) (l : List Told) → who < length s.config.pairs → Drives s who d act l → IsActAfter s who act l
act_after s who d (Calls call) l known stands =
    let tells = tells_with s.wire s.config who (input_of s who) d (Calls call) l stands in
    (tells.legal, λ whole. tells.more (whole.driver known), record { driver = λ below. tells.run; app = λ a is. absurd (omega arith) })
act_after s who d IsEnd l known stands =
    let tells = tells_with s.wire s.config who (input_of s who) d IsEnd l stands in
    record { driver = λ below. tells.whole; app = λ a is. absurd (omega arith) }

-- and what it sent, the call that it gave counted as made
pub sends : (s : Setting) (who : ℕ) (d : DriverShown) (act : Act) (l : List Told) → Drives s who d act l → Sends d.sent (sent_by_act s.config who (input_of s who) l act)
sends s who d (Calls call) l stands = stands.sent
sends s who d IsEnd l stands = stands.sent

-- how many of its packets have their disposals by its next call
settled_told : (s : Setting) (h : List Entry) (e : Entry) (who : ℕ) (d : DriverShown) (act : Act) → e.who ≡ who → act ≡ Calls e.call → Drives s who d act (own who h)
    → settled_by s (h ++ e ∷ []) who ≡ length d.kept.disposals
settled_told s h e who d act mine is stands =
    let seat = seat_of s.wire s.config who in
    let gave : Drives s who d (Calls e.call) (own who h) = subst (λ (a : Act). Drives s who d a (own who h)) is stands in
    ap (settled_of s who) (own-push_same who h e mine)
    ∙ settled_at (turn seat) (turn seat (start (classes_of s.config) (input_of s who))) (own who h) 0 d.kept e.call (left seat d.wait d.noted d.kept) (told e) gave.asks

module _ (s : Setting) (frames : List Frame) where
  -- a driver's turn changes nothing exactly where it is told so
  pub turn_quiet : (Whole : ℕ → List Told → Type 0) (h : List Entry) (who : ℕ) (es : List Entry) (d : DriverShown) (act : Act) (before noted : ℕ) (still : Bool)
      → IsTurn Whole h who es → IsHistory s.config frames (h ++ es) → who < length s.config.pairs → Drives s who d act (own who h) → before ≡ settled_by s h who
      → Notes act before (length d.kept.disposals) noted still es → (IsTrue still ↔ AreQuiet s frames h es) × (noted ≡ settled_by s (h ++ es) who)
  turn_quiet Whole h who [] d act before noted still turns legal known stands was notes =
      ((λ yes. tt, λ none. notes.0), notes.1 ∙ was ∙ ap (λ l. settled_by s l who) (sym (append-nil h)))
  turn_quiet Whole h who (e ∷ []) d act before noted still turns legal known stands was notes =
      let mine = (turn_who Whole h who e [] turns).0 in
      let is = settled_told s h e who d act mine notes.0 stands in
      let quiet = driver_quiet s frames h e who legal mine before (length d.kept.disposals) still known was is notes.2 in
      ((λ yes. (quiet.0 yes, tt), λ all. quiet.1 all.0), notes.1 ∙ sym is)
  turn_quiet Whole h who (e ∷ f ∷ es) d act before noted still turns legal known stands was notes =
      let no : f ∷ es ≡ [] = (turn_who Whole h who e (f ∷ es) turns).1 in cc

-- what the driver of a pair sent
pub sent_at : (s : Setting) (frames : List Frame) (h : List Entry) (p : Play) (pair : ℕ) (seat : Seat) → HasPlayed s frames h p → slice_get p.seats.items pair ≡ Some seat
    → Sends seat.driver.sent (sent_by_act s.config pair (input_of s pair) (own pair h) (act_of seat))
sent_at s frames h p pair seat played at =
    let items = p.seats.items in
    let here : IsSeated s p.room h pair seat =
    each_at items 0 pair pair _ seat played.seats (slice_get_within items pair seat at) (omega arith) (sym (get_or_from_slice_get items pair seat seat at)) in
    sends s pair seat.driver (act_of seat) (own pair h) here.drives
