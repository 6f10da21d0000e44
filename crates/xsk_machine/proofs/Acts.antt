-- What a driver and an application give after a list of their calls and replies.
use Rattle.std.proofs.Common.{◌≡◌, ℕ, ◌<◌, ◌≤◌, Bool, true, false, List, [], length, refl, sym, subst, ap, ◌∙◌, ⊎_elim, arith}
use Rattle.std.specs.Prelude.{IsTrue}
use Rattle.std.specs.List.{concat}
use Rattle.xsk_model.specs.Rings.{caller_of}
use Rattle.xsk_turns.specs.AppOwned.{HasOwnFrames}
use Rattle.xsk_turns.proofs.AppHomes.{own_frames, had_none}
use Rattle.xsk_model.specs.Entry.{Told, with_told, own}
use Rattle.xsk_model.specs.History.{MayGive}
use Rattle.xsk_model.specs.declared.call.Call.{Call}
use Rattle.xsk_model.specs.declared.call.Reply.{Reply}
use Rattle.xsk_model.specs.declared.call.Act.{Act}
use Rattle.xsk_model.specs.declared.call.Act.TheVariants.{Call as Calls, Ended as IsEnd}
use Rattle.xsk_driver.specs.Shown.{Shown as DriverShown}
use Rattle.xsk_driver.specs.Runs.{StandsWith}
use Rattle.xsk_driver.proofs.Runs.{tells_with}
use Rattle.xsk_app.specs.Shown.{Shown as AppShown}
use Rattle.xsk_turns.specs.Turns.{seat_of, start, turn as driver_turn}
use Rattle.xsk_turns.specs.AppTurns.{app_start_by, app_turn, IsAppRunBy, IsWholeAppRunBy}
use Rattle.xsk_model.specs.Config.{classes_of}
use Rattle.xsk_turns.proofs.ScriptLemmas.{whole_run}
use Rattle.xsk_app.specs.Runs.{StandsWith as AppStandsWith}
use Rattle.xsk_app.proofs.Runs.{tells_with as app_tells_with}
use Rattle.xsk_turns.specs.Workers.{Setting, input_of, IsWorkerRun}
use Rattle.xsk_machine.specs.Acts.{leaving, sent_along, HasRoomToSend, DriverStands, AppStands, IsActAfter}

-- ---- drivers

pub driver_after : (s : Setting) (who : ℕ) (d : DriverShown) (act : Act) (l : List Told) → who < length s.config.pairs → HasRoomToSend s who d
    → StandsWith s.wire s.config who (input_of s who) d act l → DriverStands s who d act l × IsActAfter s who act l
driver_after s who d (Calls call) l known room stands =
    let tells = tells_with s.wire s.config who (input_of s who) d (Calls call) l stands in (
      record { known = known; room = room; stands = stands },
      (tells.legal, λ whole. tells.more (whole.driver known), record { driver = λ below. tells.run; app = λ a is. absurd (omega arith) }),
    )
driver_after s who d IsEnd l known room stands =
    let tells = tells_with s.wire s.config who (input_of s who) d IsEnd l stands in
    (record { known = known; room = room; stands = stands }, record { driver = λ below. tells.whole; app = λ a is. absurd (omega arith) })

-- its room stays
pub room_stays : (s : Setting) (who : ℕ) (old new : DriverShown) → HasRoomToSend s who old
    → (new.sent.most_packets ≡ old.sent.most_packets) × (new.sent.most_bytes ≡ old.sent.most_bytes) → HasRoomToSend s who new
room_stays s who old new room same = record { packets = same.0 ∙ room.packets; bytes = same.1 ∙ room.bytes }

-- packets are no more than what can leave by a pair's port on its queue
pub record IsWithin (s : Setting) (who : ℕ) (packets : List (List ℕ)) : Type 0 where
  pub count : length packets ≤ length (leaving s who)
  pub bytes : length (concat packets) ≤ length (concat (leaving s who))

is_false : (b : Bool) → (IsTrue b → ⊥) → b ≡ false
is_false true h = absurd (h refl)
is_false false h = refl

-- a driver that has ended and has sent no more than that keeps what it sent
pub sent_at : (s : Setting) (who : ℕ) (d : DriverShown) (act : Act) (l : List Told) → act ≡ IsEnd → DriverStands s who d act l
    → IsWithin s who (sent_along s who l)
    → d.sent.packets ≡ sent_along s who l
sent_at s who d act l is stands within =
    let ended : StandsWith s.wire s.config who (input_of s who) d IsEnd l = subst (λ a. StandsWith s.wire s.config who (input_of s who) d a l) is stands.stands in
    let mine = sent_along s who l in
    ended.sent.kept (is_false d.sent.overrun (λ overran. ⊎_elim
    (λ (many : d.sent.most_packets < length mine). absurd (omega (arith, many, stands.room.packets, within.count)))
    (λ (many : d.sent.most_bytes < length (concat mine)). absurd (omega (arith, many, stands.room.bytes, within.bytes)))
    (ended.sent.exceeds.0 overran)))

-- ---- applications

-- in a history all frames that an application has had are at home with it
pub app_own : (s : Setting) (who : ℕ) (a : AppShown) (l : List Told) (call : Call) (r : Reply) → who ≡ caller_of s.config a.app → MayGive s.config l who call r
    → HasOwnFrames s.config a.app (with_told l call r)
app_own s who a l call r is may = own_frames s.config a.app may.frames may.history (with_told l call r) may.legal (ap (λ w. own w may.history) (sym is) ∙ may.entries)

-- one that has made no call has had none
pub app_has_none : (s : Setting) (a : AppShown) → HasOwnFrames s.config a.app []
app_has_none s a = had_none s.config a.app

app_acts : (s : Setting) (a : AppShown) (act : Act) (l : List Told) → HasOwnFrames s.config a.app l → AppStandsWith s.manner s.config a.app a act l → IsActAfter s (caller_of s.config a.app) act l
app_acts s a (Calls call) l own stands =
    let tells = app_tells_with s.manner s.config a.app a (Calls call) l stands in (
      tells.legal own,
      λ whole. tells.more (whole.app a.app refl),
      record {
        driver = λ below. absurd (omega arith);
        app = λ b is. subst (λ k. IsAppRunBy s.manner s.config k l) (let e : a.app ≡ b = omega arith in e) tells.run;
      },
    )
app_acts s a IsEnd l own stands =
    let tells = app_tells_with s.manner s.config a.app a IsEnd l stands in
    record {
      driver = λ below. absurd (omega arith);
      app = λ b is. subst (λ k. IsWholeAppRunBy s.manner s.config k l) (let e : a.app ≡ b = omega arith in e) tells.whole;
    }

pub app_after : (s : Setting) (who : ℕ) (old new : AppShown) (act : Act) (l : List Told) → old.config ≡ s.config → who ≡ caller_of s.config old.app
    → HasOwnFrames s.config old.app l → (new.config ≡ old.config) × (new.app ≡ old.app) → AppStandsWith s.manner s.config old.app new act l → AppStands s who new act l × IsActAfter s who act l
app_after s who old new act l config caller own same stands =
    let mine : who ≡ caller_of s.config new.app = caller ∙ ap (caller_of s.config) (sym same.1) in
    let now : AppStandsWith s.manner s.config new.app new act l = subst (λ (n : ℕ). AppStandsWith s.manner s.config n new act l) (sym same.1) stands in
    (record { config = same.0 ∙ config; caller = mine; stands = now }, subst (λ w. IsActAfter s w act l) (sym mine) (app_acts s new act l (subst (λ (n : ℕ). HasOwnFrames s.config n l) (sym same.1) own) now))

-- a whole run is a run
pub worker_run : (s : Setting) (who : ℕ) (act : Act) (l : List Told) → IsActAfter s who act l → IsWorkerRun s who l
worker_run s who (Calls call) l after = after.2
worker_run s who IsEnd l after = record {
  driver = λ below. whole_run (driver_turn (seat_of s.wire s.config who)) (start (classes_of s.config) (input_of s who)) l (after.driver below);
  app = λ a is. whole_run (app_turn s.config a) (app_start_by s.manner s.config) l (after.app a is);
}
