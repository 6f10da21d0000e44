-- The laws of what is possible. Lists have the latest call first.
use Rattle.std.specs.Prelude.{◌≡◌, ◌↔◌, ℕ, ◌≤◌, IsTrue, if◌then◌else◌, List, ◌++◌}
use Rattle.xsk_model.specs.declared.call.Ring.{Ring}
use Rattle.xsk_side.specs.Setting.{Setting}
use Rattle.xsk_side.specs.Entries.{times}
use Rattle.xsk_side.specs.Object.{Entry, ring_at}
use Rattle.xsk_side.specs.Own.{has}
use Rattle.xsk_side.specs.Possible.{IsHistory, Possible, own}
use Rattle.xsk_side.specs.Local.{AllFit}
use Rattle.xsk_side.specs.declared.setting.Rules.{Rules}
use Rattle.xsk_side.specs.declared.call.Party.{Party}
use Rattle.xsk_side.specs.declared.call.Call.{Call}

-- where calls are possible, so are the first of them
abbrev pub FirstParts : Type 0
FirstParts = (s : Setting) (later calls : List Call) → Possible s (later ++ calls) → Possible s calls

-- what bounds a kernel less: the option that a packet goes on, a frame from any FILL, and data anywhere in its frame
pub record IsWider (rules wider : Rules) : Type 0 where
  pub sg : IsTrue rules.sg → IsTrue wider.sg
  pub own : IsTrue wider.own → IsTrue rules.own
  pub at_data : IsTrue wider.at_data → IsTrue rules.at_data

-- where a kernel is bound less, all that was possible still is
abbrev pub WiderKernels : Type 0
WiderKernels = (s : Setting) (wider : Rules) (calls : List Call)
    → IsWider s.rules wider → Possible s calls → Possible (record s { rules = wider }) calls

-- ---- after each history, each frame has one holder: a party that has it, or a ring in which it stands and wasn't peeked

-- the places of a frame
pub data Holder : Type 0 where
  By : Party → Holder
  In : Ring → Holder

-- how often it is there
abbrev pub held_by : Setting → List Entry → ℕ → Holder → ℕ
held_by s h f (By who) = if has s who (own who h) f then 1 else 0
held_by s h f (In r) = times s f (ring_at r h).out

pub record HasOneHolder (s : Setting) (h : List Entry) (f : ℕ) : Type 0 where
  pub holder : Holder
  pub once : held_by s h f holder ≡ 1
  pub no_other : (other : Holder) → held_by s h f other ≡ 1 → other ≡ holder
  pub few : (other : Holder) → held_by s h f other ≤ 1

abbrev pub OneHolder : Type 0
OneHolder = (s : Setting) (h : List Entry) (f : ℕ) → IsHistory s h → HasOneHolder s h f

-- calls are possible exactly where each fits after those before it
abbrev pub LocalForm : Type 0
LocalForm = (s : Setting) (calls : List Call) → Possible s calls ↔ AllFit s calls
