-- Calls that were made: one of a caller's own with its reply, and one of all callers' with its caller.
use Rattle.std.specs.Prelude.{ℕ, ◌==◌, if◌then◌else◌, List, [], ◌∷◌, ◌++◌}
use Rattle.xsk_model.specs.declared.call.Call.{Call}
use Rattle.xsk_model.specs.declared.call.Reply.{Reply}

pub record Told : Type 0 where
  pub call : Call
  pub reply : Reply

-- a call and its reply, behind others
abbrev pub with_told : List Told → Call → Reply → List Told
with_told l call reply = l ++ (record { call = call; reply = reply }) ∷ []

pub record Entry : Type 0 where
  pub who : ℕ
  pub call : Call
  pub reply : Reply

abbrev pub told : Entry → Told
told e = record { call = e.call; reply = e.reply }

-- what all callers were told, in order
abbrev pub all_told : List Entry → List Told
all_told [] = []
all_told (e ∷ es) = told e ∷ all_told es

-- a caller's own calls and replies, in order
abbrev pub own : ℕ → List Entry → List Told
own who [] = []
own who (e ∷ es) = if e.who == who then told e ∷ own who es else own who es
