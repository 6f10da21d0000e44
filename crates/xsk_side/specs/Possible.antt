-- Which calls of a program are possible: there is a kernel, which makes the calls that a kernel may make, so that the program's calls
-- get these replies. Lists have the latest call first.
use Rattle.std.specs.Prelude.{◌≡◌, Bool, true, false, if◌then◌else◌, List, [], ◌∷◌}
use Rattle.xsk_side.specs.Setting.{Setting, IsSetting, size_of}
use Rattle.xsk_side.specs.Object.{Entry, ring_of, ring_at, Replies}
use Rattle.xsk_side.specs.Legal.{IsLegal}
use Rattle.xsk_side.specs.declared.call.Party.{Party}
use Rattle.xsk_side.specs.declared.call.Party.TheVariants.{Program, Kernel}
use Rattle.xsk_side.specs.declared.call.Call.{Call}

abbrev pub is_party : Party → Party → Bool
is_party Program Program = true
is_party Program Kernel = false
is_party Kernel Program = false
is_party Kernel Kernel = true

-- a party's own calls
abbrev pub own : Party → List Entry → List Call
own who [] = []
own who (e ∷ past) = if is_party who e.who then e.call ∷ own who past else own who past

-- each call is one that its party may make after its own earlier ones, and its reply one that its ring may give then
abbrev pub IsHistory : Setting → List Entry → Type 0
IsHistory s [] = IsSetting s
IsHistory s (e ∷ past) =
    IsHistory s past
    × IsLegal s e.who (own e.who past) e.call
    × Replies (size_of s (ring_of e.call)) (ring_at (ring_of e.call) past) e.call

-- the program's calls in some history
pub record Possible (s : Setting) (calls : List Call) : Type 0 where
  pub history : List Entry
  pub legal : IsHistory s history
  pub own : own Program history ≡ calls
