-- The laws of a recording's text.
use Rattle.std.specs.Prelude.{◌≡◌, ℕ, List}
use Rattle.xsk_recording.specs.Verdict.{IsVerdict}
use Rattle.xsk_recording.specs.declared.verdict.Verdict.{Verdict}

-- a text has one verdict at most
abbrev pub OneVerdict : Type 0
OneVerdict = (text : List ℕ) (verdict other : Verdict) → IsVerdict text verdict → IsVerdict text other → verdict ≡ other
