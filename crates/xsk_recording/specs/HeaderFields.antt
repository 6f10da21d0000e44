-- What the fields of a header show, and what its readers read.
use Rattle.std.specs.Prelude.{ℕ, Bool, true, false, Option, None, Some, List}
use Rattle.std.specs.Borrow.{Bor}
use Rattle.xsk_side.specs.Setting.{Setting, AreFrames, IsChunk, ArePairs, AreSockets}
use Rattle.xsk_side.specs.declared.setting.SettingError.{SettingError}
use Rattle.xsk_side.specs.declared.setting.SettingError.TheVariants.{Frames, Chunk, Pairs, Sockets}
use Rattle.xsk_recording.specs.Header.{Header}
use Rattle.xsk_recording.specs.declared.head.Next.{Next}
use Rattle.xsk_recording.specs.declared.head.Next.TheVariants as a_next
use Rattle.xsk_recording.specs.declared.head.Head.TheInside.{Inside}

abbrev pub header_of : Inside → Header
header_of h = record {
  next = h.next;
  setting = record {
    geometry = record { frames = h.frames; chunk = h.chunk; headroom = h.headroom };
    pairs = h.pairs.items;
    sockets = h.sockets.items;
    rules = h.rules;
  };
  metadata = h.metadata;
}

-- what is told behind a line, where it was of the form
abbrev pub head_view : Bool → Header → Option Header
head_view false h = None
head_view true h = Some h

abbrev pub flag_view : Bool × Bor (List ℕ) → Bool × List ℕ
flag_view read = (read.0, read.1.now)

-- the first reason for which this is no setting
abbrev pub IsNoSetting : Setting → SettingError → Type 0
IsNoSetting s Frames = AreFrames s.geometry.frames → ⊥
IsNoSetting s Chunk = AreFrames s.geometry.frames × (IsChunk s.geometry.chunk s.geometry.headroom → ⊥)
IsNoSetting s Pairs = AreFrames s.geometry.frames × IsChunk s.geometry.chunk s.geometry.headroom × (ArePairs s.pairs → ⊥)
IsNoSetting s Sockets = AreFrames s.geometry.frames × IsChunk s.geometry.chunk s.geometry.headroom × ArePairs s.pairs × (AreSockets s.pairs s.sockets → ⊥)

-- whether the line of the kernel was read last
abbrev pub is_mark : Next → Bool
is_mark a_next.Title = false
is_mark a_next.Umem = false
is_mark a_next.Pairs = false
is_mark a_next.Sockets = false
is_mark a_next.Mark = true
is_mark a_next.Calls = false
