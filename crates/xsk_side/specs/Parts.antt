-- What the fields of a setting and of entries show.
use Rattle.xsk_side.specs.Setting.{Setting}
use Rattle.xsk_side.specs.declared.setting.Setting.TheInside.{Inside}

abbrev pub parts_of : Inside → Setting
parts_of s = record {
  geometry = record { frames = s.frames; chunk = s.chunk; headroom = s.headroom };
  pairs = s.pairs.items;
  sockets = s.sockets.items;
  rules = s.rules;
}
