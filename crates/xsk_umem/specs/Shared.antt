-- The bytes in which a list's packets stand: its own text, or the front of one that lists share.
use Rattle.std.specs.Prelude.{◌≡◌, ℕ, Option, Some, None, List, take}
use Rattle.std.specs.Arc.{arc_value}
use Rattle.xsk_umem.specs.declared.front.Front.{Front}

-- the bytes of a front
abbrev pub front_of : Front → List ℕ
front_of front = take front.len (arc_value front.text).items

abbrev pub bytes_of : List ℕ → Option Front → List ℕ
bytes_of own None = own
bytes_of own (Some front) = front_of front

-- a shared text never grows, so a list has no room in it
abbrev pub MaySpare : Option Front → ℕ → Type 0
MaySpare None spare = Unit {0}
MaySpare (Some front) spare = spare ≡ 0
