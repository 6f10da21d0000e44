-- The header of a recording, line by line: the title, the UMEM, its pairs, its sockets, what the kernel may do, and the word `calls`.
--
--     xsk recording 1
--     umem FRAMES CHUNK HEADROOM
--     pair FILL COMP
--     socket PAIR RX TX
--     kernel [sg] [own] [data] [metadata]
--     calls
use Rattle.std.specs.Prelude.{ℕ, ◌==◌, nat_lt, Bool, true, false, if◌then◌else◌, Option, None, Some, List, [], ◌∷◌, ◌++◌, length, codes}
use Rattle.xsk_umem.specs.Geometry.{Geometry}
use Rattle.xsk_side.specs.Setting.{Setting}
use Rattle.xsk_side.specs.declared.setting.Pair.{Pair}
use Rattle.xsk_side.specs.declared.setting.Socket.{Socket}
use Rattle.xsk_side.specs.declared.setting.Rules.{Rules}
use Rattle.xsk_lines.specs.Reading.{◌>>=◌, choose, word_at, small_at}
use Rattle.xsk_recording.specs.Line.{closed, ended}
use Rattle.xsk_recording.specs.declared.head.Next.{Next}
use Rattle.xsk_recording.specs.declared.head.Next.TheVariants.{Title, Umem, Pairs, Sockets, Mark, Calls}

-- three numbers that end a line
unfoldable pub three_at : List ℕ → Option (ℕ × ℕ × ℕ)
three_at xs =
    small_at xs >>= λ first. word_at (codes " ") first.1 >>= λ rest.
    small_at rest >>= λ second. word_at (codes " ") second.1 >>= λ later.
    small_at later >>= λ third. closed (first.0, second.0, third.0) third.1

-- the numbers of the line of a UMEM, of a pair, of a socket
unfoldable pub umem_at : List ℕ → Option Geometry
umem_at xs = three_at xs >>= λ n. Some (record { frames = n.0; chunk = n.1; headroom = n.2 })

unfoldable pub pair_at : List ℕ → Option Pair
pair_at xs =
    small_at xs >>= λ fill. word_at (codes " ") fill.1 >>= λ rest.
    small_at rest >>= λ comp. closed (record { fill = fill.0; comp = comp.0 }) comp.1

-- 0 says that there is no such ring
abbrev pub size_told : ℕ → Option ℕ
size_told n = if n == 0 then None else Some n

unfoldable pub socket_at : List ℕ → Option Socket
socket_at xs = three_at xs >>= λ n. Some (record { pair = n.0; rx = size_told n.1; tx = size_told n.2 })

-- whether a word stands here, and the text behind it
abbrev pub flagged : List ℕ → Option (List ℕ) → Bool × List ℕ
flagged xs None = (false, xs)
flagged xs (Some rest) = (true, rest)

abbrev pub flag_at : List ℕ → List ℕ → Bool × List ℕ
flag_at word xs = flagged xs (word_at word xs)

-- The switches, in this order, and whether the UMEM has room for TX metadata: `metadata` is for hints alone, and allows and forbids nothing.
unfoldable pub kernel_at : List ℕ → Option (Rules × Bool)
kernel_at xs =
    let sg = flag_at (codes " sg") xs in
    let own = flag_at (codes " own") sg.1 in
    let at_data = flag_at (codes " data") own.1 in
    let metadata = flag_at (codes " metadata") at_data.1 in
    closed (record { sg = sg.0; own = own.0; at_data = at_data.0 }, metadata.0) metadata.1

-- ---- one line after another: which comes next, and the setting as far as it is told, with `metadata` beside it

pub record Header : Type 0 where
  pub next : Next
  pub setting : Setting
  pub metadata : Bool

abbrev pub no_header : Header
no_header = record {
  next = Title;
  setting = record { geometry = record { frames = 0; chunk = 0; headroom = 0 }; pairs = []; sockets = []; rules = record { sg = false; own = false; at_data = false } };
  metadata = false;
}

abbrev pub towards : Next → Header → Header
towards next h = record h { next = next }

abbrev pub with_setting : Next → Header → Setting → Header
with_setting next h s = record h { next = next; setting = s }

-- at most 64 pairs, and 64 sockets
abbrev pub with_pair : Header → Pair → Option Header
with_pair h pair =
    if nat_lt (length h.setting.pairs) 64 then Some (with_setting Pairs h (record h.setting { pairs = h.setting.pairs ++ pair ∷ [] })) else None

abbrev pub with_socket : Header → Socket → Option Header
with_socket h socket =
    if nat_lt (length h.setting.sockets) 64 then Some (with_setting Sockets h (record h.setting { sockets = h.setting.sockets ++ socket ∷ [] }))
    else None

abbrev pub with_kernel : Header → Rules × Bool → Header
with_kernel h told = record h { next = Mark; setting = record h.setting { rules = told.0 }; metadata = told.1 }

abbrev pub umem_line : Header → List ℕ → Option Header
umem_line h xs = umem_at xs >>= λ g. Some (with_setting Pairs h (record h.setting { geometry = g }))

abbrev pub pair_line : Header → List ℕ → Option Header
pair_line h xs = pair_at xs >>= with_pair h

abbrev pub socket_line : Header → List ℕ → Option Header
socket_line h xs = socket_at xs >>= with_socket h

abbrev pub kernel_line : Header → List ℕ → Option Header
kernel_line h xs = kernel_at xs >>= λ told. Some (with_kernel h told)

abbrev pub header_line : Next → Header → List ℕ → Option Header
header_line Title h xs = ended (codes "xsk recording 1") (towards Umem h) xs
header_line Umem h xs = word_at (codes "umem ") xs >>= umem_line h
header_line Pairs h xs = choose (word_at (codes "pair ") xs) (pair_line h) (choose (word_at (codes "socket ") xs) (socket_line h) None)
header_line Sockets h xs = choose (word_at (codes "socket ") xs) (socket_line h) (choose (word_at (codes "kernel") xs) (kernel_line h) None)
header_line Mark h xs = ended (codes "calls") (towards Calls h) xs
header_line Calls h xs = None

abbrev pub header_after : Header → List ℕ → Option Header
header_after h xs = header_line h.next h xs
