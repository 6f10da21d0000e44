-- Rules, and the verdicts that meet them. That a program redirects by sums of a packet's first bytes is this project's own;
-- a real program is BPF code (af_xdp.rst, "XSKMAP / BPF_MAP_TYPE_XSKMAP").
use Rattle.std.specs.Prelude.{◌≡◌, ◌≢◌, ◌⊎◌, ℕ, ◌+◌, ◌*◌, ◌<◌, ◌≤◌, ◌==◌, ◌&&◌, Bool, true, false, if◌then◌else◌, List, [], ◌∷◌, length, slice_index}
use Rattle.xsk_model.specs.Steering.{packet_cell}
use Rattle.xsk_prog.specs.declared.rule.Rule.{Rule}
use Rattle.xsk_prog.specs.declared.rule.Rule.TheVariants.{Redirect as ByClass, Drop as DropAll, Pass as PassAll, EtherType, Fixed, AtMost, Bounce as BounceAll, BounceType}
use Rattle.xsk_prog.specs.declared.rule.Verdict.{Verdict}
use Rattle.xsk_prog.specs.declared.rule.Verdict.TheVariants.{Drop, Pass, Redirect, Bounce}

-- a packet on a queue that a program is asked about: it has an Ethernet header, and at most as many bytes as a record of a
-- capture; a port has at most four queues
pub record IsRuled (packet : List ℕ) (queue : ℕ) : Type 0 where
  pub least : 14 ≤ length packet
  pub most : length packet ≤ 262144
  pub below : queue < 4

-- a queue has 1 to 64 sockets
pub record IsSocketCount (sockets : ℕ) : Type 0 where
  pub some : 1 ≤ sockets
  pub few : sockets ≤ 64

abbrev pub HasSockets : Rule → Type 0
HasSockets (ByClass sockets) = IsSocketCount sockets
HasSockets DropAll = Unit {0}
HasSockets PassAll = Unit {0}
HasSockets (EtherType kind sockets) = IsSocketCount sockets
HasSockets (Fixed cell) = Unit {0}
HasSockets (AtMost cells) = Unit {0}
HasSockets BounceAll = Unit {0}
HasSockets (BounceType kind) = Unit {0}

-- the two bytes behind both addresses of an Ethernet header, big endian
abbrev pub ether_type_of : List ℕ → ℕ
ether_type_of packet = slice_index packet 12 * 256 + slice_index packet 13

-- a redirect leads to a cell below a number, and nothing bounces
abbrev pub IsBelow : ℕ → Verdict → Type 0
IsBelow cells Drop = Unit {0}
IsBelow cells Pass = Unit {0}
IsBelow cells (Redirect cell) = cell < cells
IsBelow cells Bounce = ⊥

abbrev pub Meets : Rule → List ℕ → ℕ → Verdict → Type 0
Meets (ByClass sockets) packet queue verdict = verdict ≡ Redirect (packet_cell sockets queue packet)
Meets DropAll packet queue verdict = verdict ≡ Drop
Meets PassAll packet queue verdict = verdict ≡ Pass
Meets (EtherType kind sockets) packet queue verdict = verdict ≡ (if ether_type_of packet == kind then Redirect (packet_cell sockets queue packet) else Pass)
Meets (Fixed cell) packet queue verdict = verdict ≡ Redirect cell
Meets (AtMost cells) packet queue verdict = IsBelow cells verdict
Meets BounceAll packet queue verdict = verdict ≡ Bounce
Meets (BounceType kind) packet queue verdict = verdict ≡ (if ether_type_of packet == kind then Bounce else Pass)

-- a verdict meets rules in a chain: there is none and it is Pass, it meets the first and isn't Pass, or Pass meets the first and
-- it meets the rest
abbrev pub MeetsChain : List Rule → List ℕ → ℕ → Verdict → Type 0
MeetsChain [] packet queue verdict = verdict ≡ Pass
MeetsChain (rule ∷ rules) packet queue verdict =
    (Meets rule packet queue verdict × (verdict ≢ Pass)) ⊎ (Meets rule packet queue Pass × MeetsChain rules packet queue verdict)

-- the verdict that a rule gives itself: its only one, and of those of AtMost that the packet is dropped
abbrev pub verdict_of : Rule → List ℕ → ℕ → Verdict
verdict_of (ByClass sockets) packet queue = Redirect (packet_cell sockets queue packet)
verdict_of DropAll packet queue = Drop
verdict_of PassAll packet queue = Pass
verdict_of (EtherType kind sockets) packet queue = if ether_type_of packet == kind then Redirect (packet_cell sockets queue packet) else Pass
verdict_of (Fixed cell) packet queue = Redirect cell
verdict_of (AtMost cells) packet queue = Drop
verdict_of BounceAll packet queue = Bounce
verdict_of (BounceType kind) packet queue = if ether_type_of packet == kind then Bounce else Pass

-- ---- laws

abbrev pub MeetsOwn : Type 0
MeetsOwn = (rule : Rule) (packet : List ℕ) (queue : ℕ) → Meets rule packet queue (verdict_of rule packet queue)

-- whether a rule leaves exactly one verdict for each packet and queue
abbrev pub is_exact : Rule → Bool
is_exact (ByClass sockets) = true
is_exact DropAll = true
is_exact PassAll = true
is_exact (EtherType kind sockets) = true
is_exact (Fixed cell) = true
is_exact (AtMost cells) = false
is_exact BounceAll = true
is_exact (BounceType kind) = true

abbrev pub OneVerdict : Type 0
OneVerdict = (rule : Rule) (packet : List ℕ) (queue : ℕ) (verdict : Verdict) → is_exact rule ≡ true → Meets rule packet queue verdict → verdict ≡ verdict_of rule packet queue

abbrev pub or_next : Verdict → Verdict → Verdict
or_next Drop next = Drop
or_next Pass next = next
or_next (Redirect cell) next = Redirect cell
or_next Bounce next = Bounce

-- the verdict that rules in a chain give themselves: the first that isn't Pass
abbrev pub chain_verdict_of : List Rule → List ℕ → ℕ → Verdict
chain_verdict_of [] packet queue = Pass
chain_verdict_of (rule ∷ rules) packet queue = or_next (verdict_of rule packet queue) (chain_verdict_of rules packet queue)

abbrev pub MeetsOwnChain : Type 0
MeetsOwnChain = (rules : List Rule) (packet : List ℕ) (queue : ℕ) → MeetsChain rules packet queue (chain_verdict_of rules packet queue)

abbrev pub are_exact : List Rule → Bool
are_exact [] = true
are_exact (rule ∷ rules) = is_exact rule && are_exact rules

abbrev pub OneChainVerdict : Type 0
OneChainVerdict = (rules : List Rule) (packet : List ℕ) (queue : ℕ) (verdict : Verdict) → are_exact rules ≡ true → MeetsChain rules packet queue verdict
    → verdict ≡ chain_verdict_of rules packet queue
